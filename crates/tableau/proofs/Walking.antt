-- Walks of the product, and how obligations go along them.
use mathlib.Core.Path.{◌≡◌, refl, sym, ap, subst, ◌∙◌}
use mathlib.Core.Bool.{Bool}
use mathlib.Core.List.{List, [], ◌∷◌, ◌++◌}
use mathlib.Core.Logic.{◌⊎◌, inl, inr}
use Prim.Native.Nat.{ℕ, zero, suc, ◌<◌, zero-le, suc-le-suc}
use native.Mathlib.Nat.{not-suc-le-zero, le_of_suc-le-suc}
use native.Mathlib.Omega.{arith}
use lib.Dec.{T}
use lib.ListN.{length, get_or}
use Rattle.frames.specs.Frames.{Node}
use Rattle.frames.specs.Frames.Node.{truth, apply}
use Rattle.kripke.specs.Models.{Kripke}
use Rattle.masks.specs.Masks.{bit}
use Rattle.language.specs.Properties.{Property, connective_at}
use Rattle.logic.specs.Truth.{node_at}
use Rattle.logic.specs.Product.{mask_width, back}
use Rattle.logic.specs.Paths.{MaskEdge}
use Rattle.logic.proofs.Masks.{mask_bit}
use Rattle.logic.proofs.Claims.{persist_edge}
use Rattle.tableau.specs.Walks.{Vertex, Edge, ProductWalk, ProductReaches, Discharges, Continues, claimed_at}
use Rattle.tableau.specs.Walks.ProductWalk.{stop, leave}
use Rattle.tableau.specs.Walks.Discharges.{discharged, goes}
use Rattle.tableau.specs.Rounds.{FulfilledAlong, Runs}
use Rattle.tableau.specs.Rounds.FulfilledAlong.{ended, moved}
use Rattle.tableau.specs.Rounds.Runs.{halt, more}

-- the masks of an edge, bit by bit
pub mask_edge : (m : Kripke) (f : Property) (u v : Vertex) → Edge m f u v → MaskEdge f u.mask (m.label v.state) v.mask
mask_edge m f u v e b w = ap (λ K. bit K b) e.masks ∙ mask_bit (mask_width f) (back f (m.label v.state) v.mask) b w

-- a connective node is one of the nodes
apply_below : (ns : List Node) (k c : ℕ) (is : List ℕ) → get_or ns k truth ≡ apply c is → k < length ns
apply_below [] k c is e = absurd (let z : ◌≡◌ {A = ℕ} 0 1 = cc in omega arith)
apply_below (x ∷ ns) zero c is e = suc-le-suc zero-le
apply_below (x ∷ ns) (suc k) c is e = suc-le-suc (apply_below ns k c is e)

-- the same of a property's nodes
pub apply_in : (f : Property) (k c : ℕ) (is : List ℕ) → node_at f k ≡ apply c is → k < length f.nodes
apply_in f k c is e = apply_below f.nodes k c is e

module _ (m : Kripke) (f : Property) (S : Vertex → Bool) where
  -- two walks, one after the other
  pub walk_append : {u v w : Vertex} {us vs : List Vertex} → ProductWalk m f S u us v → ProductWalk m f S v vs w → ProductWalk m f S u (us ++ vs) w
  walk_append (stop s) b = b
  walk_append (leave s e a) b = leave s e (walk_append a b)

  -- a walk begins inside the set
  pub walk_from : {u w : Vertex} {us : List Vertex} → ProductWalk m f S u us w → T (S u)
  walk_from (stop s) = s
  walk_from (leave s e a) = s

  -- and ends inside it
  pub walk_to : {u w : Vertex} {us : List Vertex} → ProductWalk m f S u us w → T (S w)
  walk_to (stop s) = s
  walk_to (leave s e a) = walk_to a

  -- the first vertex, and each edge, of a walk whose last vertex is put after those that it leaves
  pub walk_first : {u w : Vertex} {us : List Vertex} → ProductWalk m f S u us w → get_or us 0 w ≡ u
  walk_first (stop s) = refl
  walk_first (leave s e a) = refl

  pub walk_edge : {u w : Vertex} {us : List Vertex} → ProductWalk m f S u us w → (i : ℕ) → i < length us → Edge m f (get_or us i w) (get_or us (suc i) w)
  walk_edge (stop s) i h = absurd (not-suc-le-zero h)
  walk_edge (leave {u = u} {v = v} {w = w} {vs = vs} s e a) zero h = subst (λ x. Edge m f u x) (sym (walk_first a)) e
  walk_edge (leave s e a) (suc i) h = walk_edge a i (le_of_suc-le-suc h)

  module _ (k c : ℕ) (is : List ℕ) (apply-is : node_at f k ≡ apply c is) where
    -- the connective comes from q along the vertices to a state that is claimed at w
    abbrev Far : ℕ → List Vertex → Vertex → Type 0
    Far q vs w = (r : ℕ) × (r < (connective_at f.connectives c).states) × T (claimed_at m f w k r) × Runs m f c is q vs r

    -- a claimed state goes along a walk, or comes to a final state on it
    pub along : {v w : Vertex} {vs : List Vertex} → ProductWalk m f S v vs w → (q : ℕ) → q < (connective_at f.connectives c).states → T (claimed_at m f v k q) →
        FulfilledAlong m f c is q vs ⊎ Far q vs w
    along (stop s) q fits t = inr (q, fits, t, halt)
    along (leave {u = u} {v = v} {w = w} {vs = vs} s e a) q fits t =
        go (persist_edge f k c is (apply_in f k c is apply-is) apply-is _ _ _ _ (mask_edge m f u v e) q t) (λ r fits t. along a r fits t)
      where
        join : (x : Continues m f u v k c is q) → FulfilledAlong m f c is x.to vs ⊎ Far x.to vs w → FulfilledAlong m f c is q (u ∷ vs) ⊎ Far q (u ∷ vs) w
        join x (inl d) = inl (moved x.letter x.to x.may x.operand d)
        join x (inr r) = inr (r.0, r.1, r.2, more x.letter x.to x.may x.operand r.3)

        go : T (bit (connective_at f.connectives c).finals q) ⊎ Continues m f u v k c is q →
            ((r : ℕ) → r < (connective_at f.connectives c).states → T (claimed_at m f v k r) → FulfilledAlong m f c is r vs ⊎ Far r vs w) →
            FulfilledAlong m f c is q (u ∷ vs) ⊎ Far q (u ∷ vs) w
        go (inl t) ih = inl (ended t)
        go (inr x) ih = join x (ih x.to x.to_fits x.claimed)

    -- an obligation is discharged by way of a vertex at which the claimed states are
    pub discharge_there : {v w : Vertex} {vs : List Vertex} → (z : Vertex) → ((x : Vertex) → T (S x) → ProductReaches m f S x z) → ProductWalk m f S v vs w →
        ((r : ℕ) → r < (connective_at f.connectives c).states → T (claimed_at m f w k r) → (us : List Vertex) × Discharges m f S k c is w r us z) →
        (q : ℕ) → q < (connective_at f.connectives c).states → T (claimed_at m f v k q) → (us : List Vertex) × Discharges m f S k c is v q us z
    discharge_there z home (stop s) there q fits t = there q fits t
    discharge_there z home (leave {u = u} {v = v} {w = w} {vs = vs} s e a) there q fits t =
        go (persist_edge f k c is (apply_in f k c is apply-is) apply-is _ _ _ _ (mask_edge m f u v e) q t) (λ r fits t. discharge_there z home a there r fits t)
      where
        go : T (bit (connective_at f.connectives c).finals q) ⊎ Continues m f u v k c is q →
            ((r : ℕ) → r < (connective_at f.connectives c).states → T (claimed_at m f v k r) → (us : List Vertex) × Discharges m f S k c is v r us z) →
            (us : List Vertex) × Discharges m f S k c is u q us z
        go (inl t) ih = ((home u s).0, discharged t (home u s).1)
        go (inr x) ih = let r = ih x.to x.to_fits x.claimed in (u ∷ r.0, goes s e x r.1)

  -- a walk that discharges is a walk
  pub discharges_walk : (k c : ℕ) (is : List ℕ) {v w : Vertex} {q : ℕ} {vs : List Vertex} → Discharges m f S k c is v q vs w → ProductWalk m f S v vs w
  discharges_walk k c is (discharged t a) = a
  discharges_walk k c is (goes s e x a) = leave s e (discharges_walk k c is a)

  -- and along it the connective comes to a final state
  pub discharges_done : (k c : ℕ) (is : List ℕ) {v w : Vertex} {q : ℕ} {vs : List Vertex} → Discharges m f S k c is v q vs w → FulfilledAlong m f c is q vs
  discharges_done k c is (discharged t a) = ended t
  discharges_done k c is (goes s e x a) = moved x.letter x.to x.may x.operand (discharges_done k c is a)

module _ (m : Kripke) (f : Property) (c : ℕ) (is : List ℕ) where
  -- more vertices after the final state
  pub done_append : {q : ℕ} {us : List Vertex} → (vs : List Vertex) → FulfilledAlong m f c is q us → FulfilledAlong m f c is q (us ++ vs)
  done_append vs (ended t) = ended t
  done_append vs (moved a r t h d) = moved a r t h (done_append vs d)

  -- a run, and then one to a final state
  pub runs_done : {q r : ℕ} {us vs : List Vertex} → Runs m f c is q us r → FulfilledAlong m f c is r vs → FulfilledAlong m f c is q (us ++ vs)
  runs_done halt d = d
  runs_done (more a r t h x) d = moved a r t h (runs_done x d)

  -- two runs, one after the other
  pub runs_append : {q r s : ℕ} {us vs : List Vertex} → Runs m f c is q us r → Runs m f c is r vs s → Runs m f c is q (us ++ vs) s
  runs_append halt y = y
  runs_append (more a r t h x) y = more a r t h (runs_append x y)
