-- With all nodes done and all fair sets visited, the stem and the closed walk are a counterexample.
use mathlib.Core.Path.{◌≡◌, refl, sym, ap, subst, ◌∙◌}
use mathlib.Core.Bool.{Bool, true, false, cond}
use mathlib.Core.List.{List, [], ◌∷◌, ◌++◌, map}
use mathlib.Core.Logic.{◌⊎◌, inl, inr}
use Prim.Native.Nat.{ℕ, zero, suc, ◌+◌, ◌<◌, ◌≤◌, zero-le, suc-le-suc}
use native.Mathlib.Nat.{not-suc-le-zero, le_of_suc-le-suc}
use native.Mathlib.Omega.{arith}
use lib.Dec.{T, eqb, eqb→eq, ltb→lt}
use lib.ListN.{length, get_or, length-append, length-map, get_or-eq_default}
use lib.Seq.{get_or-append-add}
use Rattle.frames.specs.Frames.Node.{apply}
use Rattle.kripke.specs.Models.{Kripke}
use Rattle.kripke.specs.Lassos.{Lasso, LassoOf, Fair, at, follower, step}
use Rattle.masks.specs.Masks.{bit}
use Rattle.language.specs.Properties.{Property, WellFormed, connective_at}
use Rattle.logic.specs.Truth.{node_at, root, Line, Fulfilled, later}
use Rattle.logic.specs.OnLassos.{lasso_line}
use Rattle.logic.specs.Product.{sat, claim}
use Rattle.logic.specs.Paths.{MaskEdge, ProductPath, FulfilsAt, sat_at, in_lasso}
use Rattle.logic.proofs.Bools.{T_true}
use Rattle.logic.proofs.Unfold.{fold_final, fold_step}
use Rattle.logic.proofs.Followers.{next_follower, follower_in}
use Rattle.logic.proofs.OnLassos.{one_time_lasso, product_falsifies}
use Rattle.tableau.specs.Walks.{Vertex, Edge, ProductWalk, Obligation, everywhere, holds_at, claimed_at}
use Rattle.tableau.specs.Walks.ProductWalk.{stop, leave}
use Rattle.tableau.specs.Rounds.{FulfilledAlong, Visits, Finishes, lasso_along, no_vertex}
use Rattle.tableau.specs.Rounds.FulfilledAlong.{ended, moved}
use Rattle.tableau.proofs.Tests.{T_dec}
use Rattle.tableau.proofs.Walking.{mask_edge, walk_append, walk_first, walk_edge}

-- a walk inside a set is a walk
pub anywhere : (m : Kripke) (f : Property) (S : Vertex → Bool) {u w : Vertex} {us : List Vertex} → ProductWalk m f S u us w → ProductWalk m f everywhere u us w
anywhere m f S (stop s) = stop tt
anywhere m f S (leave s e a) = leave tt e (anywhere m f S a)

-- a run to a final state along vertices over which the line goes is a fulfilment
module _ (m : Kripke) (f : Property) (wf : WellFormed f) (c : ℕ) (is : List ℕ) (l : Line) (mask : ℕ → ℕ) (d : Vertex) where
  -- the line goes over the vertices from time i on
  abbrev Over : List Vertex → ℕ → Type 0
  Over vs i = (j : ℕ) → j < length vs → (l.label (later l j i) ≡ m.label (get_or vs j d).state) × (mask (later l j i) ≡ (get_or vs j d).mask)

  pub done_fulfilled : {q : ℕ} {vs : List Vertex} → FulfilledAlong m f c is q vs → q < (connective_at f.connectives c).states → (i : ℕ) → Over vs i →
      Fulfilled (connective_at f.connectives c) (λ a j. T (sat_at f l mask (get_or is a 0) j)) l q i
  done_fulfilled (ended {q = q} t) fits i over = fold_final (connective_at f.connectives c) (λ a j. T (sat_at f l mask (get_or is a 0) j)) l q i fits t
  done_fulfilled (moved {q = q} {u = u} {vs = vs} a r t h rest) fits i over =
      let here = over 0 (suc-le-suc zero-le) in
      let bounds = wf.moves_fit c q a r (T_true ((connective_at f.connectives c).may q a r) t) in
      fold_step (connective_at f.connectives c) (λ a j. T (sat_at f l mask (get_or is a 0) j)) l q i (record {
        letter = a;
        to = r;
        letter_fits = bounds.1;
        from_fits = fits;
        may = t;
        holds = subst (λ x. T (sat f x (mask i) (get_or is a 0))) (sym here.0) (subst (λ K. T (sat f (m.label u.state) K (get_or is a 0))) (sym here.1) h);
        rest = done_fulfilled rest bounds.2 (l.after i) (λ j lt. over (suc j) (suc-le-suc lt));
      })

-- the state of a vertex of a list
map_at : (us : List Vertex) (d : Vertex) (i : ℕ) → i < length us → get_or (map (λ (v : Vertex). v.state) us) i 0 ≡ (get_or us i d).state
map_at [] d i h = absurd (not-suc-le-zero h)
map_at (u ∷ us) d zero h = refl
map_at (u ∷ us) d (suc i) h = map_at us d i (le_of_suc-le-suc h)

-- inside a list the default does not matter
pub default_at : (us : List Vertex) (d e : Vertex) (i : ℕ) → i < length us → get_or us i d ≡ get_or us i e
default_at [] d e i h = absurd (not-suc-le-zero h)
default_at (u ∷ us) d e zero h = refl
default_at (u ∷ us) d e (suc i) h = default_at us d e i (le_of_suc-le-suc h)

-- j steps on along a lasso, before its end
pub later_in : (m : Kripke) (p : Lasso) (j i : ℕ) → i + j < p.stem + p.loop → later (lasso_line m p) j i ≡ i + j
later_in m p zero i h = omega arith
later_in m p (suc j) i h =
    ap (later (lasso_line m p) j) (next_follower p i (omega arith)) ∙ later_in m p j (suc i) (omega arith)
    ∙ (let z : suc i + j ≡ i + suc j = omega arith in z)

-- a lasso of vertices
module _ (m : Kripke) (f : Property) (wf : WellFormed f) (u v : Vertex) (stem W : List Vertex) (some : 1 ≤ length W)
    (whole : ProductWalk m f everywhere u (stem ++ W) v) (first : get_or W 0 v ≡ v) where
  -- the lasso of their states
  abbrev p : Lasso
  p = lasso_along stem W

  -- the vertex at a position; past the end it is v again
  abbrev vertex : ℕ → Vertex
  vertex i = get_or (stem ++ W) i v

  -- its mask
  abbrev mask : ℕ → ℕ
  mask i = (vertex i).mask

  sizes : length (stem ++ W) ≡ length stem + length W
  sizes = length-append stem W

  -- the state at a position
  state_at : (i : ℕ) → i < length stem + length W → at p i ≡ (vertex i).state
  state_at i h = map_at (stem ++ W) v i (let z : length (stem ++ W) ≡ length stem + length W = sizes in omega arith)

  -- the vertex at a loop position
  at_loop : (j : ℕ) → vertex (length stem + j) ≡ get_or W j v
  at_loop j = get_or-append-add stem W j v

  -- the first loop position is at v
  at_stem : vertex (length stem) ≡ v
  at_stem = ap (λ i. vertex i) (let z : length stem ≡ length stem + 0 = omega arith in z) ∙ at_loop 0 ∙ first

  -- the next vertex is that of the follower
  goes_to : (i : ℕ) → i < length stem + length W → vertex (suc i) ≡ vertex (follower p i)
  goes_to i h = go (eqb (i + 1) (length stem + length W)) refl
    where
      go : (b : Bool) → eqb (i + 1) (length stem + length W) ≡ b → vertex (suc i) ≡ vertex (cond b (length stem) (i + 1))
      go true e =
          let same : i + 1 ≡ length stem + length W = eqb→eq (i + 1) (length stem + length W) (subst T (sym e) tt) in
          get_or-eq_default (stem ++ W) v (let z : length (stem ++ W) ≡ length stem + length W = sizes in omega arith) ∙ sym at_stem
      go false e = ap (λ i. vertex i) (let z : suc i ≡ i + 1 = omega arith in z)

  -- an edge leads from each position to its follower
  edge_at : (i : ℕ) → i < length stem + length W → Edge m f (vertex i) (vertex (follower p i))
  edge_at i h =
      subst (λ x. Edge m f (vertex i) x) (goes_to i h) (walk_edge m f everywhere whole i (let z : length (stem ++ W) ≡ length stem + length W = sizes in omega arith))

  state_after : (i : ℕ) → i < length stem + length W → at p (follower p i) ≡ (vertex (follower p i)).state
  state_after i h = state_at (follower p i) (follower_in p some i h)

  -- it is a lasso of the model
  pub lasso_is : T (m.start u.state) → LassoOf m p
  lasso_is starts = record {
    loops = some;
    words = length-map (stem ++ W) (λ (v : Vertex). v.state) ∙ sizes;
    states = λ i h. subst (λ s. s < m.states) (sym (state_at i h)) (edge_at i h).from.state;
    starts = subst (λ s. T (m.start s)) (sym (state_at 0 (omega arith) ∙ ap (λ (x : Vertex). x.state) (walk_first m f everywhere whole))) starts;
    steps = λ i h. subst (λ s. T (step m s (at p (follower p i)))) (sym (state_at i h)) (subst (λ s. T (step m (vertex i).state s)) (sym (state_after i h)) (edge_at i h).moves);
  }

  -- with the masks it is a path of the product
  pub path_is : ProductPath f (lasso_line m p) (in_lasso p) mask
  path_is i d =
      let h : i < length stem + length W = ltb→lt i (length stem + length W) d in
      subst (λ s. MaskEdge f (mask i) (m.label s) (mask (follower p i))) (sym (state_after i h)) (mask_edge m f (vertex i) (vertex (follower p i)) (edge_at i h))

  -- its loop goes over W
  pub loop_over : (c : ℕ) (is : List ℕ) → Over m f wf c is (lasso_line m p) mask v W (length stem)
  loop_over c is j h =
      let there : later (lasso_line m p) j (length stem) ≡ length stem + j = later_in m p j (length stem) (omega arith) in (
        ap (λ i. m.label (at p i)) there ∙ ap m.label (state_at (length stem + j) (omega arith)) ∙ ap (λ (x : Vertex). m.label x.state) (at_loop j),
        ap (λ i. mask i) there ∙ ap (λ (x : Vertex). x.mask) (at_loop j),
      )

  -- it is fair
  pub fair_is : Visits m m.sets W → Fair m p
  fair_is visits j lt =
      let r = visits j lt in
      let below : r.0 < length W = r.1 in (
        length stem + r.0,
        omega arith,
        omega arith,
        subst (λ s. T (m.fair j s)) (sym (state_at (length stem + r.0) (omega arith)
            ∙ ap (λ (x : Vertex). x.state) (at_loop r.0 ∙ default_at W v no_vertex r.0 below))) r.2,
      )

  -- the claimed states at the first loop position are those at v
  pub fulfils_is : ((k c : ℕ) (is : List ℕ) → k < length f.nodes → node_at f k ≡ apply c is → (q : ℕ) → Obligation m f v k c q → FulfilledAlong m f c is q W) →
      FulfilsAt f (lasso_line m p) mask (length stem)
  fulfils_is done k lt c is e q fits t = go (T_dec (bit (connective_at f.connectives c).finals q))
    where
      claimed : T (claimed_at m f v k q)
      claimed =
          subst (λ (x : Vertex). T (claimed_at m f x k q)) at_stem
          (subst (λ s. T (claim f (m.label s) (mask (length stem)) k q)) (state_at (length stem) (omega arith)) t)

      go : T (bit (connective_at f.connectives c).finals q) ⊎ (¬ T (bit (connective_at f.connectives c).finals q)) →
          Fulfilled (connective_at f.connectives c) (λ a j. T (sat_at f (lasso_line m p) mask (get_or is a 0) j)) (lasso_line m p) q (length stem)
      go (inl final) = done_fulfilled m f wf c is (lasso_line m p) mask v {vs = W} (ended final) fits (length stem) (loop_over c is)
      go (inr n) =
          done_fulfilled m f wf c is (lasso_line m p) mask v (done k c is lt e q (record { fits = fits; claimed = claimed; not_final = n })) fits (length stem) (loop_over c is)

  -- the root is false at its first position
  pub root_is : (¬ T (holds_at m f u (root f))) → ¬ T (sat_at f (lasso_line m p) mask (root f) 0)
  root_is n t =
      n (subst (λ (x : Vertex). T (holds_at m f x (root f))) (walk_first m f everywhere whole)
      (subst (λ s. T (sat f (m.label s) (mask 0) (root f))) (state_at 0 (omega arith)) t))

pub finishes : Finishes
finishes m f wf S R v due W progress some visits u stem walk starts no-root = record {
  lasso = lasso_is m f wf u v stem W some whole first starts;
  fair = fair_is m f wf u v stem W some whole first visits;
  falsifies = product_falsifies m f (lasso_along stem W) masks wf some path
      (one_time_lasso m f (lasso_along stem W) some masks path (fulfils_is m f wf u v stem W some whole first (λ k c is lt e q w. progress.before k c is lt e q w)))
      (root_is m f wf u v stem W some whole first no-root);
}
  where
    whole : ProductWalk m f everywhere u (stem ++ W) v
    whole = walk_append m f everywhere (anywhere m f R walk) (anywhere m f S progress.walk)

    first : get_or W 0 v ≡ v
    first = walk_first m f S progress.walk

    masks : ℕ → ℕ
    masks i = (get_or (stem ++ W) i v).mask

    path : ProductPath f (lasso_line m (lasso_along stem W)) (in_lasso (lasso_along stem W)) masks
    path = path_is m f wf u v stem W some whole first
