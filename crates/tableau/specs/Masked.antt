-- The rounds of the loop builder with the set of due obligations as a mask, as code has it.
use Rattle.std.specs.Prelude.{◌≡◌, Bool, List, [], ◌∷◌, ◌++◌, ◌↔◌, ℕ, suc, ◌-◌, ◌^◌, ◌<◌, T}
use Rattle.frames.specs.Frames.Node.{apply}
use Rattle.kripke.specs.Models.{Kripke}
use Rattle.masks.specs.Masks.{bit}
use Rattle.language.specs.Properties.{Property, WellFormed, connective_at, node_width}
use Rattle.logic.specs.Truth.{node_at}
use Rattle.logic.specs.Product.{mask_of}
use Rattle.tableau.specs.Walks.{Vertex, ProductWalk, Discharges, Obligation, DischargedAt}
use Rattle.tableau.specs.Rounds.{PartialLoop, count, carried, pending}

-- the obligations of node k at v, as a mask
abbrev pub pending_mask : Kripke → Property → Vertex → ℕ → ℕ
pending_mask m f v k = mask_of (node_width f.connectives (node_at f k)) (pending m f v k)

-- the image of a mask of obligations on leaving u
abbrev pub carried_mask : Kripke → Property → ℕ → ℕ → List ℕ → Vertex → ℕ → ℕ
carried_mask m f k c is u M = mask_of (connective_at f.connectives c).states (carried m f k c is u (bit M))

-- the image of a mask of obligations along the vertices
abbrev pub carried_along : Kripke → Property → ℕ → ℕ → List ℕ → List Vertex → ℕ → ℕ
carried_along m f k c is [] M = M
carried_along m f k c is (u ∷ us) M = carried_along m f k c is us (carried_mask m f k c is u M)

-- The loop after a round that discharged q, which is 2 ^ q of the mask M.
pub record MaskRounded (m : Kripke) (f : Property) (S : Vertex → Bool) (v : Vertex) (k c : ℕ) (is : List ℕ) (M : ℕ) (W : List Vertex)
    (q : ℕ) (way : List Vertex) : Type 0 where
  pub fits : carried_along m f k c is way (M - 2 ^ q) < 2 ^ (connective_at f.connectives c).states
  pub progress : PartialLoop m f S v k (bit (carried_along m f k c is way (M - 2 ^ q))) (W ++ way)
  pub fewer : count (connective_at f.connectives c).states (bit (carried_along m f k c is way (M - 2 ^ q))) < count (connective_at f.connectives c).states (bit M)

-- The laws of Rounds for masks.
pub record Masked : Type 0 where
  -- the mask has no bits past the node's width
  pub fits : (m : Kripke) (f : Property) (v : Vertex) (k : ℕ) → pending_mask m f v k < 2 ^ node_width f.connectives (node_at f k)
  -- the bits of the mask are the obligations
  pub obligations : (m : Kripke) (f : Property) (v : Vertex) (k c : ℕ) (is : List ℕ) → node_at f k ≡ apply c is → (q : ℕ) →
      T (bit (pending_mask m f v k) q) ↔ Obligation m f v k c q
  -- where the obligations can be discharged, some state is none: a node has fewer rounds than its connective has states
  pub few : (m : Kripke) (f : Property) → WellFormed f → (S : Vertex → Bool) (v : Vertex) → DischargedAt m f S v → (k c : ℕ) (is : List ℕ) → node_at f k ≡ apply c is →
      count (connective_at f.connectives c).states (bit (pending_mask m f v k)) < (connective_at f.connectives c).states
  -- the empty loop
  pub begins : (m : Kripke) (f : Property) (S : Vertex → Bool) (v : Vertex) → T (S v) → PartialLoop m f S v 0 (bit (pending_mask m f v 0)) []
  -- a closed walk that discharges an obligation that is due makes a round
  pub round : (m : Kripke) (f : Property) (S : Vertex → Bool) (v : Vertex) (k c : ℕ) (is : List ℕ) → node_at f k ≡ apply c is →
      (M : ℕ) → M < 2 ^ (connective_at f.connectives c).states → (W : List Vertex) → PartialLoop m f S v k (bit M) W →
      (q : ℕ) → T (bit M q) → (way : List Vertex) → Discharges m f S k c is v q way v → MaskRounded m f S v k c is M W q way
  -- with no obligation due the next node's turn comes
  pub next : (m : Kripke) (f : Property) (S : Vertex → Bool) (v : Vertex) (k : ℕ) (W : List Vertex) → PartialLoop m f S v k (bit 0) W →
      PartialLoop m f S v (suc k) (bit (pending_mask m f v (suc k))) W
  -- with no obligation due any closed walk can be appended
  pub append : (m : Kripke) (f : Property) (S : Vertex → Bool) (v : Vertex) (k : ℕ) (W : List Vertex) → PartialLoop m f S v k (bit 0) W →
      (way : List Vertex) → ProductWalk m f S v way v → PartialLoop m f S v k (bit 0) (W ++ way)
