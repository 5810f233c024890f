-- How a loop is built: a closed walk that grows in rounds until each obligation at its first vertex is discharged along it.
use Rattle.std.specs.Prelude.{◌≡◌, Bool, true, false, cond, not, ◌&&◌, List, [], ◌∷◌, ◌++◌, map, ◌⊎◌, ℕ, zero, suc, ◌+◌, ◌<◌, ◌≤◌, T, eqb, ltb, length, get_or}
use Rattle.frames.specs.Frames.{Node}
use Rattle.frames.specs.Frames.Node.{proposition, truth, negation, next, both, either, apply}
use Rattle.kripke.specs.Models.{Kripke}
use Rattle.kripke.specs.Lassos.{Lasso}
use Rattle.masks.specs.Masks.{bit}
use Rattle.language.specs.Properties.{Property, WellFormed, connective_at}
use Rattle.logic.specs.Truth.{node_at, root}
use Rattle.logic.specs.OnLassos.{Counterexample}
use Rattle.logic.specs.Product.{some_below, start_of}
use Rattle.tableau.specs.Walks.{Vertex, ProductWalk, Discharges, Obligation, holds_at, claimed_at}

-- From q the connective c comes to a final state along the vertices, by letters whose operands are true there.
pub data FulfilledAlong (m : Kripke) (f : Property) (c : ℕ) (is : List ℕ) : ℕ → List Vertex → Type 0 where
  ended : {q : ℕ} {vs : List Vertex} → T (bit (connective_at f.connectives c).finals q) → FulfilledAlong m f c is q vs
  moved : {q : ℕ} {u : Vertex} {vs : List Vertex} → (a r : ℕ) → T ((connective_at f.connectives c).may q a r) → T (holds_at m f u (get_or is a 0)) →
      FulfilledAlong m f c is r vs → FulfilledAlong m f c is q (u ∷ vs)

-- From q the connective c comes to r along all of the vertices, by letters whose operands are true there.
pub data Runs (m : Kripke) (f : Property) (c : ℕ) (is : List ℕ) : ℕ → List Vertex → ℕ → Type 0 where
  halt : {q : ℕ} → Runs m f c is q [] q
  more : {q : ℕ} {u : Vertex} {vs : List Vertex} {s : ℕ} → (a r : ℕ) → T ((connective_at f.connectives c).may q a r) → T (holds_at m f u (get_or is a 0)) →
      Runs m f c is r vs s → Runs m f c is q (u ∷ vs) s

-- the lowest number below n that passes the test, if one does
abbrev pub lowest : ℕ → (ℕ → Bool) → ℕ
lowest zero p = 0
lowest (suc n) p = elim (some_below n p) [ true ↦ lowest n p | false ↦ n ]

-- how many numbers below n pass the test
abbrev pub count : ℕ → (ℕ → Bool) → ℕ
count zero p = 0
count (suc n) p = cond (p n) 1 0 + count n p

-- at the vertex u a letter whose operand is true leads from q to r, whose bit is set
abbrev pub leads : Kripke → Property → ℕ → ℕ → List ℕ → Vertex → ℕ → ℕ → Bool
leads m f k c is u q r =
    some_below (connective_at f.connectives c).letters (λ a. holds_at m f u (get_or is a 0) && ((connective_at f.connectives c).may q a r && bit u.mask (start_of f k + r)))

-- where the claimed state q goes on leaving the vertex u: the lowest state that it leads to
abbrev pub carry : Kripke → Property → ℕ → ℕ → List ℕ → Vertex → ℕ → ℕ
carry m f k c is u q = lowest (connective_at f.connectives c).states (leads m f k c is u q)

-- the image of a set of obligations on leaving the vertex u: the states, not final, to which its members go
abbrev pub carried : Kripke → Property → ℕ → ℕ → List ℕ → Vertex → (ℕ → Bool) → ℕ → Bool
carried m f k c is u due r =
    not (bit (connective_at f.connectives c).finals r) && some_below (connective_at f.connectives c).states (λ q. due q && eqb (carry m f k c is u q) r)

-- the image of a set of obligations along the vertices
abbrev pub carry_along : Kripke → Property → ℕ → ℕ → List ℕ → List Vertex → (ℕ → Bool) → ℕ → Bool
carry_along m f k c is [] due = due
carry_along m f k c is (u ∷ us) due = carry_along m f k c is us (carried m f k c is u due)

-- the set without q
abbrev pub without : ℕ → (ℕ → Bool) → ℕ → Bool
without q due r = due r && not (eqb r q)

-- the obligations at v of a node with the number k, as a set of states
abbrev pub pending_node : Kripke → Property → Vertex → ℕ → Node → ℕ → Bool
pending_node m f v k (proposition p) q = false
pending_node m f v k (negation i) q = false
pending_node m f v k (next i) q = false
pending_node m f v k (both i j) q = false
pending_node m f v k (either i j) q = false
pending_node m f v k (apply c is) q = ltb q (connective_at f.connectives c).states && (claimed_at m f v k q && not (bit (connective_at f.connectives c).finals q))
pending_node m f v k truth q = false

-- the obligations of node k at v, as a set of states
abbrev pub pending : Kripke → Property → Vertex → ℕ → ℕ → Bool
pending m f v k q = pending_node m f v k (node_at f k) q

-- A loop under construction: W is a closed walk from v inside S, and along it the obligations at v of the nodes below k are discharged;
-- those of node k are, or come back to v as an obligation of the set `due`.
pub record PartialLoop (m : Kripke) (f : Property) (S : Vertex → Bool) (v : Vertex) (k : ℕ) (due : ℕ → Bool) (W : List Vertex) : Type 0 where
  pub walk : ProductWalk m f S v W v
  pub before : (j c : ℕ) (is : List ℕ) → j < k → node_at f j ≡ apply c is → (q : ℕ) → Obligation m f v j c q → FulfilledAlong m f c is q W
  pub obligations : (c : ℕ) (is : List ℕ) → node_at f k ≡ apply c is → (r : ℕ) → T (due r) → Obligation m f v k c r
  pub here : (c : ℕ) (is : List ℕ) → node_at f k ≡ apply c is → (q : ℕ) → Obligation m f v k c q →
      FulfilledAlong m f c is q W ⊎ ((r : ℕ) × T (due r) × Runs m f c is q W r)

-- The empty loop, at which all obligations of node 0 are due.
abbrev pub Begins : Type 0
Begins = (m : Kripke) (f : Property) (S : Vertex → Bool) (v : Vertex) → T (S v) → PartialLoop m f S v 0 (pending m f v 0) []

-- The loop after a round that discharged q: q left the set, the others were carried along the walk, and there are fewer of them.
pub record Rounded (m : Kripke) (f : Property) (S : Vertex → Bool) (v : Vertex) (k c : ℕ) (is : List ℕ) (due : ℕ → Bool) (W : List Vertex)
    (q : ℕ) (way : List Vertex) : Type 0 where
  pub progress : PartialLoop m f S v k (carry_along m f k c is way (without q due)) (W ++ way)
  pub fewer : count (connective_at f.connectives c).states (carry_along m f k c is way (without q due)) < count (connective_at f.connectives c).states due

-- A closed walk that discharges an obligation that is due makes a round.
abbrev pub Round : Type 0
Round = (m : Kripke) (f : Property) (S : Vertex → Bool) (v : Vertex) (k c : ℕ) (is : List ℕ) → node_at f k ≡ apply c is →
    (due : ℕ → Bool) (W : List Vertex) → PartialLoop m f S v k due W →
    (q : ℕ) → T (due q) → (way : List Vertex) → Discharges m f S k c is v q way v → Rounded m f S v k c is due W q way

-- With no obligation due the next node's turn comes, and all of its obligations at v are due.
abbrev pub NextNode : Type 0
NextNode = (m : Kripke) (f : Property) (S : Vertex → Bool) (v : Vertex) (k : ℕ) (due : ℕ → Bool) (W : List Vertex) → PartialLoop m f S v k due W →
    ((q : ℕ) → T (due q) → ⊥) → PartialLoop m f S v (suc k) (pending m f v (suc k)) W

-- With no obligation due any closed walk can be appended.
abbrev pub Extends : Type 0
Extends = (m : Kripke) (f : Property) (S : Vertex → Bool) (v : Vertex) (k : ℕ) (due : ℕ → Bool) (W : List Vertex) → PartialLoop m f S v k due W →
    ((q : ℕ) → T (due q) → ⊥) → (way : List Vertex) → ProductWalk m f S v way v → PartialLoop m f S v k due (W ++ way)

-- the lasso whose stem and loop have the states of two walks
abbrev pub lasso_along : List Vertex → List Vertex → Lasso
lasso_along stem W = record { list = map (λ (v : Vertex). v.state) (stem ++ W); stem = length stem; loop = length W }

-- what stands past the end of a list of vertices
abbrev pub no_vertex : Vertex
no_vertex = record { state = 0; mask = 0 }

-- the walk visits each of the first n fair sets
abbrev pub Visits : Kripke → ℕ → List Vertex → Type 0
Visits m n W = (j : ℕ) → j < n → (i : ℕ) × (i < length W) × T (m.fair j (get_or W i no_vertex).state)

-- With all nodes done and all fair sets visited, the loop and a stem from a start vertex at which the root is false are a counterexample.
abbrev pub Finishes : Type 0
Finishes = (m : Kripke) (f : Property) → WellFormed f → (S R : Vertex → Bool) (v : Vertex) (due : ℕ → Bool) (W : List Vertex) →
    PartialLoop m f S v (length f.nodes) due W → 1 ≤ length W → Visits m m.sets W →
    (u : Vertex) (stem : List Vertex) → ProductWalk m f R u stem v → T (m.start u.state) → (¬ T (holds_at m f u (root f))) →
    Counterexample m f (lasso_along stem W)
