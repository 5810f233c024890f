-- The loop builder by numbers: walks of the obligation graph, and the states that are written along them.
use Rattle.std.specs.Prelude.{◌≡◌, Bool, List, [], ◌∷◌, ◌++◌, map, ℕ, suc, ◌+◌, ◌-◌, ◌^◌, ◌<◌, T, length}
use Rattle.frames.specs.Frames.Node.{apply}
use Rattle.kripke.specs.Models.{Kripke}
use Rattle.kripke.specs.Lassos.{Lasso}
use Rattle.masks.specs.Masks.{bit}
use Rattle.language.specs.Properties.{Property, WellFormed, connective_at}
use Rattle.logic.specs.Truth.{node_at, root}
use Rattle.logic.specs.OnLassos.{Counterexample}
use Rattle.logic.specs.Product.{start_of}
use Rattle.graphs.specs.Walks.{Walk}
use Rattle.tableau.specs.Walks.{Vertex, ProductWalk, holds_at}
use Rattle.tableau.specs.Rounds.{PartialLoop, Visits, count}
use Rattle.tableau.specs.Masked.{pending_mask, carried_along}
use Rattle.tableau.specs.Numbers.{vertex_of, vertices, product_edge, of_numbers, obligation_edge, layered, left_on}

-- the model's states at the vertices
abbrev pub states_of : List Vertex → List ℕ
states_of us = map (λ (v : Vertex). v.state) us

-- what is written along a walk: the state of each of its numbers but the last
abbrev pub states_on : Kripke → Property → List ℕ → List ℕ
states_on m f l = states_of (left_on m f l)

-- The states `written` are those of a loop under construction from x inside G: the obligations of the nodes below k are discharged, and M has those of node k that are due.
pub record Built (m : Kripke) (f : Property) (G : ℕ → Bool) (x k M : ℕ) (written : List ℕ) : Type 0 where
  pub loop : List Vertex
  pub states : states_of loop ≡ written
  pub progress : PartialLoop m f (of_numbers f G) (vertex_of f x) k (bit M) loop

-- The states `written` are those of a loop on which all obligations are discharged and of a walk from its end to y, inside G;
-- with y they visit the first j fair sets.
pub record OpenLoop (m : Kripke) (f : Property) (G : ℕ → Bool) (x y j : ℕ) (written : List ℕ) : Type 0 where
  pub loop : List Vertex
  pub way : List Vertex
  pub states : states_of (loop ++ way) ≡ written
  pub progress : PartialLoop m f (of_numbers f G) (vertex_of f x) (length f.nodes) (bit 0) loop
  pub walk : ProductWalk m f (of_numbers f G) (vertex_of f x) way (vertex_of f y)
  pub visits : Visits m j ((loop ++ way) ++ (vertex_of f y ∷ []))

-- the lasso with the written stem and loop
abbrev pub written_lasso : List ℕ → List ℕ → Lasso
written_lasso stem loop = record { list = stem ++ loop; stem = length stem; loop = length loop }

-- What is written after a round that discharged q along the walk l.
pub record BuildRounded (m : Kripke) (f : Property) (G : ℕ → Bool) (x k c : ℕ) (is : List ℕ) (M q : ℕ) (written l : List ℕ) : Type 0 where
  pub fits : carried_along m f k c is (left_on m f l) (M - 2 ^ q) < 2 ^ (connective_at f.connectives c).states
  pub built : Built m f G x k (carried_along m f k c is (left_on m f l) (M - 2 ^ q)) (written ++ states_on m f l)
  pub fewer : count (connective_at f.connectives c).states (bit (carried_along m f k c is (left_on m f l) (M - 2 ^ q))) < count (connective_at f.connectives c).states (bit M)

-- The steps of the loop builder.
pub record Builds : Type 0 where
  -- one state is written for each edge of a walk
  pub sizes : (m : Kripke) (f : Property) (l : List ℕ) → length (states_on m f l) ≡ length l - 1
  -- nothing is written at first
  pub begins : (m : Kripke) (f : Property) (G : ℕ → Bool) (x : ℕ) → T (G x) → Built m f G x 0 (pending_mask m f (vertex_of f x) 0) []
  -- a walk of the obligation graph from an obligation that is due makes a round
  pub round : (m : Kripke) (f : Property) (G : ℕ → Bool) (x k c : ℕ) (is : List ℕ) → node_at f k ≡ apply c is →
      (M : ℕ) (written : List ℕ) → x < vertices m f → M < 2 ^ (connective_at f.connectives c).states → Built m f G x k M written →
      (q : ℕ) → T (bit M q) → (l : List ℕ) → Walk (obligation_edge m f G) (layered m f x (suc (start_of f k + q))) x l →
      BuildRounded m f G x k c is M q written l
  -- with no obligation due the next node's turn comes
  pub next : (m : Kripke) (f : Property) (G : ℕ → Bool) (x k : ℕ) (written : List ℕ) → Built m f G x k 0 written →
      Built m f G x (suc k) (pending_mask m f (vertex_of f x) (suc k)) written
  -- after the last node the fair sets' turn comes
  pub all_done : (m : Kripke) (f : Property) (G : ℕ → Bool) (x M : ℕ) (written : List ℕ) → Built m f G x (length f.nodes) M written →
      OpenLoop m f G x x 0 written
  -- a walk in layer 0 to a vertex of the next fair set visits it
  pub fair : (m : Kripke) (f : Property) (G : ℕ → Bool) (x y z j : ℕ) (written : List ℕ) → OpenLoop m f G x y j written → y < vertices m f → z < vertices m f →
      T (G z) → T (m.fair j (vertex_of f z).state) → (l : List ℕ) → Walk (obligation_edge m f G) y z l → OpenLoop m f G x z (suc j) (written ++ states_on m f l)
  -- with all fair sets visited, one more edge and a walk back to x close the loop; with a stem from a start vertex at which the root is false
  -- it is a counterexample
  pub closes : (m : Kripke) (f : Property) → WellFormed f → (G : ℕ → Bool) (x y z : ℕ) (written : List ℕ) → OpenLoop m f G x y m.sets written →
      x < vertices m f → z < vertices m f → T (G y) → T (G x) → T (product_edge m f y z) → (l : List ℕ) → Walk (obligation_edge m f G) z x l →
      (u : ℕ) → u < vertices m f → T (m.start (vertex_of f u).state) → (¬ T (holds_at m f (vertex_of f u) (root f))) →
      (stem : List ℕ) → Walk (product_edge m f) u x stem →
      Counterexample m f (written_lasso (states_on m f stem) (written ++ ((vertex_of f y).state ∷ states_on m f l)))
