-- What is written once all obligations are discharged: a visit of each fair set, and the way back.
use Rattle.std.specs.Prelude.{◌≡◌, ℕ, ◌+◌, ◌<◌, ◌≤◌, Bool, T, List, ◌∷◌, ◌++◌, take, drop}
use Rattle.graphs.specs.Walks.{Walk}
use Rattle.kripke.specs.Models.{Kripke}
use Rattle.language.specs.Properties.{Property}
use Rattle.tableau.specs.Built.{OpenLoop, states_on}
use Rattle.tableau.specs.Numbers.{obligation_edge, product_edge, vertex_of, vertices}
use Rattle.loops.specs.declared.progress.Standing.{Standing}

-- the words are those of a loop from x that stands at a vertex of G, and with it visits the first j fair sets
pub record Visited (m : Kripke) (f : Property) (G : ℕ → Bool) (x j : ℕ) (stands : Standing) (words : List ℕ) : Type 0 where
  pub open_loop : OpenLoop m f G x stands.vertex j (take stands.at words)
  pub vertex : stands.vertex < vertices m f
  pub inside : T (G stands.vertex)

-- the words, which were `was`, go on from where the loop stands by an edge and a walk back to x, and past that are as they were
pub record Closed (m : Kripke) (f : Property) (G : ℕ → Bool) (x : ℕ) (stands : Standing) (was words : List ℕ) (r : ℕ) : Type 0 where
  pub next : ℕ
  pub walk : List ℕ
  pub next_vertex : next < vertices m f
  pub edge : T (product_edge m f stands.vertex next)
  pub back : Walk (obligation_edge m f G) next x walk
  pub written : take r words ≡ take stands.at was ++ ((vertex_of f stands.vertex).state ∷ states_on m f walk)
  pub further : stands.at < r
  pub longer : r ≤ stands.at + vertices m f
  pub rest : drop r words ≡ drop r was
