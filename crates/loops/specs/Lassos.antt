-- The lasso that is written.
use Rattle.std.specs.Prelude.{◌≡◌, ℕ, ◌+◌, ◌<◌, ◌≤◌, T, List, take, drop}
use Rattle.graphs.specs.Walks.{Walk}
use Rattle.kripke.specs.Models.{Kripke}
use Rattle.language.specs.Properties.{Property}
use Rattle.logic.specs.OnLassos.{Counterexample}
use Rattle.logic.specs.Truth.{root}
use Rattle.tableau.specs.Built.{states_on, written_lasso}
use Rattle.tableau.specs.Numbers.{product_edge, vertex_of, vertices}
use Rattle.tableau.specs.Walks.{holds_at}
use Rattle.loops.specs.Settings.{loop_words}
use Rattle.loops.specs.declared.progress.Lengths.{Lengths}

-- the first r words are a loop from x: with any stem to x from a start vertex at which the root is false it is a counterexample
pub record LoopBuilt (m : Kripke) (f : Property) (x : ℕ) (was words : List ℕ) (r : ℕ) : Type 0 where
  pub counterexample : (u : ℕ) → u < vertices m f → T (m.start (vertex_of f u).state) → (¬ T (holds_at m f (vertex_of f u) (root f))) →
      (stem : List ℕ) → Walk (product_edge m f) u x stem → Counterexample m f (written_lasso (states_on m f stem) (take r words))
  pub longer : r ≤ loop_words m f
  pub rest : drop r words ≡ drop r was

-- the first r words are the states of a walk from u to x, all but the last
pub record StemWritten (m : Kripke) (f : Property) (u x : ℕ) (was words : List ℕ) (r : ℕ) : Type 0 where
  pub walk : List ℕ
  pub leads : Walk (product_edge m f) u x walk
  pub written : take r words ≡ states_on m f walk
  pub longer : r < vertices m f
  pub rest : drop r words ≡ drop r was

-- the trace, which was `was`, begins with a counterexample, and past it is as it was
pub record LassoWritten (m : Kripke) (f : Property) (was trace : List ℕ) (r : Lengths) : Type 0 where
  pub counterexample : Counterexample m f (record { list = take (r.stem + r.turns) trace; stem = r.stem; loop = r.turns })
  pub within : r.stem + r.turns ≤ vertices m f + loop_words m f
  pub rest : drop (r.stem + r.turns) trace ≡ drop (r.stem + r.turns) was
