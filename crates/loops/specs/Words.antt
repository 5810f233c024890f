-- Words that are written over, and a walk among them.
use Rattle.std.specs.Prelude.{◌≡◌, ℕ, ◌+◌, ◌/◌, ◌%◌, ◌<◌, ◌≤◌, Bool, List, ◌++◌, map, length, take, drop}
use Rattle.graphs.specs.Walks.{Walk}

-- the words with a part written over those from the place `at` on
abbrev pub overwritten : (at : ℕ) (part words : List ℕ) → List ℕ
overwritten at part words = take at words ++ (part ++ drop (at + length part) words)

-- the states of the vertices that are told by numbers of a graph of layers: each layer has `size` vertices, and each state `masks` of these
abbrev pub states_from : (size masks : ℕ) → List ℕ → List ℕ
states_from size masks l = map (λ n. n % size / masks) l

-- a walk of len vertices stands in the words from `at` on, no more than `room` words were written, and the others are as they were
pub record Routed (edge : ℕ → ℕ → Bool) (from to at room : ℕ) (was words : List ℕ) (len : ℕ) : Type 0 where
  pub some : 0 < len
  pub within : len ≤ room
  pub walk : Walk edge from to (take len (drop at words))
  pub before : take at words ≡ take at was
  pub rest : drop (at + len) words ≡ drop (at + len) was
