-- What a model has beside its graph.
use Rattle.std.specs.Prelude.{ℕ, Bool}
use Rattle.kripke.specs.Models.{Kripke}

-- The labels, start states and fair sets of a graph's states.
pub record Marking : Type 0 where
  -- how many fair sets there are
  pub sets : ℕ
  -- the propositions that are true at a state, as a mask
  pub label : ℕ → ℕ
  -- start s: s is a start state
  pub start : ℕ → Bool
  -- fair j s: the fair set j holds the state s
  pub fair : ℕ → ℕ → Bool

-- the Kripke structure of a graph, which has so many states and these edges, under a marking
abbrev pub structure : (states : ℕ) (edge : ℕ → ℕ → Bool) → Marking → Kripke
structure states edge m = record { states = states; sets = m.sets; edge = edge; label = m.label; start = m.start; fair = m.fair }

-- the marking of a Kripke structure: all but its states and edges
abbrev pub marking_of : Kripke → Marking
marking_of k = record { sets = k.sets; label = k.label; start = k.start; fair = k.fair }

-- the Kripke structure that a value of a model type means, by what the type says of states, edges and marking
abbrev pub structure_of : {M : Type 0} → record { states : M → ℕ; edge : M → ℕ → ℕ → Bool; marking : M → Marking } → M → Kripke
structure_of type m = structure (type.states m) (type.edge m) (type.marking m)
