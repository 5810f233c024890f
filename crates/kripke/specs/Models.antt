-- What a model means: a Kripke structure with start states and fair sets.
use Rattle.std.specs.Prelude.{◌≡◌, Bool, ℕ}

-- A finite Kripke structure. Its states are the numbers below `states`, and its fair sets those below `sets`.
pub record Kripke : Type 0 where
  pub states : ℕ
  pub sets : ℕ
  -- edge s t: the state t may come after the state s
  pub edge : ℕ → ℕ → Bool
  -- the propositions that are true at a state, as a mask: bit p for proposition p
  pub label : ℕ → ℕ
  -- start s: s is a start state
  pub start : ℕ → Bool
  -- fair j s: the fair set j holds the state s
  pub fair : ℕ → ℕ → Bool

-- Two Kripke structures have one meaning: every question about states, edges, labels, start states and fair sets has one answer in both.
pub record OneMeaning (m n : Kripke) : Type 0 where
  pub states : m.states ≡ n.states
  pub sets : m.sets ≡ n.sets
  pub edge : (s t : ℕ) → m.edge s t ≡ n.edge s t
  pub label : (s : ℕ) → m.label s ≡ n.label s
  pub start : (s : ℕ) → m.start s ≡ n.start s
  pub fair : (j s : ℕ) → m.fair j s ≡ n.fair j s
