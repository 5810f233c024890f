-- Lassos of a Kripke structure: finite lists of states that stand for infinite paths.
use Rattle.std.specs.Prelude.{◌≡◌, Bool, cond, List, ℕ, zero, suc, ◌+◌, ◌<◌, ◌≤◌, T, eqb, length, get_or}
use Rattle.kripke.specs.Models.{Kripke}

-- A lasso goes by steps. A step is an edge of the structure; the two names are kept apart on purpose,
-- so that what a lasso may do next is said in this one place.
abbrev pub step : Kripke → ℕ → ℕ → Bool
step m s t = m.edge s t

-- A list of words, each the number of a state: `stem` stem words, then `loop` loop words, which are gone through again and again.
pub record Lasso : Type 0 where
  pub list : List ℕ
  pub stem : ℕ
  pub loop : ℕ

-- the word at position i
abbrev pub at : Lasso → ℕ → ℕ
at p i = get_or p.list i 0

-- the position that comes after position i: after the last one comes the first loop word
abbrev pub follower : Lasso → ℕ → ℕ
follower p i = cond (eqb (i + 1) (p.stem + p.loop)) p.stem (i + 1)

-- the position of the list at which a lasso stands at time i
abbrev pub position : Lasso → ℕ → ℕ
position p zero = 0
position p (suc i) = follower p (position p i)

-- A lasso of a model: it has a loop, its words are states, the first is a start state, and each word steps to that of its follower.
pub record LassoOf (m : Kripke) (p : Lasso) : Type 0 where
  pub loops : 1 ≤ p.loop
  pub words : length p.list ≡ p.stem + p.loop
  pub states : (i : ℕ) → i < p.stem + p.loop → at p i < m.states
  pub starts : T (m.start (at p 0))
  pub steps : (i : ℕ) → i < p.stem + p.loop → T (step m (at p i) (at p (follower p i)))

-- each fair set holds some loop word; stem words do not count
abbrev pub Fair : Kripke → Lasso → Type 0
Fair m p = (j : ℕ) → j < m.sets → (i : ℕ) × (p.stem ≤ i) × (i < p.stem + p.loop) × T (m.fair j (at p i))
