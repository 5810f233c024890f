-- The parts of what makes a list of words a fair lasso.
use Rattle.std.specs.Prelude.{◌≡◌, ℕ, ◌+◌, ◌-◌, ◌<◌, Bool, true, cond, List, length, take, drop, ◌==◌, slice_index}

-- the position that comes after position i of n: position a comes after the last one
abbrev pub after : (n a i : ℕ) → ℕ
after n a i = cond (i + 1 == n) a (i + 1)

-- every word is a state
abbrev pub AllStates : ℕ → List ℕ → Type 0
AllStates states list = (i : ℕ) → i < length list → slice_index list i < states

-- each word steps to that of its follower, where word a follows the last one
abbrev pub GoesRound : (ℕ → ℕ → Bool) → List ℕ → ℕ → Type 0
GoesRound edge list a = (i : ℕ) → i < length list → edge (slice_index list i) (slice_index list (after (length list) a i)) ≡ true

-- the set holds some of the words
abbrev pub Meets : (ℕ → Bool) → List ℕ → Type 0
Meets set words = (i : ℕ) × (i < length words) × (set (slice_index words i) ≡ true)

-- each of so many sets holds some of the words
abbrev pub AllMeet : ℕ → (ℕ → ℕ → Bool) → List ℕ → Type 0
AllMeet sets fair words = (j : ℕ) → j < sets → Meets (fair j) words

-- the words from position a on, to the last
abbrev pub words_from : ℕ → List ℕ → List ℕ
words_from a list = take (length list - a) (drop a list)
