-- Truth of a property along a line: extended temporal logic with finite acceptance.
use Rattle.std.specs.Prelude.{◌≡◌, ℕ, zero, suc, ◌-◌, ◌<◌, ◌≤◌, true, false, T, ◌⊎◌, List, length, ◌==◌, slice_index, slice_index_or}
use Rattle.frames.specs.Frames.{Node}
use Rattle.frames.specs.Frames.Node.{proposition, negation, next, both, either, apply, truth}
use Rattle.masks.specs.Masks.{bit}
use Rattle.language.specs.Properties.{Connective, Property, connective_at}

-- node number k; one that does not exist is the truth
abbrev pub node_at : Property → ℕ → Node
node_at f k = slice_index_or f.nodes k truth

-- the number of the last node, which is the root
abbrev pub root : Property → ℕ
root f = length f.nodes - 1

-- A line says which label stands at each time, and which time comes after each. An infinite word has `suc` for `after`;
-- the line of a lasso goes back from its last position to its first loop position.
pub record Line : Type 0 where
  pub label : ℕ → ℕ
  pub after : ℕ → ℕ

-- the line of the infinite word with the label π i at time i
abbrev pub word_line : (ℕ → ℕ) → Line
word_line π = record { label = π; after = suc }

-- the time j followers after i
abbrev pub later : Line → ℕ → ℕ → ℕ
later l zero i = i
later l (suc j) i = later l j (l.after i)

-- The word is of the connective's letters, and `run` names states of the connective that lead over it from `from` to a final state.
pub record Accepts (c : Connective) (from : ℕ) (word : List ℕ) (run : ℕ → ℕ) : Type 0 where
  pub letters : (j : ℕ) → j < length word → slice_index word j < c.letters
  pub states : (j : ℕ) → j ≤ length word → run j < c.states
  pub starts : run 0 ≡ from
  pub moves : (j : ℕ) → j < length word → T (c.may (run j) (slice_index word j) (run (suc j)))
  pub ends : T (bit c.finals (run (length word)))

-- Some word of letters, of any length, has a run from the state `from` to a final state,
-- and the operand of its letter number j is true j followers after i.
pub record Fulfilled (c : Connective) (operand : ℕ → ℕ → Type 0) (l : Line) (from i : ℕ) : Type 0 where
  pub word : List ℕ
  pub run : ℕ → ℕ
  pub accepts : Accepts c from word run
  pub operands : (j : ℕ) → j < length word → operand (slice_index word j) (later l j i)

-- what a node says at time i, where `holds k` says at which times node k is true
abbrev pub Says : Property → Line → (ℕ → ℕ → Type 0) → Node → ℕ → Type 0
Says f l holds (proposition p) i = T (bit (l.label i) p)
Says f l holds (negation k) i = ¬ holds k i
Says f l holds (next k) i = holds k (l.after i)
Says f l holds (both k m) i = holds k i × holds m i
Says f l holds (either k m) i = holds k i ⊎ holds m i
Says f l holds (apply c operands) i =
    Fulfilled (connective_at f.connectives c) (λ a j. holds (slice_index operands a) j) l (connective_at f.connectives c).start i
Says f l holds truth i = Unit {0}

-- the truth of the nodes numbered below n, each worked out from the nodes before it
abbrev pub HoldsBelow : Property → Line → ℕ → ℕ → ℕ → Type 0
HoldsBelow f l zero k i = ⊥
HoldsBelow f l (suc n) k i =
    elim (k == n) [ true ↦ Says f l (HoldsBelow f l n) (node_at f n) i | false ↦ HoldsBelow f l n k i ]

-- node k is true at time i
abbrev pub Holds : Property → Line → ℕ → ℕ → Type 0
Holds f l k i = HoldsBelow f l (suc k) k i

-- the property is true of the infinite word: its root is true at time 0
abbrev pub TrueOf : Property → (ℕ → ℕ) → Type 0
TrueOf f π = Holds f (word_line π) (root f) 0
