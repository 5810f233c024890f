-- Which nodes are true at the positions of a lasso, as bits of a word for each position.
use Rattle.std.specs.Prelude.{◌≡◌, ℕ, ◌<◌, Bool, true, false, not, ◌&&◌, ◌||◌, T, ◌↔◌, List, length, slice_index}
use Rattle.masks.specs.Masks.{bit}
use Rattle.language.specs.Properties.{Property}
use Rattle.logic.specs.Truth.{Line, Holds}
use Rattle.properties.specs.declared.rows.Node.{Node as NodeRow}
use Rattle.properties.specs.declared.rows.Node.TheVariants.{True, Proposition, Not, Next, And, Or, Apply}
use Rattle.lassos.specs.Rounds.{after}

-- what a node says, where `label` is the label at hand, and `here` and `there` have the bits of the true nodes at the position and at its follower;
-- a connective is not asked in this way
abbrev pub said : NodeRow → (label here there : ℕ) → Bool
said True label here there = true
said (Proposition p) label here there = bit label p
said (Not i) label here there = not (bit here i)
said (Next i) label here there = bit there i
said (And i j) label here there = bit here i && bit here j
said (Or i j) label here there = bit here i || bit here j
said (Apply c arity operands) label here there = false

-- bit 0 of the word at each position below m is what a node says there
abbrev pub Marked : (label : ℕ → ℕ) (list : List ℕ) (a : ℕ) → NodeRow → (bits sets : List ℕ) (m : ℕ) → Type 0
Marked label list a node bits sets m =
    (i : ℕ) → i < m → bit (slice_index sets i) 0 ≡ said node (label (slice_index list i)) (slice_index bits i) (slice_index bits (after (length list) a i))

-- the line of n positions, of which position a follows the last one
abbrev pub round : (label : ℕ → ℕ) (n a : ℕ) → Line
round label n a = record { label = label; after = after n a }

-- bit q of the word at a position says whether node k is true there
abbrev pub Tells : Property → Line → (n k q : ℕ) → List ℕ → Type 0
Tells f l n k q words = (i : ℕ) → i < n → T (bit (slice_index words i) q) ↔ Holds f l k i

-- the word at a position has the bits of the true nodes there, for the nodes below k
abbrev pub Known : Property → Line → (n k : ℕ) → List ℕ → Type 0
Known f l n k words = (j : ℕ) → j < k → Tells f l n j j words
