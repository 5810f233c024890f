-- Lines of a text, and the bytes that a line spells.
use Rattle.std.specs.Prelude.{ℕ, ◌+◌, ◌*◌, ◌%◌, Bool, cond, ◌&&◌, List, [], ◌∷◌, length, Ok, Err, Result, ◌==◌, nat_lt}
use Rattle.std.specs.List.{list_all}
use Rattle.frames.specs.declared.faults.LineFault.{LineFault}
use Rattle.frames.specs.declared.faults.LineFault.TheVariants.{Digits, Unclosed}
use Rattle.frames.specs.Digits.{is_digit, value}

-- A text cut at each byte 0A: its lines, without the 0A that closes each, and the bytes after the last 0A.
pub record Text : Type 0 where
  pub lines : List (List ℕ)
  pub rest : List ℕ

-- a byte that does not close a line belongs to the first line
abbrev pub onto : ℕ → List (List ℕ) → List ℕ → Text
onto b [] rest = record { lines = []; rest = b ∷ rest }
onto b (line ∷ lines) rest = record { lines = (b ∷ line) ∷ lines; rest = rest }

-- a text that is cut, with one more byte before it
abbrev pub before : ℕ → Text → Text
before b t = cond (b == 10) (record { lines = [] ∷ t.lines; rest = t.rest }) (onto b t.lines t.rest)

abbrev pub cut : List ℕ → Text
cut [] = record { lines = []; rest = [] }
cut (b ∷ bytes) = before b (cut bytes)

-- every byte is a digit
abbrev pub all_digits : List ℕ → Bool
all_digits bytes = list_all is_digit bytes

-- a line is well formed: nothing but digits, an even number of them, at least two
abbrev pub proper : List ℕ → Bool
proper line = all_digits line && (length line % 2 == 0 && nat_lt 0 (length line))

-- the bytes that digits spell, two digits a byte, the higher first
abbrev pub spelt : List ℕ → List ℕ
spelt [] = []
spelt (high ∷ []) = []
spelt (high ∷ low ∷ digits) = (16 * value high + value low) ∷ spelt digits

-- the first line of a text, which is told as the line n: it has to be closed and well formed
abbrev pub line_of : ℕ → List (List ℕ) → Result (List ℕ) LineFault
line_of n [] = Err (Unclosed n)
line_of n (line ∷ lines) = cond (proper line) (Ok line) (Err (Digits n))

abbrev pub first_line : ℕ → List ℕ → Result (List ℕ) LineFault
first_line n text = line_of n (cut text).lines
