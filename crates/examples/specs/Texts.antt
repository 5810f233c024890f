-- Texts by the digits of their lines, and tables that are filled from lines.
use Rattle.std.specs.Prelude.{◌≡◌, ℕ, List, [], ◌∷◌, ◌++◌, replicate, Ok, codes, Result}
use Prim.Native.String.{String}
use Rattle.frames.specs.declared.faults.Refusal.{Refusal}
use Rattle.kripke.specs.Models.{Kripke}
use Rattle.language.specs.Properties.{Property}
use Rattle.language.specs.Reading.{onward, read}
use Rattle.models.specs.Fillings.{Filled, begun, fed}
use Rattle.models.specs.Tables.{table}

-- the bytes of a line: its digits, closed by 0A
abbrev pub line : String → List ℕ
line digits = codes digits ++ 10 ∷ []

-- the bytes of a text of such lines
abbrev pub text : List String → List ℕ
text [] = []
text (digits ∷ lines) = line digits ++ text lines

-- a table that is fed one line after the other, or the first refusal
abbrev pub fed_all : List String → Filled → Result Filled Refusal
fed_all [] f = Ok f
fed_all (digits ∷ lines) f = onward (fed f.shape (line digits) f.words) (fed_all lines)

-- a table that is begun with a line, over a store of so many words, all zero, and is fed the other lines
abbrev pub filled : (words : ℕ) → String → List String → Result Filled Refusal
filled words first lines = onward (begun (line first) (replicate words 0)) (fed_all lines)

-- No line of the table is refused, and P is so of what the table means.
pub record Fills (lines : Result Filled Refusal) (P : Kripke → Type 0) : Type 0 where
  pub after : Filled
  pub taken : lines ≡ Ok after
  pub so : P (table after.shape after.words)

-- The text spells a property, and P is so of it.
pub record Spells (bytes : List ℕ) (P : Property → Type 0) : Type 0 where
  pub property : Property
  pub reads : read bytes ≡ Ok property
  pub so : P property

-- P is so of what the table means and of the property that the text spells
abbrev pub Over : Result Filled Refusal → List ℕ → (Kripke → Property → Type 0) → Type 0
Over lines bytes P = Fills lines (λ m. Spells bytes (P m))
