-- Lists of words that go round, as lassos and as lines.
use Rattle.std.specs.Prelude.{ℕ, ◌-◌, length, slice_index}
use Rattle.kripke.specs.Lassos.{Lasso}
use Rattle.logic.specs.Truth.{Line}
use Rattle.lassos.specs.Truths.{round}
use Rattle.lassos.specs.declared.shape.Rounds.{Rounds}

-- the lasso whose loop is the words from the stem's end on
abbrev pub lasso_of : Rounds → Lasso
lasso_of r = record { list = r.list.now; stem = r.stem; loop = length r.list.now - r.stem }

-- the line of the words' labels
abbrev pub line_of : (label : ℕ → ℕ) → Rounds → Line
line_of label r = round (λ i. label (slice_index r.list.now i)) (length r.list.now) r.stem
