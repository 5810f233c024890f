-- What the rows of a docket keep to.
use Rattle.std.specs.Prelude.{◌≡◌, ℕ, Bool, true, List, Some, None, Option, slice_index_or}
use Rattle.properties.specs.declared.property.Property.{Property as Stored}
use Rattle.properties.specs.Views.{fits}

-- a row has nothing, or plain rows of a property within the limits, operands below their nodes
abbrev pub row_fits : Option Stored → Bool
row_fits None = true
row_fits (Some p) = fits p.rows.connectives p.rows.used p.rows.nodes p.rows.count

-- so does every row
abbrev pub RowsFit : List (Option Stored) → Type 0
RowsFit rows = (i : ℕ) → row_fits (slice_index_or rows i None) ≡ true
