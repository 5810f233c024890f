-- What can be seen of a docket, in the law's words.
use Rattle.std.specs.Prelude.{None, Option, option_map, slice_index_or}
use Rattle.language.specs.Properties.{Property}
use Rattle.properties.specs.declared.property.Property.{Property as Stored}
use Rattle.properties.specs.Meaning.{meaning}
use Rattle.ledger.specs.Runs.{View}
use Rattle.docket.specs.declared.docket.Docket.{Docket}

-- the property that is stored in a row, or nothing
abbrev pub entry : Option Stored → Option Property
entry row = option_map meaning row

-- what can be seen of a docket: the property in each row, and the tally
abbrev pub view : Docket → View
view d = record { rows = λ k. entry (slice_index_or d.rows k None); tally = d.tally }
