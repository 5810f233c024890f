-- The property that rows, a draft and a stored property stand for.
use Rattle.std.specs.Prelude.{false, true, Ok, Err, Result, ⊤}
use Rattle.frames.specs.declared.faults.Refusal.{Refusal}
use Rattle.language.specs.Properties.{Property}
use Rattle.language.specs.Reading.{Draft}
use Rattle.properties.specs.declared.arrays.Rows.{Rows}
use Rattle.properties.specs.declared.drafts.Draft.{Draft as DraftRows}
use Rattle.properties.specs.declared.drafts.Draft.TheVariants.{Open, Ended}
use Rattle.properties.specs.declared.property.Property.{Property as Stored}
use Rattle.properties.specs.Views.{connectives_of, nodes_of}

abbrev pub of_rows : Rows → Property
of_rows r = record { connectives = connectives_of r.connectives r.used; nodes = nodes_of r.nodes r.count }

abbrev pub of_draft : DraftRows → Draft
of_draft (Open r) = record { connectives = (of_rows r).connectives; nodes = (of_rows r).nodes; ended = false }
of_draft (Ended r) = record { connectives = (of_rows r).connectives; nodes = (of_rows r).nodes; ended = true }

abbrev pub meaning : Stored → Property
meaning p = of_rows p.rows

-- a draft that a line led to, or the line's refusal
abbrev pub drafted : Result DraftRows Refusal → Result Draft Refusal
drafted (Ok d) = Ok (of_draft d)
drafted (Err e) = Err e

-- the draft that a line left, where the line was not refused
abbrev pub led : Result ⊤ Refusal → DraftRows → Result DraftRows Refusal
led (Ok x) d = Ok d
led (Err e) d = Err e

abbrev pub meant : Result Stored Refusal → Result Property Refusal
meant (Ok p) = Ok (meaning p)
meant (Err e) = Err e
