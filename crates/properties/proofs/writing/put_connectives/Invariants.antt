use Rattle.std.proofs.Common.{◌+◌, ◌*◌, ◌≤◌}
use Rattle.std.specs.List.{flat_map}
use Rattle.frames.specs.Writers.{Writes}
use Rattle.language.specs.Canonical.{connective_lines, text_of}
use Rattle.properties.specs.Views.{connectives_of}
use Rattle.properties.proofs.writing.put_connectives.Given as goal

abbrev pub invariant-loop-row : goal.invariant-loop-row
invariant-loop-row l = record { wrote : Writes l.initial.to l.to (text_of (flat_map connective_lines (connectives_of l.rows.connectives l.row-index))); near : l.to.at ≤ l.initial.to.at + 3341 * l.row-index }
