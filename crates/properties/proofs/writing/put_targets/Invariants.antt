use Rattle.std.proofs.Common.{◌+◌, ◌*◌, ◌≤◌}
use Rattle.frames.specs.Writers.{Writes}
use Rattle.language.specs.Canonical.{each, text_of, transition_line}
use Rattle.properties.specs.Views.{connective_of}
use Rattle.properties.proofs.writing.put_targets.Given as goal

abbrev pub invariant-loop-r : goal.invariant-loop-r
invariant-loop-r l = record { wrote : Writes l.initial.to l.to (text_of (each l.r (λ r. transition_line (connective_of l.fn.row) l.fn.p l.fn.a r))); near : l.to.at ≤ l.initial.to.at + 13 * l.r }
