use Rattle.std.proofs.Common.{◌+◌, ◌*◌, ◌≤◌}
use Rattle.frames.specs.Writers.{Writes}
use Rattle.language.specs.Canonical.{each, text_of, transition_line}
use Rattle.properties.specs.Views.{connective_of}
use Rattle.properties.proofs.writing.put_letters.Given as goal

abbrev pub invariant-loop-a : goal.invariant-loop-a
invariant-loop-a l = record { wrote : Writes l.initial.to l.to (text_of (each l.a (λ a. each l.row.states (λ r. transition_line (connective_of l.row) l.p a r)))); near : l.to.at ≤ l.initial.to.at + 104 * l.a }
