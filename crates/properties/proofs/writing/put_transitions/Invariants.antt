use Rattle.std.proofs.Common.{◌+◌, ◌*◌, ◌≤◌}
use Rattle.frames.specs.Writers.{Writes}
use Rattle.language.specs.Canonical.{each, text_of, transition_line}
use Rattle.properties.specs.Views.{connective_of}
use Rattle.properties.proofs.writing.put_transitions.Given as goal

abbrev pub invariant-loop-p : goal.invariant-loop-p
invariant-loop-p l = record { wrote : Writes l.initial.to l.to (text_of (each l.p (λ p. each l.row.letters (λ a. each l.row.states (λ r. transition_line (connective_of l.row) p a r))))); near : l.to.at ≤ l.initial.to.at + 416 * l.p }
