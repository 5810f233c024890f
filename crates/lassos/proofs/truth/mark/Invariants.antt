use Rattle.lassos.specs.Truths.{Marked}
use Rattle.lassos.proofs.truth.mark.Given as goal

abbrev pub invariant-loop-i : goal.invariant-loop-i
invariant-loop-i g l = Marked (g.M.Model.marking l.model).label l.rounds.list.now l.rounds.stem l.node l.bits l.sets l.i
