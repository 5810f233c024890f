use Rattle.std.proofs.Common.{◌≡◌, length}
use Rattle.properties.specs.Meaning.{meaning}
use Rattle.loops.proofs.Tables.{Tabled}
use Rattle.loops.proofs.carrying.carried.Given as goal

abbrev pub invariant-loop-q : goal.invariant-loop-q
invariant-loop-q l = (length l.to ≡ 8) × Tabled (meaning l.plan.property) l.label l.mask l.k l.states l.finals l.q l.to
