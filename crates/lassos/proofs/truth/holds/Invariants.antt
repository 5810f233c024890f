use Rattle.std.proofs.Common.{length}
use Rattle.properties.specs.Meaning.{meaning}
use Rattle.lassos.specs.Lists.{line_of}
use Rattle.lassos.specs.Truths.{Known}
use Rattle.lassos.proofs.truth.holds.Given as goal

abbrev pub invariant-loop-k : goal.invariant-loop-k
invariant-loop-k g l = Known (meaning l.property) (line_of (g.M.Model.marking l.model).label l.rounds) (length l.rounds.list.now) l.k l.bits
