use Rattle.logic.proofs.Unroll.{lassos_unroll}
use Rattle.logic.proofs.lassos_unroll.Goals as goal

pub returns : goal.returns
returns c = lassos_unroll
