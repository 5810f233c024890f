use Rattle.logic.proofs.Unfold.{final_start}
use Rattle.logic.proofs.final_start_is_true.Goals as goal

pub returns : goal.returns
returns c = final_start
