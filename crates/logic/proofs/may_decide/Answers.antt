use Rattle.logic.proofs.OnLassos.{may_decide}
use Rattle.logic.proofs.may_decide.Goals as goal

pub returns : goal.returns
returns c = may_decide
