use Rattle.logic.proofs.Carries.{one_time}
use Rattle.logic.proofs.OnLassos.{one_time_lasso}
use Rattle.logic.proofs.one_time.Goals as goal

pub returns : goal.returns
returns c = record { line = one_time; lasso = one_time_lasso }
