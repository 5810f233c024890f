use Rattle.logic.proofs.Carries.{carry}
use Rattle.logic.proofs.persists_along.Goals as goal

pub returns : goal.returns
returns c = carry
