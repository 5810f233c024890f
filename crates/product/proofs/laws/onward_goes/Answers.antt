use Rattle.product.proofs.Going.{onward_goes}
use Rattle.product.proofs.laws.onward_goes.Goals as goal

pub returns : goal.returns
returns c = onward_goes
