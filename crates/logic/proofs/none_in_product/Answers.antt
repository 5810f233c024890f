use Rattle.logic.proofs.OnLassos.{none_in_product}
use Rattle.logic.proofs.none_in_product.Goals as goal

pub returns : goal.returns
returns c = none_in_product
