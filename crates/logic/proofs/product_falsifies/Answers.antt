use Rattle.logic.proofs.OnLassos.{product_falsifies}
use Rattle.logic.proofs.product_falsifies.Goals as goal

pub returns : goal.returns
returns c = product_falsifies
