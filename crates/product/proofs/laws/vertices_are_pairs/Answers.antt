use Rattle.product.proofs.Numbers.{vertices_are_pairs}
use Rattle.product.proofs.laws.vertices_are_pairs.Goals as goal

pub returns : goal.returns
returns c = vertices_are_pairs
