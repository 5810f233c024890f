use Rattle.product.proofs.Edges.{edges_are_steps}
use Rattle.product.proofs.laws.edges_are_steps.Goals as goal

pub returns : goal.returns
returns c = edges_are_steps
