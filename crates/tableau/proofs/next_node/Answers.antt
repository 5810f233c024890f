use Rattle.tableau.proofs.Rounding.{next_node}
use Rattle.tableau.proofs.next_node.Goals as goal

pub returns : goal.returns
returns c = next_node
