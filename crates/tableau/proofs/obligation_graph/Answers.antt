use Rattle.tableau.proofs.Obliging.{obligation_graph}
use Rattle.tableau.proofs.obligation_graph.Goals as goal

pub returns : goal.returns
returns c = obligation_graph
