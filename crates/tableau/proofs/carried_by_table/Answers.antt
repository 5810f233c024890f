use Rattle.tableau.proofs.Images.{carried_by}
use Rattle.tableau.proofs.carried_by_table.Goals as goal

pub returns : goal.returns
returns c = carried_by
