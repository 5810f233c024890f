use Rattle.tableau.proofs.Criteria.{criterion}
use Rattle.tableau.proofs.criterion.Goals as goal

pub returns : goal.returns
returns c = criterion
