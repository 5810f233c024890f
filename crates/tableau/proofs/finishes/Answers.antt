use Rattle.tableau.proofs.Finishing.{finishes}
use Rattle.tableau.proofs.finishes.Goals as goal

pub returns : goal.returns
returns c = finishes
