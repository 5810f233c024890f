use Rattle.tableau.proofs.Rounding.{begins}
use Rattle.tableau.proofs.begins.Goals as goal

pub returns : goal.returns
returns c = begins
