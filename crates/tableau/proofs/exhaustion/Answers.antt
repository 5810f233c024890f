use Rattle.tableau.proofs.Exhausting.{exhaustion}
use Rattle.tableau.proofs.exhaustion.Goals as goal

pub returns : goal.returns
returns c = exhaustion
