use Rattle.tableau.proofs.Rounding.{round}
use Rattle.tableau.proofs.round.Goals as goal

pub returns : goal.returns
returns c = round
