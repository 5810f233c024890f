use Rattle.tableau.proofs.Placing.{placing}
use Rattle.tableau.proofs.placed.Goals as goal

pub returns : goal.returns
returns c = placing
