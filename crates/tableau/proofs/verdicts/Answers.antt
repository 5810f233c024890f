use Rattle.tableau.proofs.Judging.{verdicts}
use Rattle.tableau.proofs.verdicts.Goals as goal

pub returns : goal.returns
returns c = verdicts
