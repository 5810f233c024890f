use Rattle.tableau.proofs.Numbering.{numbered}
use Rattle.tableau.proofs.numbered.Goals as goal

pub returns : goal.returns
returns c = numbered
