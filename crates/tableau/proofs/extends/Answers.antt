use Rattle.tableau.proofs.Rounding.{extends}
use Rattle.tableau.proofs.extends.Goals as goal

pub returns : goal.returns
returns c = extends
