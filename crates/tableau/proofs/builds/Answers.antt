use Rattle.tableau.proofs.Loops.{builds}
use Rattle.tableau.proofs.builds.Goals as goal

pub returns : goal.returns
returns c = builds
