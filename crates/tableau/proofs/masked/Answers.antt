use Rattle.tableau.proofs.Masking.{masked}
use Rattle.tableau.proofs.masked.Goals as goal

pub returns : goal.returns
returns c = masked
