use Rattle.tableau.proofs.Complete.{complete}
use Rattle.tableau.proofs.loops_accept.Goals as goal

pub returns : goal.returns
returns c = complete
