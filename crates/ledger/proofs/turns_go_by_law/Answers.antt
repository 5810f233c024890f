use Rattle.ledger.proofs.Lawful.{by_law}
use Rattle.ledger.proofs.turns_go_by_law.Goals as goal

pub returns : goal.returns
returns c = by_law
