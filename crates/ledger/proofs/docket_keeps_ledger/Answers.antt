use Rattle.ledger.proofs.Lawful.{agrees}
use Rattle.ledger.proofs.docket_keeps_ledger.Goals as goal

pub returns : goal.returns
returns c = agrees
