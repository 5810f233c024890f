use Rattle.ledger.proofs.Lawful.{lawful}
use Rattle.ledger.proofs.turns_are_lawful.Goals as goal

pub returns : goal.returns
returns c = lawful
