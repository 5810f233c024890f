use Rattle.language.proofs.Deciding.{decides, only}
use Rattle.language.proofs.reading_is_decided.Goals as goal

pub returns : goal.returns
returns c = record { decides = decides; only = λ text r d. only text d }
