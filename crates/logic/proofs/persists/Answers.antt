use Rattle.logic.proofs.Claims.{persist, persist_edge}
use Rattle.logic.proofs.persists.Goals as goal

pub returns : goal.returns
returns c = record { edge = persist_edge; line = persist }
