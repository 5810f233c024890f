use Rattle.logic.proofs.Shadows.{shadow}
use Rattle.logic.proofs.shadow_lemma.Goals as goal

pub returns : goal.returns
returns c = shadow
