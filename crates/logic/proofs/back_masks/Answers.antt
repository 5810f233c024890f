use Rattle.logic.proofs.Backs.{back_steps}
use Rattle.logic.proofs.Spread.{widths}
use Rattle.logic.proofs.back_masks.Goals as goal

pub returns : goal.returns
returns c = record { widths = widths; steps = back_steps }
