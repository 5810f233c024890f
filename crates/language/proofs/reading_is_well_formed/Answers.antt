use Rattle.language.proofs.Forms.{well_formed}
use Rattle.language.proofs.reading_is_well_formed.Goals as goal

pub returns : goal.returns
returns c = well_formed
