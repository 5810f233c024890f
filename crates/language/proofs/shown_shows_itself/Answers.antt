use Rattle.language.proofs.Forms.{well_formed}
use Rattle.language.proofs.ReadsBack.{reads_back}
use Rattle.language.proofs.shown_shows_itself.Goals as goal

pub returns : goal.returns
returns c text p is = reads_back p (well_formed text p is)
