use Rattle.language.proofs.ReadsBack.{reads_back}
use Rattle.language.proofs.canonical_reads_back.Goals as goal

pub returns : goal.returns
returns c = reads_back
