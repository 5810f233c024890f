use Rattle.logic.proofs.TruthLemma.{truth_lemma}
use Rattle.logic.proofs.truth_lemma.Goals as goal

pub returns : goal.returns
returns c = truth_lemma
