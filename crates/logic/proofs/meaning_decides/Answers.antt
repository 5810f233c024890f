use Rattle.kripke.proofs.Same.{same}
use Rattle.logic.specs.OnLassos.{Counterexample, Falsifies}
use Rattle.logic.proofs.meaning_decides.Goals as goal

pub returns : goal.returns
returns c = record {
  falsifies = λ m n e f p. same m n e (λ k. Falsifies k f p);
  counterexamples = λ m n e f p. same m n e (λ k. Counterexample k f p);
}
