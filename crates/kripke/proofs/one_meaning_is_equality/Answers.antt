use Rattle.kripke.specs.Lassos.{LassoOf, Fair}
use Rattle.kripke.proofs.Same.{equal, same}
use Rattle.kripke.proofs.one_meaning_is_equality.Goals as goal

pub returns : goal.returns
returns c = record {
  equal = equal;
  lassos = λ m n e p. same m n e (λ k. LassoOf k p);
  fair = λ m n e p. same m n e (λ k. Fair k p);
}
