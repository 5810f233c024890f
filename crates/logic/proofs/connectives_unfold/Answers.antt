use Rattle.std.proofs.Common.{get_or}
use Rattle.logic.specs.Truth.{Holds}
use Rattle.logic.proofs.Unfold.{unfolds}
use Rattle.logic.proofs.connectives_unfold.Goals as goal

pub returns : goal.returns
returns c = λ f l c is q i. unfolds c (λ a j. Holds f l (get_or is a 0) j) l q i
