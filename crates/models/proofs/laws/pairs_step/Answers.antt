use Rattle.models.proofs.Paired.{step_both, step_joint}
use Rattle.models.proofs.laws.pairs_step.Goals as goal

pub returns : goal.returns
returns c = record { both = step_both; joint = step_joint }
