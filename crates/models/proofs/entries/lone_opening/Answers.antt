use Rattle.std.proofs.Common.{ap, ◌∙◌}
use Rattle.models.specs.Entries.{opening}
use Rattle.models.proofs.Lines.{opening_head}
use Rattle.models.proofs.entries.lone_opening.Goals as goal

pub returns : goal.returns
returns c = c.lone.ensures opening (record { is = λ bytes said gives. gives.1 ∙ ap opening gives.2; enough = opening_head })
