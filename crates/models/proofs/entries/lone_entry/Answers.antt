use Rattle.std.proofs.Common.{ap, ◌∙◌}
use Rattle.models.specs.Entries.{entry}
use Rattle.models.proofs.Lines.{entry_head}
use Rattle.models.proofs.entries.lone_entry.Goals as goal

pub returns : goal.returns
returns c = c.lone.ensures entry (record { is = λ bytes said gives. gives.1 ∙ ap entry gives.2; enough = entry_head })
