use Rattle.std.proofs.Common.{◌∙◌, rules}
use Rattle.frames.specs.Refusals.{refusal_text}
use Rattle.frames.proofs.Written.{filled_fits}
use Rattle.frames.proofs.faults.Refusal.show.Goals as goal

pub returns-clause-area : goal.returns-clause-area
returns-clause-area c = search rules ∙ (c.put.ensures.area ∙ filled_fits (refusal_text c.args.self.now) c.args.area.now c.if-area-lt13.false)
