use Rattle.std.proofs.Common.{◌∙◌, ap, sym}
use Rattle.frames.specs.Borrowed.{meant}
use Rattle.language.specs.Reading.{taken}
use Rattle.properties.specs.Meaning.{of_draft}
use Rattle.properties.proofs.Verdicts.{ended_late}
use Rattle.properties.proofs.drafts.Draft.take.Goals as goal

pub returns-in-Ended-clause-takes : goal.returns-in-Ended-clause-takes
returns-in-Ended-clause-takes c = ended_late c.args.line c.in-Ended.field-0 (meant c.args.frame) ∙ ap (λ d. taken c.args.line (of_draft d) (meant c.args.frame)) (sym c.in-Ended.is)
