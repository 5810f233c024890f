use Rattle.std.proofs.Common.{◌≡◌, Ok, Result, sym, ap, ◌∙◌}
use Rattle.decision.specs.declared.verdict.Verdict.{Verdict}
use Rattle.decision.specs.declared.verdict.Verdict.TheVariants.{Broken}
use Rattle.frames.specs.declared.faults.Refusal.{Refusal}
use Rattle.report.specs.Reports.{report_filled, report_told, reported}
use Rattle.report.proofs.reporting.report.Goals as goal

pub returns-in-Ok-Broken : goal.returns-in-Ok-Broken
returns-in-Ok-Broken c =
    let is : ◌≡◌ {A = Result Verdict Refusal} c.args.outcome (Ok (Broken c.in-Ok-Broken.stem c.in-Ok-Broken.turns)) = c.in-Ok-Broken.is ∙ ap {B = Result Verdict Refusal} (λ v. Ok v) (rw c.in-Ok-Broken.is at c.in-Ok-Broken.field-0-is) in
    record {
      answer = c.report_broken.ensures.answer ∙ sym (ap (λ o. report_told (reported o c.args.words.now) c.args.area.now) is);
      area = c.report_broken.ensures.area ∙ sym (ap (λ o. report_filled (reported o c.args.words.now) c.args.area.now) is);
    }
