use Rattle.std.proofs.Common.{refl, ◌∙◌, arith, rules}
use Rattle.frames.proofs.Written.{filled_short, told_short, writes_text}
use Rattle.report.specs.Reports.{broken_text}
use Rattle.report.proofs.Words.{broken_length}
use Rattle.report.proofs.reporting.report_lasso.Goals as goal

pub returns-then-area-lasso : goal.returns-then-area-lasso
returns-then-area-lasso c =
    let text = broken_text c.args.stem c.args.turns c.args.lasso.now in
    let size = broken_length c.args.stem c.args.turns c.args.lasso.now in
    record { answer = told_short text c.args.area.now (omega arith); area = filled_short text c.args.area.now (omega arith) }

pub returns : goal.returns
returns c =
    let text = broken_text c.args.stem c.args.turns c.args.lasso.now in
    let size = broken_length c.args.stem c.args.turns c.args.lasso.now in
    let w = writes_text text c.put_broken.ensures refl (omega arith) in
    record { answer = w.0; area = search rules ∙ w.1 }
