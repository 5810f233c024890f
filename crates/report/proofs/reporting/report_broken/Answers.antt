use Rattle.std.proofs.Common.{rules}
use Rattle.report.proofs.Words.{broken_filled, broken_told}
use Rattle.report.proofs.reporting.report_broken.Goals as goal

pub returns : goal.returns
returns c =
    let t = c.if-not-tellable.ensures in
    let e = c.report_lasso.ensures in
    record {
      answer = broken_told c.args.stem c.args.turns c.args.words.now _ c.args.area.now c.report_lasso.result t (search rules) e.answer;
      area = broken_filled c.args.stem c.args.turns c.args.words.now _ c.args.area.now c.report_lasso.new.area t (search rules) e.area;
    }
