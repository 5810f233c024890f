use Rattle.std.proofs.lemmas.Result.{err_from_is_err_and}
use Rattle.std.proofs.Common.{drop}
use Rattle.frames.proofs.Framing.{fault_of_frame, fault_of_line, frame_with_size}
use Rattle.frames.proofs.kinds.frame_at.Goals as goal

pub returns-in_err-digits : goal.returns-in_err-digits
returns-in_err-digits c =
    let p = err_from_is_err_and c.from_residual.result c.from_residual.ensures.1 in
    rw (p.1, p.2) (fault_of_line c.args.number (drop c.args.at c.args.text.now) _ c.in_err-digits.ensures)

pub returns-in_err-frame : goal.returns-in_err-frame
returns-in_err-frame c =
    let p = err_from_is_err_and c.from_residual-in_err-frame.result c.from_residual-in_err-frame.ensures.1 in
    rw (p.1, p.2) (fault_of_frame c.args.number (drop c.args.at c.args.text.now) c.in_ok-digits.digits.now _ c.in_ok-digits.ensures c.in_err-frame.ensures)

pub returns : goal.returns
returns c = frame_with_size c.args.number (drop c.args.at c.args.text.now) c.in_ok-digits.digits.now _ c.in_ok-digits.ensures c.in_ok-frame.ensures
