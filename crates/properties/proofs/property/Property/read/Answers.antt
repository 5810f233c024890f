use Rattle.std.proofs.Common.{◌<◌, length, drop, sym, ◌∙◌, arith}
use Rattle.std.proofs.lemmas.List.{length-drop}
use Rattle.std.proofs.lemmas.Result.{err_from_is_err_and}
use Rattle.language.proofs.Forms.{well_formed}
use Rattle.properties.specs.Meaning.{of_draft, of_rows}
use Rattle.properties.proofs.Readings.{all_read, decided_by, frame_refused, line_refused, line_size, line_taken, too_long_read}
use Rattle.properties.proofs.Verdicts.{may_store}
use Rattle.properties.proofs.property.Property.read.Goals as goal

pub returns-then-text-gt65536 : goal.returns-then-text-gt65536
returns-then-text-gt65536 c =
    let e = too_long_read c.args.text.now c.if-text-gt65536.true in
    record { spells = e; decided = decided_by c.args.text.now _ e }

pub returns-in_err-frame : goal.returns-in_err-frame
returns-in_err-frame c =
    let p = err_from_is_err_and c.from_residual.result c.from_residual.ensures.1 in
    let t = drop c.loop-at.at c.args.text.now in
    let left : 0 < length t = simp length-drop (omega arith) in
    let e = frame_refused c.loop-at.number (of_draft c.loop-at.draft) t _ left c.in_err-frame.ensures ∙ sym c.loop-at.invariant.same in
    rw (p.1, p.2) (record { spells = e; decided = decided_by c.args.text.now _ e })

pub returns-in_err-take : goal.returns-in_err-take
returns-in_err-take c =
    let p = err_from_is_err_and c.from_residual-in_err-take.result c.from_residual-in_err-take.ensures.1 in
    let t = drop c.loop-at.at c.args.text.now in
    let e = line_refused c.loop-at.number (of_draft c.loop-at.draft) t _ c.in_ok-frame.size _ c.in_ok-frame.ensures c.in_err-take.ensures.takes ∙ sym c.loop-at.invariant.same in
    rw (p.1, p.2) (record { spells = e; decided = decided_by c.args.text.now _ e })

pub overflow_add-at : goal.overflow_add-at
overflow_add-at c =
    let s = line_size c.loop-at.number c.loop-at.at c.args.text.now _ c.in_ok-frame.size c.loop-at.invariant.within c.in_ok-frame.ensures in
    omega (arith, s.1)

pub loop-at-smaller : goal.loop-at-smaller
loop-at-smaller c =
    let s = line_size c.loop-at.number c.loop-at.at c.args.text.now _ c.in_ok-frame.size c.loop-at.invariant.within c.in_ok-frame.ensures in
    omega (arith, s.0, s.1)

pub loop-at-preserved : goal.loop-at-preserved
loop-at-preserved c =
    let s = line_size c.loop-at.number c.loop-at.at c.args.text.now _ c.in_ok-frame.size c.loop-at.invariant.within c.in_ok-frame.ensures in
    let e = c.loop-at.invariant.same ∙ line_taken c.loop-at.number c.loop-at.at (of_draft c.loop-at.draft) _ c.args.text.now _ c.in_ok-frame.size c.in_ok-frame.ensures c.in_ok-take.ensures.takes in
    record { within = s.1; numbered = omega (arith, s.0, c.loop-at.invariant.numbered); same = e }

pub returns-in-Open : goal.returns-in-Open
returns-in-Open c =
    let e = sym (c.loop-at.invariant.same ∙ all_read c.loop-at.number c.loop-at.at c.args.text.now c.loop-at-test.false c.in-Open.is) in
    record { spells = e; decided = decided_by c.args.text.now _ e }

pub invariant_of-result : goal.invariant_of-result
invariant_of-result c =
    let e = c.loop-at.invariant.same ∙ all_read c.loop-at.number c.loop-at.at c.args.text.now c.loop-at-test.false c.in-Ended.is in
    record { fit = may_store c.in-Ended.rows (well_formed c.args.text.now (of_rows c.in-Ended.rows) e) }

pub returns-in-Ended : goal.returns-in-Ended
returns-in-Ended c =
    let e = sym (c.loop-at.invariant.same ∙ all_read c.loop-at.number c.loop-at.at c.args.text.now c.loop-at-test.false c.in-Ended.is) in
    record { spells = e; decided = decided_by c.args.text.now _ e }
