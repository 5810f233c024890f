use Rattle.std.proofs.Common.{◌-◌, ap, ◌∙◌, arith}
use Rattle.frames.specs.Digits.{digit_of}
use Rattle.frames.proofs.Written.{nibble, written_digit}
use Rattle.frames.proofs.digits.put_number.Goals as goal

pub put-place-requires : goal.put-place-requires
put-place-requires c = omega (arith, c.loop-k.invariant.1)

pub loop-k-preserved : goal.loop-k-preserved
loop-k-preserved c =
    let d = c.digit_of.ensures ∙ ap digit_of (nibble c.args.number (c.loop-k.k - 1)) in
    let w = written_digit c.loop-k.area c.loop-k.place c.loop-k.k c.args.number c.digit_of.result _ c.loop-k-test.true d c.loop-k.invariant.0 in
    (simp (c.put-place.ensures.area, c.put-place.ensures.next) w, omega (arith, c.loop-k.invariant.1))
