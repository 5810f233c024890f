use Rattle.std.proofs.Common.{◌≡◌, ◌≤◌, length, get_or, arith, ltb-false}
use Rattle.frames.proofs.Framing.{apply_by_digits}
use Rattle.frames.proofs.kinds.frame_by_kind.Goals as goal

pub returns-in-37 : goal.returns-in-37
returns-in-37 c =
    let bytes = c.args.bytes.now in
    let kind : get_or bytes 0 0 ≡ 37 = grind arith in
    let long : 3 ≤ length bytes = omega (arith, ltb-false) in
    apply_by_digits c.args.number bytes c.args.digits.now c.requires.spelt kind long (omega arith)
