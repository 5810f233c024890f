use Rattle.std.proofs.Common.{arith, rules}
use Rattle.frames.proofs.Written.{length_hexadecimal}
use Rattle.frames.proofs.writers.Writer.put_number.Goals as goal

pub returns : goal.returns
returns c =
    let e = c.put_number-self.ensures in
    let l = length_hexadecimal c.args.digits c.args.number in
    record { same_area = search rules; area = search rules; place = omega (arith, e.next) }
