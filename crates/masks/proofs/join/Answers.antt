use Rattle.std.proofs.Common.{◌≡◌, ◌+◌, ◌*◌, ◌%◌, ◌^◌, ap, ◌∙◌, mod-eq_of_lt, bit_or}
use Rattle.std.specs.Int.Bits.{or_shifted_r}
use Rattle.masks.specs.Masks.{bit}
use Rattle.masks.proofs.Bits.{join_bits}
use Rattle.masks.proofs.join.Goals as goal

pub returns : goal.returns
returns c =
    let low = c.args.low in
    let k = c.args.k in
    let high = c.args.high in
    let is : bit_or low (high * 2 ^ k % 4294967296) ≡ high * 2 ^ k + low =
    ap (bit_or low) (mod-eq_of_lt c.requires.high) ∙ or_shifted_r high k low c.requires.low in
    record { bits = λ j. ap (λ x. bit x j) is ∙ join_bits low k high c.requires.low j; number = is }
