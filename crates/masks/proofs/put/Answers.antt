use Rattle.std.proofs.Common.{ℕ, cond, ◌==◌, sym, ap, ◌∙◌, arith}
use Rattle.masks.specs.Masks.{bit}
use Rattle.masks.proofs.Bits.{put_clear, put_number, put_set}
use Rattle.masks.proofs.put.Goals as goal

pub returns-then-value : goal.returns-then-value
returns-then-value c =
    let each = λ (j : ℕ). put_set c.args.word c.args.k c.requires j ∙ ap (λ v. cond (j == c.args.k) v (bit c.args.word j)) (sym c.if-value.true) in
    record { bits = each; number = put_number _ c.args.word c.args.k c.args.value each }

pub returns-else-value : goal.returns-else-value
returns-else-value c =
    let each = λ (j : ℕ). put_clear c.args.word c.args.k (omega arith) c.requires j ∙ ap (λ v. cond (j == c.args.k) v (bit c.args.word j)) (sym c.if-value.false) in
    record { bits = each; number = put_number _ c.args.word c.args.k c.args.value each }
