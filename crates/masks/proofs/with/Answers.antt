use Rattle.std.proofs.Common.{ℕ, cond, ◌==◌, sym, ap, ◌∙◌, ⊎_elim, arith}
use Rattle.std.proofs.lemmas.Bool.{cases_eq, eq-eqb, ne_eqb}
use Rattle.masks.specs.Masks.{bit}
use Rattle.masks.proofs.Bits.{bit_above, put_number, put_set, put_top}
use Rattle.masks.proofs.with.Goals as goal

pub returns-then-value : goal.returns-then-value
returns-then-value c =
    let w = c.args.word in
    let k = c.args.k in
    let each = λ (j : ℕ). put_set w k c.requires.place j ∙ ap (λ v. cond (j == k) v (bit w j)) (sym c.if-value.true) in
    record { bits = each; number = put_top _ w k c.args.value c.requires.low (put_number _ w k c.args.value each) }

pub returns-else-value : goal.returns-else-value
returns-else-value c =
    let w = c.args.word in
    let k = c.args.k in
    let each = λ (j : ℕ). ⊎_elim
    (λ e. bit_above w k j c.requires.low (omega arith) ∙ sym c.if-value.false ∙ ap (λ b. cond b c.args.value (bit w j)) (sym (eq-eqb j k e)))
    (λ ne. ap (λ b. cond b c.args.value (bit w j)) (sym (ne_eqb j k ne)))
    (cases_eq j k)
    in
    record { bits = each; number = put_top _ w k c.args.value c.requires.low (put_number _ w k c.args.value each) }
