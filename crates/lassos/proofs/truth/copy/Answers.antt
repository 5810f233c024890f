use Rattle.std.proofs.Common.{◌≡◌, ◌<◌, cond, refl, length, get_or, ap, ◌∙◌, arith}
use Rattle.std.proofs.lemmas.List.{get_or-set_other}
use Rattle.std.proofs.lemmas.Bool.{eq-eqb, ne_eqb}
use Rattle.masks.specs.Masks.{bit}
use Rattle.lassos.proofs.Words.{below_set}
use Rattle.lassos.proofs.truth.copy.Goals as goal

pub loop-i-preserved : goal.loop-i-preserved
loop-i-preserved c =
    let at = c.loop-i.i in
    let room : at < length c.loop-i.bits = omega arith in
    let same : get_or c.loop-i.bits at 0 ≡ get_or c.args.bits.now at 0 = c.loop-i.invariant.2 at (omega arith) in (
      λ i j lt lower. below_set (λ i w. bit w j ≡ bit (get_or c.args.bits.now i 0) j) c.loop-i.bits at c.put.result room (λ n ln. c.loop-i.invariant.0 n j ln lower) (c.put.ensures.bits j ∙ ap (λ b. cond b c.has.result (bit (get_or c.loop-i.bits at 0) j)) (ne_eqb j c.args.k (λ e. omega arith)) ∙ ap (λ w. bit w j) same) i lt,
      λ i lt. below_set (λ i w. bit w c.args.k ≡ bit (get_or c.args.sets.now i 0) c.args.q) c.loop-i.bits at c.put.result room c.loop-i.invariant.1 (c.put.ensures.bits c.args.k ∙ ap (λ b. cond b c.has.result (bit (get_or c.loop-i.bits at 0) c.args.k)) (eq-eqb c.args.k c.args.k refl) ∙ c.has.ensures) i lt,
      λ i le. get_or-set_other c.loop-i.bits at i c.put.result 0 (λ e. omega arith) ∙ c.loop-i.invariant.2 i (omega arith),
    )
