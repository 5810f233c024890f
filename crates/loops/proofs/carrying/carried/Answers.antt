use Rattle.std.proofs.Common.{◌≡◌, ℕ, ◌<◌, ◌≤◌, Bool, cond, length, take, replicate, sym, refl, ap, ◌∙◌, arith, length-set}
use native.Mathlib.Nat.{sub-zero}
use Rattle.masks.specs.Masks.{bit}
use Rattle.properties.specs.Meaning.{meaning}
use Rattle.tableau.specs.Images.{image_of}
use Rattle.loops.proofs.Lowest.{lowest_or_last}
use Rattle.loops.proofs.Tables.{Tabled, carried_is, tabled_more, tabled_none, target, target_is}
use Rattle.loops.proofs.carrying.carried.Goals as goal
use Rattle.loops.proofs.carrying.carried.Goals.{then-has, else-has}

pub loop-q-init : goal.loop-q-init
loop-q-init c = (refl, tabled_none (meaning c.args.plan.now.property) c.args.label c.args.mask c.args.k c.node_width-states.result c.finals-finals.result (replicate 8 0))

pub loop-q-preserved : goal.loop-q-preserved
loop-q-preserved c =
    let f = meaning c.args.plan.now.property in
    let states : ℕ = c.node_width-states.result in
    let small : states ≤ 8 = c.node_width-states.ensures.small in
    let long : length c.loop-q.to ≡ 8 = c.loop-q.invariant.0 in
    let room : c.loop-q.q < length c.loop-q.to = omega arith in
    let chosen : c.if-has.to ≡ cond c.has.result states c.unwrap_or-r.result = elim c.if-has.branch [
      | then-has w ↦ w.to-is ∙ sym (ap (λ (b : Bool). cond b states c.unwrap_or-r.result) w.if-has.true)
      | else-has w ↦ w.to-is ∙ sym (ap (λ (b : Bool). cond b states c.unwrap_or-r.result) w.if-has.false)
    ] in
    let goes : c.if-has.to ≡ target f c.args.label c.args.mask c.args.k states c.finals-finals.result c.loop-q.q =
    target_is f c.args.label c.args.mask c.args.k states c.finals-finals.result c.loop-q.q c.onward-onward.result c.unwrap_or-r.result c.if-has.to c.has.result
    c.onward-onward.ensures (c.unwrap_or-r.ensures ∙ lowest_or_last states (bit c.onward-onward.result) c.lowest.result (omega arith) c.lowest.ensures) c.has.ensures chosen in (
      length-set c.loop-q.to c.loop-q.q c.if-has.to ∙ long,
      tabled_more f c.args.label c.args.mask c.args.k states c.finals-finals.result c.loop-q.q c.if-has.to c.loop-q.to room c.loop-q.invariant.1 goes,
    )

pub returns : goal.returns
returns c =
    let f = meaning c.args.plan.now.property in
    let states : ℕ = c.node_width-states.result in
    let small : states ≤ 8 = c.node_width-states.ensures.small in
    let long : length c.loop-q.to ≡ 8 = c.loop-q.invariant.0 in
    let end : c.loop-q.q ≡ states = omega arith in
    let all : Tabled f c.args.label c.args.mask c.args.k states c.finals-finals.result states c.loop-q.to = λ q lt. c.loop-q.invariant.1 q (omega arith) in
    carried_is f c.args.label c.args.mask c.args.k c.args.due states c.finals-finals.result c.image.result c.loop-q.to c.node_width-states.ensures.is c.finals-finals.ensures (omega arith) all
    (c.image.ensures ∙ ap (λ n. image_of c.args.due (take n c.loop-q.to)) (sub-zero states))
