use Rattle.std.proofs.Common.{◌+◌, ◌/◌, ◌%◌, get_or, set, refl, ap, ◌∙◌, arith}
use Rattle.std.proofs.lemmas.List.{get_or-take, length-take-le}
use Rattle.loops.proofs.Written.{overwritten_none, states_more}
use Rattle.loops.proofs.copying.copy_states.Goals as goal

pub loop-i-init : goal.loop-i-init
loop-i-init c = overwritten_none c.args.at c.args.words.now

pub loop-i-preserved : goal.loop-i-preserved
loop-i-preserved c =
    let long = length-take-le c.args.count c.args.list.now c.requires.room.0 in
    let at = get_or-take c.args.count c.args.list.now c.loop-i.i 0 (omega arith) in
    rw at
    (ap (λ l. set l (c.args.at + c.loop-i.i) (get_or c.args.list.now c.loop-i.i 0 % c.args.size / c.args.masks)) c.loop-i.invariant
    ∙ states_more c.args.size c.args.masks c.args.at (get_or c.args.list.now c.loop-i.i 0) c.args.list.now c.args.words.now c.loop-i.i (omega arith) (omega arith) refl)
