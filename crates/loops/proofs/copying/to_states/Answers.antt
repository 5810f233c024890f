use Rattle.std.proofs.Common.{arith}
use Rattle.loops.proofs.Written.{in_place_none, in_place_more}
use Rattle.loops.proofs.copying.to_states.Goals as goal

pub loop-i-init : goal.loop-i-init
loop-i-init c = in_place_none c.args.size c.args.masks c.args.at c.args.words.now

pub loop-i-preserved : goal.loop-i-preserved
loop-i-preserved c = in_place_more c.args.size c.args.masks c.args.at c.loop-i.words c.args.words.now c.loop-i.i (omega arith) (omega arith) c.loop-i.invariant
