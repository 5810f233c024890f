use Rattle.std.proofs.Common.{arith}
use Rattle.lassos.proofs.Sweeps.{swept_more, swept_same}
use Rattle.lassos.proofs.sweeping.Applied.sweep.Goals as goal

pub loop-i-preserved-then-join_at : goal.loop-i-preserved-then-join_at
loop-i-preserved-then-join_at c =
    swept_more c.args.self.now.row c.args.self.now.operands c.args.bits.now.list.now c.args.bits.now.stem c.args.sets.now c.loop-i.sets c.join_at.new.sets c.loop-i.i c.loop-i.more c.join_at.result
    (omega arith) (omega arith) (omega arith) (omega arith) c.loop-i.invariant c.join_at.ensures.becomes c.join_at.ensures.more c.if-join_at.true

pub loop-i-preserved : goal.loop-i-preserved
loop-i-preserved c =
    swept_same c.args.self.now.row c.args.self.now.operands c.args.bits.now.list.now c.args.bits.now.stem c.args.sets.now c.loop-i.sets c.join_at.new.sets c.loop-i.i c.loop-i.more c.join_at.result
    (omega arith) (omega arith) (omega arith) (omega arith) c.loop-i.invariant c.join_at.ensures.becomes c.join_at.ensures.more c.if-join_at.false
