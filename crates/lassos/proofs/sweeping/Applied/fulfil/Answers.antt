use Rattle.std.proofs.Common.{arith, rules}
use Rattle.lassos.proofs.Sweeps.{filled, partial_start}
use Rattle.lassos.proofs.sweeping.Applied.fulfil.Goals as goal

pub sweeps-init : goal.sweeps-init
sweeps-init c =
    partial_start c.args.self.now.row c.args.self.now.operands c.args.bits.now.list.now c.args.bits.now.stem c.fill.new.self c.args.self.now.final_states (λ i lt. search rules)

pub returns : goal.returns
returns c =
    filled c.args.self.now.row c.args.self.now.operands c.args.bits.now.list.now c.args.bits.now.stem c.sweep.new.sets (omega arith) c.sweep.ensures.partial (c.sweep.ensures.still c.sweeps-test.false)
