use Rattle.std.proofs.Common.{◌+◌, ◌≤◌, arith, rules}
use Rattle.product.proofs.Nodes.{narrow_at}
use Rattle.product.proofs.plan.Plan.new.Goals as goal

pub overflow_add-at : goal.overflow_add-at
overflow_add-at c =
    let n = narrow_at c.args.property.now c.loop-k.k c.loop-k-test.true in
    let e = c.loop-k.invariant.0 in
    let w = c.node_width-at.ensures.is in
    let small : c.loop-k.at + c.node_width-at.result ≤ 12 = omega arith in
    search rules
