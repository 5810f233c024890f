use Rattle.std.proofs.Common.{ap, ◌∙◌, arith}
use Rattle.masks.specs.Masks.{bit}
use Rattle.lassos.proofs.Nodes.{mark_more}
use Rattle.lassos.proofs.Words.{low_bit}
use Rattle.lassos.proofs.truth.mark.Goals as goal

pub loop-i-preserved : goal.loop-i-preserved
loop-i-preserved g c =
    mark_more (g.M.Model.marking c.args.model.now).label c.args.rounds.now.list.now c.args.rounds.now.stem c.args.node c.args.bits.now c.loop-i.sets
    c.loop-i.i c.from.result c.label-label.result c.follower.result c.says.result (omega arith) c.loop-i.invariant (ap (λ w. bit w 0) c.from.ensures ∙ low_bit c.says.result) c.says.ensures c.label-label.ensures.is c.follower.ensures
