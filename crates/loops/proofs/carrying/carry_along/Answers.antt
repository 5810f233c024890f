use Rattle.std.proofs.Common.{arith}
use Rattle.kripke.specs.Models.{Kripke}
use Rattle.models.specs.Markings.{structure}
use Rattle.properties.specs.Meaning.{meaning}
use Rattle.loops.proofs.Along.{left_all, left_more, left_none}
use Rattle.loops.proofs.carrying.carry_along.Goals as goal

pub loop-n-init : goal.loop-n-init
loop-n-init g c =
    let model = c.args.model.now in
    let m : Kripke = structure (g.M.Graph.states model) (g.M.Graph.edge model) (g.M.Model.marking model) in
    left_none m (meaning c.args.plan.now.property) c.args.k c.args.due c.args.walk.now

pub loop-n-preserved : goal.loop-n-preserved
loop-n-preserved g c =
    let model = c.args.model.now in
    let m : Kripke = structure (g.M.Graph.states model) (g.M.Graph.edge model) (g.M.Model.marking model) in
    left_more m (meaning c.args.plan.now.property) c.args.k c.args.due c.args.walk.now c.loop-n.n-index c.loop-n.due c.carried-due.result c.args.size c.size-masks.result c.label-label.result
    (omega arith) c.requires.sizes.0 c.size-masks.ensures.is c.label-label.ensures.is c.carried-due.ensures c.loop-n.invariant

pub returns : goal.returns
returns g c =
    let model = c.args.model.now in
    let m : Kripke = structure (g.M.Graph.states model) (g.M.Graph.edge model) (g.M.Model.marking model) in
    left_all m (meaning c.args.plan.now.property) c.args.k c.args.due c.args.walk.now c.loop-n.n-index c.loop-n.due (omega arith) c.loop-n.invariant
