use Rattle.models.specs.Markings.{structure}
use Rattle.properties.specs.Meaning.{meaning}
use Rattle.lassos.proofs.Counterexamples.{counterexample}
use Rattle.lassos.proofs.judging.is_counterexample.Goals as goal

pub returns : goal.returns
returns g c =
    counterexample (structure (g.M.Graph.states c.args.model.now) (g.M.Graph.edge c.args.model.now) (g.M.Model.marking c.args.model.now)) c.args.rounds.now (meaning c.args.property.now) c.holds.result
    (c.is_lasso.ensures.0 c.if-not-is_lasso.false) (c.is_fair_round.ensures.0 c.if-not-is_fair_round.false) c.holds.ensures
