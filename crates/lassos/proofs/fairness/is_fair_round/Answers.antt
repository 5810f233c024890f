use Rattle.models.specs.Markings.{structure}
use Rattle.lassos.proofs.Counterexamples.{fair_from}
use Rattle.lassos.proofs.fairness.is_fair_round.Goals as goal

pub returns : goal.returns
returns g c = fair_from (structure (g.M.Graph.states c.args.model.now) (g.M.Graph.edge c.args.model.now) (g.M.Model.marking c.args.model.now)) c.args.rounds.now c.is_fair.result c.is_fair.ensures
