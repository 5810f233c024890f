use Rattle.graphs.proofs.Finders.{same_since}
use Rattle.kripke.specs.Models.{Kripke}
use Rattle.obligations.specs.Shapes.{model_in, property_in}
use Rattle.loops.proofs.Traces.{traced}
use Rattle.loops.proofs.accepted.Accepted.write_lasso.Goals as goal

pub returns : goal.returns
returns g c =
    let m : Kripke = model_in (record { states = g.M.Graph.states; edge = g.M.Graph.edge; marking = g.M.Model.marking }) c.args.self.now.obligations.inside in
    let f = property_in c.args.self.now.obligations.inside in
    let stem = c.write_stem-stem.ensures in
    let turns = c.build_loop-turns.ensures in
    record {
      lasso = traced m f c.args.u c.args.self.now.x c.write_stem-stem.result c.build_loop-turns.result c.args.trace.now c.write_stem-stem.new.trace c.build_loop-turns.new.words c.requires.first stem.stem turns.built c.build_loop-turns.auto.words c.write_stem-stem.auto.trace c.requires.room;
      finder = same_since _ _ _ stem.finder turns.finder;
    }
