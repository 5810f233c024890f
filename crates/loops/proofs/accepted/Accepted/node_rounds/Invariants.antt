use Rattle.graphs.specs.Finders.{SameWords}
use Rattle.obligations.specs.Shapes.{model_in, property_in, set_in}
use Rattle.loops.specs.Rounding.{due_count}
use Rattle.loops.proofs.Budgets.{UnderWay}
use Rattle.loops.proofs.accepted.Accepted.node_rounds.Given as goal

abbrev pub invariant-loop-done : goal.invariant-loop-done
invariant-loop-done g l =
    UnderWay (model_in (record { states = g.M.Graph.states; edge = g.M.Graph.edge; marking = g.M.Model.marking }) l.self.obligations.inside) (property_in l.self.obligations.inside) (set_in l.self.obligations.inside) l.self.x l.k l.at l.initial.words l.done l.words
    × SameWords l.initial.finder l.finder

abbrev pub decreases-loop-done : goal.decreases-loop-done
decreases-loop-done g l = due_count (property_in l.self.obligations.inside) l.k l.done.due
