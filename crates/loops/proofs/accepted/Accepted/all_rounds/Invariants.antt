use Rattle.std.proofs.Common.{◌≡◌, ◌+◌, drop}
use Rattle.graphs.specs.Finders.{SameWords}
use Rattle.obligations.specs.Shapes.{model_in, property_in, set_in}
use Rattle.loops.specs.Rounding.{NodesDone}
use Rattle.loops.proofs.accepted.Accepted.all_rounds.Given as goal

abbrev pub invariant-loop-k : goal.invariant-loop-k
invariant-loop-k g l =
    NodesDone (model_in (record { states = g.M.Graph.states; edge = g.M.Graph.edge; marking = g.M.Model.marking }) l.self.obligations.inside) (property_in l.self.obligations.inside) (set_in l.self.obligations.inside) l.self.x l.k l.at l.words
    × (drop (l.at + 1) l.words ≡ drop (l.at + 1) l.initial.words) × SameWords l.initial.finder l.finder
