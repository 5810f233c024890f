use Rattle.models.specs.Markings.{structure}
use Rattle.properties.specs.Meaning.{meaning}
use Rattle.loops.proofs.Along.{Left}
use Rattle.loops.proofs.carrying.carry_along.Given as goal

abbrev pub invariant-loop-n : goal.invariant-loop-n
invariant-loop-n g l =
    Left (structure (g.M.Graph.states l.model) (g.M.Graph.edge l.model) (g.M.Model.marking l.model)) (meaning l.plan.property) l.k l.initial.due l.walk l.n-index l.due
