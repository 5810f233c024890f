use Rattle.std.proofs.Common.{◌<◌}
use Rattle.logic.specs.Product.{start_of}
use Rattle.properties.specs.Meaning.{meaning}
use Rattle.product.proofs.plan.Plan.owner.Given as goal

abbrev pub invariant-loop-k : goal.invariant-loop-k
invariant-loop-k l = l.i < start_of (meaning l.self.property) l.k
