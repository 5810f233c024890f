use Rattle.std.proofs.Common.{◌≡◌, ℕ, ◌<◌, length, get_or}
use Rattle.logic.specs.Product.{start_of}
use Rattle.properties.specs.Meaning.{meaning}
use Rattle.product.proofs.plan.Plan.new.Given as goal

abbrev pub invariant-loop-k : goal.invariant-loop-k
invariant-loop-k l = (l.at ≡ start_of (meaning l.property) l.k) × ((j : ℕ) → j < l.k → get_or l.starts j 0 ≡ start_of (meaning l.property) j) × (length l.starts ≡ 32)
