use Rattle.models.proofs.Clamped.{walk_below, walk_through}
use Rattle.models.proofs.laws.clamps_walk.Goals as goal

pub returns : goal.returns
returns c = record { below = walk_below; through = walk_through }
