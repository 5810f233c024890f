-- Whose a bit of a mask is, and which states of a node are final.
use Rattle.std.specs.Prelude.{ℕ, suc, ◌<◌, ◌≤◌, length}
use Rattle.frames.specs.Frames.{Node}
use Rattle.frames.specs.Frames.Node.{proposition, negation, next, both, either, apply, truth}
use Rattle.language.specs.Properties.{Property, connective_at}
use Rattle.logic.specs.Product.{start_of}

-- bit number i of a mask is one of node k
pub record Owner (f : Property) (i k : ℕ) : Type 0 where
  pub node : k < length f.nodes
  pub from : start_of f k ≤ i
  pub to : i < start_of f (suc k)

-- the final states of a connective node, as a mask; another node has none
abbrev pub finals_of : Property → Node → ℕ
finals_of f (proposition p) = 0
finals_of f (negation k) = 0
finals_of f (next k) = 0
finals_of f (both k m) = 0
finals_of f (either k m) = 0
finals_of f (apply c is) = (connective_at f.connectives c).finals
finals_of f truth = 0
