-- What the arrays of a plan keep to.
use Rattle.std.specs.Prelude.{◌≡◌, ℕ, ◌<◌, List, slice_index}
use Rattle.properties.specs.declared.property.Property.{Property as Stored}
use Rattle.properties.specs.Meaning.{meaning}
use Rattle.logic.specs.Product.{start_of}

-- `starts` has the number of the first bit of each node
abbrev pub Starts : Stored → List ℕ → Type 0
Starts p starts = (k : ℕ) → k < p.rows.count → slice_index starts k ≡ start_of (meaning p) k
