-- The stem.
use Rattle.std.proofs.Common.{ℕ, ◌<◌, List}
use Rattle.graphs.specs.Walks.{Walk}
use Rattle.kripke.specs.Models.{Kripke}
use Rattle.language.specs.Properties.{Property}
use Rattle.tableau.specs.Numbers.{product_edge, vertices}
use Rattle.loops.specs.Lassos.{StemWritten}
use Rattle.loops.proofs.Places.{Copied}

-- a walk to x whose states stand in the first words
pub stem_of : (m : Kripke) (f : Property) (u x r : ℕ) (walk was words : List ℕ) → Walk (product_edge m f) u x walk → Copied m f walk was words 0 r →
    r < vertices m f → StemWritten m f u x was words r
stem_of m f u x r walk was words leads copied low = record { walk = walk; leads = leads; written = copied.written; longer = low; rest = copied.rest }
