-- The image of a mask by a table, as code makes it.
use Rattle.std.specs.Prelude.{◌≡◌, Bool, cond, ◌&&◌, List, ℕ, ◌<◌, eqb, length, get_or}
use Rattle.kripke.specs.Models.{Kripke}
use Rattle.masks.specs.Masks.{bit}
use Rattle.language.specs.Properties.{Property, connective_at}
use Rattle.logic.specs.Product.{mask_of, some_below}
use Rattle.tableau.specs.Walks.{Vertex}
use Rattle.tableau.specs.Rounds.{carry}
use Rattle.tableau.specs.Masked.{carried_mask}

-- r is where the table leads from a member, below n, of the mask
abbrev pub hits : ℕ → List ℕ → ℕ → ℕ → Bool
hits mask table n r = some_below n (λ q. bit mask q && eqb (get_or table q 0) r)

-- the image of a mask by a table; a member that the table leads past its end leaves the image
abbrev pub image_of : ℕ → List ℕ → ℕ
image_of mask table = mask_of (length table) (hits mask table (length table))

-- With the table of where each state of a connective is carried on leaving u, or past its end where that is final,
-- the image of a mask of obligations is the mask that they are carried to.
abbrev pub CarriedByTable : Type 0
CarriedByTable = (m : Kripke) (f : Property) (k c : ℕ) (is : List ℕ) (u : Vertex) (M : ℕ) (table : List ℕ) →
    length table ≡ (connective_at f.connectives c).states →
    ((q : ℕ) → q < length table →
    get_or table q 0 ≡ cond (bit (connective_at f.connectives c).finals (carry m f k c is u q)) (length table) (carry m f k c is u q)) →
    image_of M table ≡ carried_mask m f k c is u M
