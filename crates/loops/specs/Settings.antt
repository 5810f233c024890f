-- Where a loop is built: what is known of the component, and of the lent words.
use Rattle.std.specs.Prelude.{ℕ, ◌+◌, ◌*◌, ◌<◌, ◌≤◌, Bool, T, List}
use Rattle.graphs.specs.Walks.{Reaches}
use Rattle.kripke.specs.Models.{Kripke}
use Rattle.language.specs.Properties.{Property, WellFormed}
use Rattle.logic.specs.Product.{mask_width}
use Rattle.logic.specs.Truth.{root}
use Rattle.product.specs.Chains.{IndexOf}
use Rattle.tableau.specs.Numbers.{product_edge, vertex_of, vertices}
use Rattle.tableau.specs.Verdicts.{MutuallyReachable, Tested}
use Rattle.tableau.specs.Walks.{holds_at}

-- the product has an index, is small enough, and its strongly connected set G passed the test at its vertex x
pub record Setting (m : Kripke) (f : Property) (G : ℕ → Bool) (x : ℕ) (index : List ℕ) : Type 0 where
  pub indexed : IndexOf m f index
  pub few : vertices m f ≤ 1048576
  pub formed : WellFormed f
  pub vertex : x < vertices m f
  pub joined : MutuallyReachable m f G
  pub tested : Tested m f G x

-- u is a start vertex at which the root is false, and a walk leads from it to x
pub record StartVertex (m : Kripke) (f : Property) (u x : ℕ) : Type 0 where
  pub vertex : u < vertices m f
  pub starts : T (m.start (vertex_of f u).state)
  pub false_root : ¬ T (holds_at m f (vertex_of f u) (root f))
  pub leads : Reaches (product_edge m f) u x

-- the most words that a loop takes: those of the rounds, of a walk to each fair set, and of the way back
abbrev pub loop_words : Kripke → Property → ℕ
loop_words m f = mask_width f * mask_width f * vertices m f + m.sets * vertices m f + vertices m f
