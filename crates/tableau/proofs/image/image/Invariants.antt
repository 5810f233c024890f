use mathlib.Core.Path.{◌≡◌}
use lib.ListN.{length}
use Rattle.logic.specs.Product.{mask_of}
use Rattle.tableau.specs.Images.{hits}
use Rattle.tableau.proofs.image.image.Given as goal

abbrev pub invariant-loop-q : goal.invariant-loop-q
invariant-loop-q l = l.out ≡ mask_of (length l.to) (hits l.mask l.to l.q)
