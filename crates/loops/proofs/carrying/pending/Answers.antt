use Rattle.std.proofs.Common.{ap, ◌∙◌, rules}
use Rattle.properties.specs.Meaning.{meaning}
use Rattle.masks.specs.Masks.{bit}
use Rattle.logic.specs.Product.{mask_of}
use Rattle.tableau.specs.Rounds.{pending}
use Rattle.obligations.specs.Dues.{DueOf}
use Rattle.product.proofs.Loops.{mask_told}
use Rattle.loops.proofs.carrying.pending.Goals as goal

pub returns : goal.returns
returns c m u el em =
    let f = meaning c.args.plan.now.property in
    let k = c.args.k in
    mask_told c.node_width.result c.mask.result (pending m f u k) c.mask.ensures.fits
    (λ q lt. let h = c.mask.ensures.bits q lt in
    let due : DueOf f c.args.label c.args.mask k q (bit c.mask.result q) = search rules in
    due m u el em)
    ∙ ap (λ n. mask_of n (pending m f u k)) c.node_width.ensures.is
