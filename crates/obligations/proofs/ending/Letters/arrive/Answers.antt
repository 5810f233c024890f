use Rattle.std.proofs.Common.{◌&&◌, slice_index, rules}
use Rattle.masks.specs.Masks.{bit}
use Rattle.properties.specs.Views.{connective_of}
use Rattle.product.proofs.Searching.{any_range}
use Rattle.obligations.proofs.ending.Letters.arrive.Goals as goal

pub returns : goal.returns
returns c =
    let x = c.args.self.now in
    any_range _ _ (search rules) x.row.letters (λ a. bit x.truths (slice_index x.operands a) && (connective_of x.row).may c.args.q a c.args.r) (λ k b lt called. search rules) c.any.result c.any.ensures.runs
