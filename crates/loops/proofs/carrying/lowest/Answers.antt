use Rattle.std.proofs.Common.{◌≡◌, true, false, rules, tests}
use Rattle.std.proofs.lemmas.Iterator.{first_from_Range}
use Rattle.masks.specs.Masks.{bit}
use Rattle.loops.proofs.Lowest.{lowest_first}
use Rattle.loops.proofs.carrying.lowest.Goals as goal

pub returns : goal.returns
returns c =
    lowest_first c.args.n (bit c.args.mask) c.find.result
    (first_from_Range _ _ _ _ (λ i. bit c.args.mask i ≡ true) (λ i. bit c.args.mask i ≡ false) c.find.ensures.ran
    (λ x q k. search (rules, tests))
    (λ x q k. (search rules, search (rules, tests))))
