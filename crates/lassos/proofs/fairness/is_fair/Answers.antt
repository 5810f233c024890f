use borrow.Author.Tests.{tests}
use Rattle.std.proofs.Common.{ℕ, refl, rules, arith}
use Rattle.std.proofs.lemmas.Iterator.{cases_from_all, YieldsList-from_range}
use Rattle.lassos.specs.Rounds.{Meets}
use Rattle.lassos.proofs.Counterexamples.{all_below}
use Rattle.lassos.proofs.fairness.is_fair.Goals as goal

pub returns : goal.returns
returns g c =
    let P : ℕ → Type 0 = λ j. Meets ((g.M.Model.marking c.args.model.now).fair j) c.args.words.now in
    all_below c.all.result c.fair_sets.result _ P c.fair_sets.ensures.is
    (cases_from_all _ _ c.all.result P (λ j. ¬ (P j)) c.all.ensures.ran (YieldsList-from_range 0 c.fair_sets.result c.fair_sets.result refl (omega arith)) (λ x q k. search (rules, tests)) (λ x q k. search (rules, tests)))
