-- A counterexample, from the tests of its parts.
use Rattle.std.proofs.Common.{MatchBool, true, false, refl, ◌≡◌, ℕ, ◌+◌, ◌-◌, ◌<◌, zero-add, zero-le, Bool, not, ◌↔◌, List, length, get_or, Decides, sym, ap, ◌∙◌, subst, arith}
use Rattle.std.proofs.lemmas.List.{get_or-drop, length-drop, take_rest}
use Rattle.std.proofs.lemmas.Bool.{both_ways}
use Rattle.std.proofs.lemmas.Bool.Decides.{Decides-not}
use Rattle.std.specs.List.{AllWithin, HoldsAt, range_with_len}
use Rattle.std.proofs.lemmas.List.FromFn.{get_or-range_with_len, length-range_with_len}
use Rattle.kripke.specs.Lassos.{Fair, LassoOf}
use Rattle.kripke.specs.Models.{Kripke}
use Rattle.language.specs.Properties.{Property}
use Rattle.logic.specs.OnLassos.{Counterexample, Falsifies}
use Rattle.logic.specs.Truth.{Holds, root}
use Rattle.logic.proofs.Bools.{T_true}
use Rattle.lassos.specs.Lists.{lasso_of, line_of}
use Rattle.lassos.specs.Rounds.{AllMeet, words_from}
use Rattle.lassos.specs.Truths.{round}
use Rattle.lassos.specs.declared.shape.Rounds.{Rounds}
use Rattle.lassos.proofs.Words.{true_T}

-- the answer whether each number below n has P
pub all_below : (r : Bool) (n m : ℕ) (P : ℕ → Type 0) → n ≡ m → MatchBool r (AllWithin P (range_with_len 0 n) 0 (length (range_with_len 0 n))) ((k : ℕ) × (k < length (range_with_len 0 n)) × HoldsAt (λ j. ¬ (P j)) (range_with_len 0 n) k) →
    Decides r ((j : ℕ) → j < m → P j)
all_below true n m P e h = (λ _ j lt. let here : j < n = omega arith in subst P (get_or-range_with_len 0 n j 0 here ∙ zero-add j) (h j 0 zero-le (omega (arith, length-range_with_len 0 n))), λ _. refl)
all_below false n m P e (k, lt, misses) =
    let here : k < n = omega (arith, length-range_with_len 0 n) in
    (λ t. absurd (both_ways false refl t), λ all. absurd (misses 0 (subst P (sym (get_or-range_with_len 0 n k 0 here ∙ zero-add k)) (all k (omega arith)))))

-- the word at place i from position a on
from_at : (a : ℕ) (list : List ℕ) (i : ℕ) → get_or (words_from a list) i 0 ≡ get_or list (a + i) 0
from_at a list i = ap (λ xs. get_or xs i 0) (take_rest list a) ∙ get_or-drop a list i 0

from_length : (a : ℕ) (list : List ℕ) → length (words_from a list) ≡ length list - a
from_length a list = ap length (take_rest list a) ∙ length-drop a list

module _ (m : Kripke) (r : Rounds) where
  -- the words from the end of the stem on are the loop
  fair_is : AllMeet m.sets m.fair (words_from r.stem r.list.now) ↔ Fair m (lasso_of r)
  fair_is = (forth, over)
    where
      forth : AllMeet m.sets m.fair (words_from r.stem r.list.now) → Fair m (lasso_of r)
      forth meets j lj =
          let at = meets j lj in
          (r.stem + at.0, omega arith, omega (arith, at.1, r.inside, from_length r.stem r.list.now), true_T (ap (m.fair j) (sym (from_at r.stem r.list.now at.0)) ∙ at.2))

      over : Fair m (lasso_of r) → AllMeet m.sets m.fair (words_from r.stem r.list.now)
      over fair j lj =
          let at = fair j lj in
          let back : r.stem + (at.0 - r.stem) ≡ at.0 = omega (arith, at.1) in
          (at.0 - r.stem, omega (arith, at.1, at.2, r.inside, from_length r.stem r.list.now), ap (m.fair j) (from_at r.stem r.list.now (at.0 - r.stem) ∙ ap (λ i. get_or r.list.now i 0) back) ∙ T_true _ at.3)

  pub fair_from : (fair : Bool) → Decides fair (AllMeet m.sets m.fair (words_from r.stem r.list.now)) → Decides fair (Fair m (lasso_of r))
  fair_from fair d = (λ t. fair_is.0 (d.0 t), λ f. d.1 (fair_is.1 f))

  -- a fair lasso is a counterexample exactly where the property is not true at its first position
  pub counterexample : (f : Property) (holds : Bool) → LassoOf m (lasso_of r) → Fair m (lasso_of r) → Decides holds (Holds f (line_of m.label r) (root f) 0) → Decides (not holds) (Counterexample m f (lasso_of r))
  counterexample f holds lasso fair d =
      let here : Decides holds (Holds f (round (λ i. m.label (get_or r.list.now i 0)) (r.stem + (length r.list.now - r.stem)) r.stem) (root f) 0) =
      subst (λ n. Decides holds (Holds f (round (λ i. m.label (get_or r.list.now i 0)) n r.stem) (root f) 0)) lasso.words d in
      let falsifies : Decides (not holds) (Falsifies m f (lasso_of r)) = Decides-not holds here in
      (λ t. record { lasso = lasso; fair = fair; falsifies = falsifies.0 t }, λ c. falsifies.1 c.falsifies)
