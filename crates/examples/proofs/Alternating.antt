-- Two states that alternate.
use Rattle.std.proofs.Common.{◌≡◌, ℕ, ◌+◌, ◌<◌, ◌&&◌, T, ltb, ◌⊎◌, [], ◌∷◌, get_or, sym, refl, ◌∙◌, subst, inl, inr, arith, lit<}
use Rattle.kripke.specs.Models.{Kripke}
use Rattle.kripke.specs.Lassos.{Lasso, LassoOf, at, follower}
use Rattle.masks.specs.Masks.{bit}
use Rattle.language.specs.Properties.{idle}
use Rattle.language.specs.Reading.{moving}
use Rattle.models.specs.Tables.{among, pair_word}
use Rattle.logic.specs.Truth.{Fulfilled, HoldsBelow, Line}
use Rattle.logic.specs.OnLassos.{Counterexample, lasso_line}
use Rattle.logic.proofs.Bools.{and_T}
use Rattle.logic.proofs.Followers.{follower_in}
use Rattle.logic.proofs.Unfold.{fold_final}
use Rattle.decision.specs.Deciding.{NeverFalsified}
use Rattle.examples.specs.Small.{circle}
use Rattle.examples.proofs.Tests.{among_either, moved, zero_or_one}
use Rattle.examples.proofs.Circles.{circle_of_two, fair_to_none}
use Rattle.examples.proofs.Runs.{by_letter, never_fulfilled}
use Rattle.examples.proofs.Known.{Alternating, Alternating_from_both, Even_times, Not_final_start, Third_times, even_connective, meant, third_connective}

-- an edge leads from one state to the other
other_state : (s t : ℕ) → s < 2 → t < 2 → T ((meant Alternating).edge s t) → s + t ≡ 1
other_state s t h k e =
    let inner = (and_T (ltb s 2) (ltb t 2 && among (pair_word s t) (65536 ∷ 1 ∷ [])) e).1 in
    go (among_either (pair_word s t) 65536 (1 ∷ []) (and_T (ltb t 2) (among (pair_word s t) (65536 ∷ 1 ∷ [])) inner).1)
  where
    last : (1 ≡ pair_word s t) ⊎ ⊥ → s + t ≡ 1
    last (inl same) = omega arith
    last (inr none) = absurd none

    go : (65536 ≡ pair_word s t) ⊎ T (among (pair_word s t) (1 ∷ [])) → s + t ≡ 1
    go (inl same) = omega arith
    go (inr more) = last (among_either (pair_word s t) 1 [] more)

module _ (p : Lasso) (w : LassoOf (meant Alternating) p) where
  -- the other state comes after each position
  alternates : (i : ℕ) → i < p.stem + p.loop → at p i + at p (follower p i) ≡ 1
  alternates i h = other_state (at p i) (at p (follower p i)) (w.states i h) (w.states (follower p i) (follower_in p w.loops i h)) (w.steps i h)

  -- the first word is state 0
  first : at p 0 ≡ 0
  first =
      zero_or_one (λ s. T ((meant Alternating).start s) → s ≡ 0) (λ t. refl) (λ t. absurd t) (at p 0)
      (let l = w.loops in w.states 0 (omega arith)) w.starts

  -- the connective is at the state at which the model is
  abbrev Keeps : ℕ → ℕ → Type 0
  Keeps q i = (i < p.stem + p.loop) × (at p i ≡ q)

  -- neither state is final
  not_final : (q i : ℕ) → Keeps q i → ¬ T (bit even_connective.finals q)
  not_final q i k = zero_or_one (λ s. ¬ T (bit 4 s)) (λ t. t) (λ t. t) q (subst (λ s. s < 2) k.1 (w.states i k.0))

  -- what the letters stand for
  abbrev operand : ℕ → ℕ → Type 0
  operand a j = HoldsBelow Even_times (lasso_line (meant Alternating) p) 3 (get_or (0 ∷ 2 ∷ []) a 0) j

  -- each letter whose operand is true leads to the state at which the model is next
  kept : (q i x r : ℕ) → Keeps q i → T (even_connective.may q x r) → operand x i → Keeps r (follower p i)
  kept q i x r k t o = to_two (moved 0 1 2 (moving 1 0 0 (moving 0 0 1 (idle 3 2 0 4))) q x r t)
    where
      on : follower p i < p.stem + p.loop
      on = follower_in p w.loops i k.0

      sum : at p i + at p (follower p i) ≡ 1
      sum = alternates i k.0

      here : at p i ≡ q
      here = k.1

      to_one : ((q ≡ 0) × (x ≡ 0) × (r ≡ 1)) ⊎ ⊥ → Keeps r (follower p i)
      to_one (inl e) = (on, omega (arith, sum, here, e.0, e.2))
      to_one (inr none) = absurd none

      to_zero : ((q ≡ 1) × (x ≡ 0) × (r ≡ 0)) ⊎ T ((moving 0 0 1 (idle 3 2 0 4)).may q x r) → Keeps r (follower p i)
      to_zero (inl e) = (on, omega (arith, sum, here, e.0, e.2))
      to_zero (inr s) = to_one (moved 0 0 1 (idle 3 2 0 4) q x r s)

      -- a letter that says that proposition 0 is false, at state 0
      to_two : ((q ≡ 0) × (x ≡ 1) × (r ≡ 2)) ⊎ T ((moving 1 0 0 (moving 0 0 1 (idle 3 2 0 4))).may q x r) → Keeps r (follower p i)
      to_two (inl e) =
          let is_false : ¬ T (bit ((meant Alternating).label (at p i)) 0) = subst (λ a. operand a i) e.1 o in
          absurd (is_false (subst (λ s. T (bit ((meant Alternating).label s) 0)) (sym (here ∙ e.0)) tt))
      to_two (inr s) = to_zero (moved 1 0 0 (moving 0 0 1 (idle 3 2 0 4)) q x r s)

  -- so proposition 0 is false at no even time
  at_no_even_time : ¬ Fulfilled even_connective operand (lasso_line (meant Alternating) p) 0 0
  at_no_even_time =
      let l = w.loops in
      never_fulfilled even_connective operand (lasso_line (meant Alternating) p) Keeps not_final kept 0 0 (omega arith, first)

pub even_times_hold : NeverFalsified (meant Alternating) Even_times
even_times_hold p c = c.falsifies (at_no_even_time p c.lasso)

-- from state 1, proposition 0 is false at once
pub second_start_breaks : Counterexample (meant Alternating_from_both) Even_times (circle (1 ∷ 0 ∷ []))
second_start_breaks =
    let m : Kripke = meant Alternating_from_both in
    let l : Line = lasso_line m (circle (1 ∷ 0 ∷ [])) in
    let operand : ℕ → ℕ → Type 0 = λ a j. HoldsBelow Even_times l 3 (get_or (0 ∷ 2 ∷ []) a 0) j in
    record {
      lasso = circle_of_two m 1 0 (lit< tt) (lit< tt) tt tt tt;
      fair = fair_to_none m (circle (1 ∷ 0 ∷ [])) refl;
      falsifies = λ holds. holds (
          by_letter even_connective operand l 0 0 1 2 (lit< tt) (lit< tt) tt (λ t. t)
          (fold_final even_connective operand l 2 1 (lit< tt) tt));
    }

-- three steps on, at state 1, proposition 0 is false
pub third_times_break : Counterexample (meant Alternating) Third_times (circle (0 ∷ 1 ∷ []))
third_times_break =
    let m : Kripke = meant Alternating in
    let l : Line = lasso_line m (circle (0 ∷ 1 ∷ [])) in
    let operand : ℕ → ℕ → Type 0 = λ a j. HoldsBelow Third_times l 3 (get_or (0 ∷ 2 ∷ []) a 0) j in
    record {
      lasso = circle_of_two m 0 1 (lit< tt) (lit< tt) tt tt tt;
      fair = fair_to_none m (circle (0 ∷ 1 ∷ [])) refl;
      falsifies = λ holds. holds (
          by_letter third_connective operand l 0 0 0 1 (lit< tt) (lit< tt) tt tt
          (by_letter third_connective operand l 1 1 0 2 (lit< tt) (lit< tt) tt tt
          (by_letter third_connective operand l 2 0 0 0 (lit< tt) (lit< tt) tt tt
          (by_letter third_connective operand l 0 1 1 3 (lit< tt) (lit< tt) tt (λ t. t)
          (fold_final third_connective operand l 3 0 (lit< tt) tt)))));
    }

-- the empty word will do
pub negated_final_start_breaks : Counterexample (meant Alternating) Not_final_start (circle (0 ∷ 1 ∷ []))
negated_final_start_breaks =
    let m : Kripke = meant Alternating in
    let l : Line = lasso_line m (circle (0 ∷ 1 ∷ [])) in
    record {
      lasso = circle_of_two m 0 1 (lit< tt) (lit< tt) tt tt tt;
      fair = fair_to_none m (circle (0 ∷ 1 ∷ [])) refl;
      falsifies = λ holds. holds (fold_final (idle 1 1 0 1) (λ a j. HoldsBelow Not_final_start l 1 (get_or (0 ∷ []) a 0) j) l 0 0 (lit< tt) tt);
    }
