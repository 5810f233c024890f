-- A model that may stay or go, with and without a fair set, and one that goes nowhere.
use Rattle.std.proofs.Common.{◌≡◌, ℕ, zero, suc, ◌+◌, ◌<◌, false, ◌&&◌, T, ltb, ◌⊎◌, [], ◌∷◌, get_or, sym, refl, subst, inl, inr, arith, lit<}
use Rattle.kripke.specs.Lassos.{Lasso, LassoOf, at, follower}
use Rattle.masks.specs.Masks.{bit}
use Rattle.language.specs.Properties.{Property, idle}
use Rattle.language.specs.Reading.{moving}
use Rattle.logic.specs.Truth.{Fulfilled, HoldsBelow, Line}
use Rattle.logic.specs.OnLassos.{Counterexample, lasso_line}
use Rattle.logic.proofs.Bools.{and_T}
use Rattle.logic.proofs.Followers.{next_follower}
use Rattle.logic.proofs.Unfold.{fold_final}
use Rattle.decision.specs.Deciding.{NeverFalsified}
use Rattle.examples.specs.Small.{WithoutLassos, circle}
use Rattle.examples.proofs.Tests.{moved, zero_or_one}
use Rattle.examples.proofs.Circles.{circle_of_one, fair_to_none}
use Rattle.examples.proofs.Runs.{by_letter, never_fulfilled}
use Rattle.examples.proofs.Known.{Eventually, May_go, Must_go, Stuck, eventual_connective, meant}

-- at state 0, for ever
abbrev staying : Line
staying = lasso_line (meant May_go) (circle (0 ∷ []))

-- what the letters stand for
abbrev staying_operand : ℕ → ℕ → Type 0
staying_operand a j = HoldsBelow Eventually staying 2 (get_or (0 ∷ 1 ∷ []) a 0) j

-- the connective stays at its start
abbrev Stays : ℕ → ℕ → Type 0
Stays q i = (q ≡ 0) × (i ≡ 0)

-- no letter whose operand is true leads it away
stays_on : (q i x r : ℕ) → Stays q i → T (eventual_connective.may q x r) → staying_operand x i → Stays r (staying.after i)
stays_on q i x r k t o = goes (moved 0 1 1 (moving 0 0 0 (idle 2 2 0 2)) q x r t)
  where
    back : staying.after i ≡ 0
    back = subst (λ n. staying.after n ≡ 0) (sym k.1) refl

    stays : ((q ≡ 0) × (x ≡ 0) × (r ≡ 0)) ⊎ ⊥ → Stays r (staying.after i)
    stays (inl e) = (e.2, back)
    stays (inr none) = absurd none

    -- proposition 0 is false
    goes : ((q ≡ 0) × (x ≡ 1) × (r ≡ 1)) ⊎ T ((moving 0 0 0 (idle 2 2 0 2)).may q x r) → Stays r (staying.after i)
    goes (inl e) =
        let here : staying_operand 1 i = subst (λ a. staying_operand a i) e.1 o in
        absurd (subst (λ n. staying_operand 1 n) k.1 here)
    goes (inr s) = stays (moved 0 0 0 (idle 2 2 0 2) q x r s)

-- so proposition 0 is true at no time
pub unfair_staying_breaks : Counterexample (meant May_go) Eventually (circle (0 ∷ []))
unfair_staying_breaks = record {
  lasso = circle_of_one (meant May_go) 0 (lit< tt) tt tt;
  fair = fair_to_none (meant May_go) (circle (0 ∷ [])) refl;
  falsifies =
      never_fulfilled eventual_connective staying_operand staying Stays
      (λ q i k t. subst (λ s. T (bit 2 s)) k.0 t) stays_on 0 0 (refl, refl);
}

module _ (p : Lasso) (w : LassoOf (meant Must_go) p) where
  -- what the letters stand for
  abbrev operand : ℕ → ℕ → Type 0
  operand a j = HoldsBelow Eventually (lasso_line (meant Must_go) p) 2 (get_or (0 ∷ 1 ∷ []) a 0) j

  -- a state of the fair set has proposition 0
  fair_is_true : (s : ℕ) → s < 2 → T ((meant Must_go).fair 0 s) → T (bit ((meant Must_go).label s) 0)
  fair_is_true = zero_or_one (λ s. T ((meant Must_go).fair 0 s) → T (bit ((meant Must_go).label s) 0)) (λ t. absurd t) (λ t. tt)

  -- d positions before such a state the connective is fulfilled
  before : (d i : ℕ) → d + i < p.stem + p.loop → T (bit ((meant Must_go).label (at p (d + i))) 0) →
      Fulfilled eventual_connective operand (lasso_line (meant Must_go) p) 0 i
  before zero i h t =
      let e : 0 + i ≡ i = omega arith in
      by_letter eventual_connective operand (lasso_line (meant Must_go) p) 0 i 1 1 (lit< tt) (lit< tt) tt
      (subst (λ n. T (bit ((meant Must_go).label (at p n)) 0)) e t)
      (fold_final eventual_connective operand (lasso_line (meant Must_go) p) 1 (follower p i) (lit< tt) tt)
  before (suc d) i h t =
      let e : suc d + i ≡ d + suc i = omega arith in
      let f : follower p i ≡ suc i = next_follower p i (omega arith) in
      by_letter eventual_connective operand (lasso_line (meant Must_go) p) 0 i 0 0 (lit< tt) (lit< tt) tt tt
      (subst (λ n. Fulfilled eventual_connective operand (lasso_line (meant Must_go) p) 0 n) (sym f)
      (before d (suc i) (omega arith) (subst (λ n. T (bit ((meant Must_go).label (at p n)) 0)) e t)))

-- the loop comes to such a state
pub fairness_holds : NeverFalsified (meant Must_go) Eventually
fairness_holds p c =
    let f = c.fair 0 (lit< tt) in
    let i : ℕ = f.0 in
    let h : i < p.stem + p.loop = f.2 in
    let e : i ≡ i + 0 = omega arith in
    let t : T (bit ((meant Must_go).label (at p i)) 0) = fair_is_true p c.lasso (at p i) (c.lasso.states i h) f.3 in
    c.falsifies (before p c.lasso i 0 (omega arith) (subst (λ n. T (bit ((meant Must_go).label (at p n)) 0)) e t))

-- no state comes after any other
no_edge : (s t : ℕ) → ¬ T ((meant Stuck).edge s t)
no_edge s t e = (and_T (ltb t 1) false (and_T (ltb s 1) (ltb t 1 && false) e).1).1

-- a lasso would step
no_lasso : (p : Lasso) → LassoOf (meant Stuck) p → ⊥
no_lasso p w = let l = w.loops in no_edge (at p 0) (at p (follower p 0)) (w.steps 0 (omega arith))

pub without_lassos : (f : Property) → WithoutLassos (meant Stuck) f
without_lassos f = record { no_lasso = no_lasso; never = λ p c. no_lasso p c.lasso }
