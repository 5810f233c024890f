-- The lowest number that passes a test, as a loop finds it.
use Rattle.std.proofs.Common.{◌≡◌, ℕ, zero, suc, ◌-◌, ◌<◌, ◌≤◌, Bool, true, false, IsTrue, Option, Some, None, MatchOption, unwrap_or, ◌⊎◌, sym, refl, ap, ◌∙◌, ap₂, inl, inr, arith}
use Rattle.std.proofs.lemmas.Bool.{cases_lt, or_parts}
use Rattle.logic.specs.Product.{some_below}
use Rattle.logic.proofs.Bools.{some_same}
use Rattle.product.proofs.Loops.{none_below, some_found}
use Rattle.tableau.specs.Rounds.{lowest}

-- the lowest of the numbers below n, if one of these passes, or n
abbrev chosen : ℕ → Bool → ℕ → ℕ
chosen n some low = elim some [ true ↦ low | false ↦ n ]

-- a number below n that passes, and below which none does
pub lowest_found : (n : ℕ) (p : ℕ → Bool) (r : ℕ) → r < n → some_below r p ≡ false → true ≡ p r → r ≡ lowest n p
lowest_found zero p r lt none e = absurd (omega arith)
lowest_found (suc n) p r lt none e = go (cases_lt r n) (λ less. lowest_found n p r less none e)
  where
    go : (r < n) ⊎ (n ≤ r) → (r < n → r ≡ lowest n p) → r ≡ chosen n (some_below n p) (lowest n p)
    go (inl less) ih = ih less ∙ ap (λ (b : Bool). chosen n b (lowest n p)) (some_found n p r less e)
    go (inr ge) ih =
        let same : r ≡ n = omega arith in
        same ∙ ap (λ (b : Bool). chosen n b (lowest n p)) (sym none ∙ ap (λ k. some_below k p) same)

-- what a search from below gives: the lowest that passes, or that none does
pub lowest_first : (n : ℕ) (p : ℕ → Bool) (o : Option ℕ) →
    MatchOption o ((k : ℕ) → 0 ≤ k → k < n → p k ≡ false) (λ i. (0 ≤ i) × (i < n) × (p i ≡ true) × ((k : ℕ) → 0 ≤ k → k < i → p k ≡ false)) →
    MatchOption o (some_below n p ≡ false) (λ r. (r < n) × (r ≡ lowest n p) × IsTrue (p r))
lowest_first n p None none = sym (none_below n p (λ k lt. none k (omega arith) lt))
lowest_first n p (Some r) h = (h.1, lowest_found n p r h.1 (sym (none_below r p (λ k lt. h.3 k (omega arith) lt))) (sym h.2), h.2)

-- none passes
lowest_none : (n : ℕ) (p : ℕ → Bool) → 0 < n → some_below n p ≡ false → n - 1 ≡ lowest n p
lowest_none zero p pos none = absurd (omega arith)
lowest_none (suc n) p pos none =
    let less : suc n - 1 ≡ n = omega arith in
    less ∙ sym (ap (λ (b : Bool). chosen n b (lowest n p)) (or_parts (p n) (some_below n p) none).1)

-- the lowest that passes, or the last number where none does
pub lowest_or_last : (n : ℕ) (p : ℕ → Bool) (o : Option ℕ) → 0 < n → MatchOption o (some_below n p ≡ false) (λ r. (r < n) × (r ≡ lowest n p) × IsTrue (p r)) →
    unwrap_or o (n - 1) ≡ lowest n p
lowest_or_last n p None pos none = lowest_none n p pos none
lowest_or_last n p (Some r) pos h = h.1

-- tests that agree below n have the same lowest number
pub lowest_same : (n : ℕ) (p q : ℕ → Bool) → ((i : ℕ) → i < n → p i ≡ q i) → lowest n p ≡ lowest n q
lowest_same zero p q e = refl
lowest_same (suc n) p q e = ap₂ (λ (b : Bool) (x : ℕ). chosen n b x) (some_same n p q (λ i h. e i (omega arith))) (lowest_same n p q (λ i h. e i (omega arith)))
