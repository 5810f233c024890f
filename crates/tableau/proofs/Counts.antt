-- Counting the numbers that pass a test, and the lowest of them.
use mathlib.Core.Path.{◌≡◌, refl, sym, ap, subst, ◌∙◌}
use mathlib.Core.Bool.{Bool, true, false, cond, not, ◌&&◌, ◌||◌}
use mathlib.Core.Logic.{◌⊎◌, inl, inr}
use Prim.Native.Nat.{ℕ, zero, suc, ◌+◌, ◌<◌, ◌≤◌}
use native.Mathlib.Nat.{not-suc-le-zero}
use native.Mathlib.Omega.{arith}
use lib.Dec.{T, eqb, eqb→eq, eqb_refl}
use Rattle.logic.specs.Product.{some_below}
use Rattle.logic.proofs.Bools.{and_T, or_T}
use Rattle.tableau.specs.Rounds.{lowest, count, without}

-- the lowest number that passes does pass
pub lowest_found : (n : ℕ) (p : ℕ → Bool) → T (some_below n p) → (lowest n p < n) × T (p (lowest n p))
lowest_found zero p t = absurd t
lowest_found (suc n) p t = go (some_below n p) refl (lowest_found n p)
  where
    at_top : T (p n) ⊎ T (some_below n p) → (T (some_below n p) → ⊥) → T (p n)
    at_top (inl a) no_lower = a
    at_top (inr b) no_lower = absurd (no_lower b)

    go : (b : Bool) → some_below n p ≡ b → (T (some_below n p) → (lowest n p < n) × T (p (lowest n p))) →
        let low : ℕ = elim b as (λ _. ℕ) [ true ↦ lowest n p | false ↦ n ] in (low < suc n) × T (p low)
    go true e ih = let r = ih (subst T (sym e) tt) in let h : lowest n p < n = r.0 in (omega arith, r.1)
    go false e ih = (omega arith, at_top (or_T (p n) (some_below n p) t) (λ b. subst T e b))

-- a test that passes only if another does counts no more
cond_le : (a b : Bool) → (T a → T b) → cond a 1 0 ≤ cond b 1 0
cond_le true true h = omega arith
cond_le true false h = absurd (h tt)
cond_le false true h = omega arith
cond_le false false h = omega arith

-- a subset has no more members
pub count_le : (n : ℕ) (p q : ℕ → Bool) → ((i : ℕ) → T (p i) → T (q i)) → count n p ≤ count n q
count_le zero p q h = omega arith
count_le (suc n) p q h =
    let here : cond (p n) 1 0 ≤ cond (q n) 1 0 = cond_le (p n) (q n) (h n) in
    let rest : count n p ≤ count n q = count_le n p q h in
    omega arith

-- a set without members has none
pub count_none : (n : ℕ) (p : ℕ → Bool) → ((i : ℕ) → i < n → T (p i) → ⊥) → count n p ≡ 0
count_none zero p h = refl
count_none (suc n) p h =
    let here : ◌≡◌ {A = ℕ} (cond (p n) 1 0) 0 = zero_if (p n) (h n (omega arith)) in
    let rest : count n p ≡ 0 = count_none n p (λ i lt. h i (omega arith)) in
    omega arith
  where
    zero_if : (b : Bool) → (T b → ⊥) → ◌≡◌ {A = ℕ} (cond b 1 0) 0
    zero_if true h = absurd (h tt)
    zero_if false h = refl

-- a union has no more members than both
count_or : (n : ℕ) (p q : ℕ → Bool) → count n (λ i. p i || q i) ≤ count n p + count n q
count_or zero p q = omega arith
count_or (suc n) p q =
    let here : cond (p n || q n) 1 0 ≤ cond (p n) 1 0 + cond (q n) 1 0 = either (p n) (q n) in
    let rest : count n (λ i. p i || q i) ≤ count n p + count n q = count_or n p q in
    omega arith
  where
    either : (a b : Bool) → cond (a || b) 1 0 ≤ cond a 1 0 + cond b 1 0
    either true true = omega arith
    either true false = omega arith
    either false true = omega arith
    either false false = omega arith

-- one number at most is equal to g
count_equal : (n g : ℕ) → count n (eqb g) ≤ 1
count_equal zero g = omega arith
count_equal (suc n) g = go (eqb g n) refl (count_equal n g)
  where
    go : (b : Bool) → eqb g n ≡ b → count n (eqb g) ≤ 1 → cond b 1 0 + count n (eqb g) ≤ 1
    go true e ih =
        let same : g ≡ n = eqb→eq g n (subst T (sym e) tt) in
        let none : count n (eqb g) ≡ 0 = count_none n (eqb g) (λ i lt t. let z : g ≡ i = eqb→eq g i t in omega arith) in
        omega arith
    go false e ih = omega arith

-- the same under a test
count_one : (n g : ℕ) (b : Bool) → count n (λ r. b && eqb g r) ≤ cond b 1 0
count_one n g true = count_equal n g
count_one n g false = let z : count n (λ r. false) ≡ 0 = count_none n (λ r. false) (λ i lt t. t) in omega arith

-- an image has no more members
pub count_image : (n k : ℕ) (p : ℕ → Bool) (g : ℕ → ℕ) → count n (λ r. some_below k (λ q. p q && eqb (g q) r)) ≤ count k p
count_image n zero p g = let z : count n (λ r. false) ≡ 0 = count_none n (λ r. false) (λ i lt t. t) in omega arith
count_image n (suc k) p g =
    let split : count n (λ r. (p k && eqb (g k) r) || some_below k (λ q. p q && eqb (g q) r)) ≤
    count n (λ r. p k && eqb (g k) r) + count n (λ r. some_below k (λ q. p q && eqb (g q) r)) =
    count_or n (λ r. p k && eqb (g k) r) (λ r. some_below k (λ q. p q && eqb (g q) r)) in
    let here : count n (λ r. p k && eqb (g k) r) ≤ cond (p k) 1 0 = count_one n (g k) (p k) in
    let rest : count n (λ r. some_below k (λ q. p q && eqb (g q) r)) ≤ count k p = count_image n k p g in
    omega arith

-- a member that leaves makes it fewer
pub count_without : (n : ℕ) (p : ℕ → Bool) (q : ℕ) → q < n → T (p q) → count n (without q p) < count n p
count_without zero p q h t = absurd (not-suc-le-zero h)
count_without (suc n) p q h t = go (eqb q n) refl (λ lt. count_without n p q lt t)
  where
    one_if : (a : Bool) → T a → ◌≡◌ {A = ℕ} (cond a 1 0) 1
    one_if true t = refl
    one_if false t = absurd t

    none_if : (a b : Bool) → T b → ◌≡◌ {A = ℕ} (cond (a && not b) 1 0) 0
    none_if true true t = refl
    none_if true false t = absurd t
    none_if false b t = refl

    go : (b : Bool) → eqb q n ≡ b → (q < n → count n (without q p) < count n p) → cond (p n && not (eqb n q)) 1 0 + count n (without q p) < cond (p n) 1 0 + count n p
    go true e ih =
        let same : q ≡ n = eqb→eq q n (subst T (sym e) tt) in
        let one : ◌≡◌ {A = ℕ} (cond (p n) 1 0) 1 = one_if (p n) (subst (λ i. T (p i)) same t) in
        let gone : ◌≡◌ {A = ℕ} (cond (p n && not (eqb n q)) 1 0) 0 = none_if (p n) (eqb n q) (subst (λ i. T (eqb n i)) (sym same) (eqb_refl n)) in
        let rest : count n (without q p) ≤ count n p = count_le n (without q p) p (λ i s. (and_T (p i) (not (eqb i q)) s).0) in
        omega arith
    go false e ih =
        let other : ¬ (q ≡ n) = λ same. subst T (ap (eqb q) same ∙ e) (eqb_refl q) in
        let here : cond (p n && not (eqb n q)) 1 0 ≤ cond (p n) 1 0 = cond_le (p n && not (eqb n q)) (p n) (λ s. (and_T (p n) (not (eqb n q)) s).0) in
        let rest : count n (without q p) < count n p = ih (omega arith) in
        omega arith

-- there are no more than n numbers below n
pub count_most : (n : ℕ) (p : ℕ → Bool) → count n p ≤ n
count_most zero p = omega arith
count_most (suc n) p = let here : cond (p n) 1 0 ≤ 1 = small (p n) in let rest : count n p ≤ n = count_most n p in omega arith
  where
    small : (b : Bool) → cond b 1 0 ≤ 1
    small true = omega arith
    small false = omega arith

-- one that does not pass leaves fewer than all
pub count_misses : (n : ℕ) (p : ℕ → Bool) (r : ℕ) → r < n → (T (p r) → ⊥) → count n p < n
count_misses zero p r h fails = absurd (not-suc-le-zero h)
count_misses (suc n) p r h fails = go (eqb r n) refl (λ lt. count_misses n p r lt fails)
  where
    none : (b : Bool) → (T b → ⊥) → ◌≡◌ {A = ℕ} (cond b 1 0) 0
    none true n = absurd (n tt)
    none false n = refl

    small : (b : Bool) → cond b 1 0 ≤ 1
    small true = omega arith
    small false = omega arith

    go : (b : Bool) → eqb r n ≡ b → (r < n → count n p < n) → cond (p n) 1 0 + count n p < suc n
    go true e ih =
        let same : r ≡ n = eqb→eq r n (subst T (sym e) tt) in
        let here : ◌≡◌ {A = ℕ} (cond (p n) 1 0) 0 = none (p n) (λ t. fails (subst (λ i. T (p i)) (sym same) t)) in
        let rest : count n p ≤ n = count_most n p in
        omega arith
    go false e ih =
        let other : ¬ (r ≡ n) = λ same. subst T (ap (eqb r) same ∙ e) (eqb_refl r) in
        let here : cond (p n) 1 0 ≤ 1 = small (p n) in
        let rest : count n p < n = ih (omega arith) in
        omega arith
