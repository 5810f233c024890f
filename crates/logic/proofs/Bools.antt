-- Tests: what `&&`, `||`, `not` and `some_below` say.
use Rattle.std.proofs.Common.{◌≡◌, ℕ, zero, suc, ◌<◌, Bool, true, false, not, ◌&&◌, ◌||◌, T, eqb, ◌⊎◌, ◌↔◌, sym, refl, subst, inl, inr, ⊎_elim, not-suc-le-zero, arith}
use Rattle.std.proofs.Math.Logic.{⊎_map}
pub use Rattle.std.proofs.Math.Facts.{yes_and as T_and, and_yes as and_T, or_yes as or_T}
pub use Rattle.std.proofs.lemmas.Float.{T_from_true as true_T}
use Rattle.std.proofs.lemmas.Bool.{eqb-false, eqb-true}
use Rattle.logic.specs.Product.{some_below}

pub T_or_left : (a b : Bool) → T a → T (a || b)
T_or_left true b p = tt
T_or_left false b p = absurd p

pub T_or_right : (a b : Bool) → T b → T (a || b)
T_or_right true b p = tt
T_or_right false b p = p

-- a test that passes is equal to true
pub T_true : (a : Bool) → T a → a ≡ true
T_true true t = refl
T_true false t = absurd t

-- two tests that pass together are one
pub T_same : (a b : Bool) → (T a → T b) → (T b → T a) → a ≡ b
T_same true true f g = refl
T_same true false f g = absurd (f tt)
T_same false true f g = absurd (g tt)
T_same false false f g = refl

-- a test that says P, and its negation, conjunction and disjunction
pub iff_not : (a : Bool) {P : Type 0} → T a ↔ P → T (not a) ↔ (¬ P)
iff_not true e = (λ t. absurd t, λ n. n (e.0 tt))
iff_not false e = (λ t p. e.1 p, λ n. tt)

pub iff_and : (a b : Bool) {P Q : Type 0} → T a ↔ P → T b ↔ Q → T (a && b) ↔ (P × Q)
iff_and a b d e = (λ t. (d.0 (and_T a b t).0, e.0 (and_T a b t).1), λ s. T_and a b (d.1 s.0) (e.1 s.1))

pub iff_or : (a b : Bool) {P Q : Type 0} → T a ↔ P → T b ↔ Q → T (a || b) ↔ (P ⊎ Q)
iff_or a b d e = (
  λ t. ⊎_map d.0 e.0 (or_T a b t),
  ⊎_elim (λ p. T_or_left a b (d.1 p)) (λ q. T_or_right a b (e.1 q)),
)

-- a number below n that passes the test
pub some_in : (n : ℕ) (p : ℕ → Bool) (i : ℕ) → i < n → T (p i) → T (some_below n p)
some_in zero p i h t = absurd (not-suc-le-zero h)
some_in (suc n) p i h t = go (eqb i n) refl (some_in n p i)
  where
    go : (b : Bool) → eqb i n ≡ b → (i < n → T (p i) → T (some_below n p)) → T (p n || some_below n p)
    go true e ih = T_or_left (p n) (some_below n p) (subst (λ j. T (p j)) (eqb-true i n e) t)
    go false e ih =
        let other : ¬ (i ≡ n) = eqb-false i n e in
        T_or_right (p n) (some_below n p) (ih (omega arith) t)

pub some_out : (n : ℕ) (p : ℕ → Bool) → T (some_below n p) → (i : ℕ) × (i < n) × T (p i)
some_out zero p t = absurd t
some_out (suc n) p t = go (or_T (p n) (some_below n p) t) (some_out n p)
  where
    go : T (p n) ⊎ T (some_below n p) → (T (some_below n p) → (i : ℕ) × (i < n) × T (p i)) → (i : ℕ) × (i < suc n) × T (p i)
    go (inl s) ih = (n, omega arith, s)
    go (inr s) ih = let r = ih s in let h : r.0 < n = r.1 in (r.0, omega arith, r.2)

-- a test of the numbers below n has one answer for two functions that agree there
pub some_same : (n : ℕ) (p q : ℕ → Bool) → ((i : ℕ) → i < n → p i ≡ q i) → some_below n p ≡ some_below n q
some_same zero p q e = refl
some_same (suc n) p q e =
    let here : p n ≡ q n = e n (omega arith) in
    let rest : some_below n p ≡ some_below n q = some_same n p q (λ i h. e i (omega arith)) in
    λ t. here t || rest t

-- equal tests pass together
pub along_T : {a b : Bool} → a ≡ b → T a ↔ T b
along_T e = (λ t. subst T e t, λ t. subst T (sym e) t)
