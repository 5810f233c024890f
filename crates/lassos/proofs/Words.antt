-- Bits of a word.
use Rattle.std.proofs.Common.{◌≡◌, ℕ, zero, suc, ◌+◌, ◌*◌, ◌%◌, ◌^◌, ◌<◌, Bool, true, false, cond, not, T, eqb, ◌⊎◌, List, length, get_or, set, sym, refl, ap, ◌∙◌, subst, inl, inr, ⊎_elim, pow-suc, arith}
use native.Mathlib.Nat.{zero-div}
use lib.Bits.{bit_and}
use Rattle.std.proofs.lemmas.List.{get_or-set_other, get_or-set_same}
use Rattle.std.proofs.lemmas.Bool.{cases_eq, cases_lt, eq-eqb, eqb-true}
use Rattle.std.specs.Int.{from_bool}
use Rattle.masks.specs.Masks.{bit}
use Rattle.logic.specs.Product.{mask_of}
use Rattle.masks.proofs.Bits.{bit_above, bit-bit_and}
use Rattle.logic.proofs.Bools.{T_and, and_T}
use Rattle.logic.proofs.Masks.{mask_whole}
use Rattle.lassos.specs.Sweeps.{meet}

-- a test that passes is true
pub true_T : {b : Bool} → b ≡ true → T b
true_T e = subst T (sym e) tt

-- a truth value as a word
pub low_bit : (b : Bool) → bit (from_bool b) 0 ≡ b
low_bit true = refl
low_bit false = refl

-- a bit of a word below 2 ^ k is below k
pub bit_below : (w k j : ℕ) → w < 2 ^ k → T (bit w j) → j < k
bit_below w k j lt t = ⊎_elim (λ l. l) (λ g. absurd (subst T (bit_above w k j lt g) t)) (cases_lt j k)

-- words that have a bit in common meet
pub meet_in : (x y r : ℕ) → T (bit x r) → T (bit y r) → T (meet x y)
meet_in x y r bx by = go (eqb (bit_and x y) 0) refl
  where
    go : (b : Bool) → eqb (bit_and x y) 0 ≡ b → T (not b)
    go true e =
        let none : bit (bit_and x y) r ≡ false = ap (λ n. bit n r) (eqb-true (bit_and x y) 0 e) ∙ ap (λ n. eqb (n % 2) 1) (zero-div (2 ^ r)) in
        subst T none (subst T (sym (bit-bit_and x y r)) (T_and (bit x r) (bit y r) bx by))
    go false e = tt

below_pow : (n : ℕ) → n < 2 ^ n
below_pow zero = omega arith
below_pow (suc n) = let p = below_pow n in let e : 2 ^ suc n ≡ 2 ^ n * 2 = pow-suc 2 n in omega arith

-- a mask has a bit, or is zero
some_bit : (n : ℕ) (g : ℕ → Bool) → ((r : ℕ) × T (g r)) ⊎ (mask_of n g ≡ 0)
some_bit zero g = inr refl
some_bit (suc n) g = go (g n) refl (some_bit n g)
  where
    go : (b : Bool) → g n ≡ b → ((r : ℕ) × T (g r)) ⊎ (mask_of n g ≡ 0) → ((r : ℕ) × T (g r)) ⊎ (mask_of (suc n) g ≡ 0)
    go true e rest = inl (n, true_T e)
    go false e (inl found) = inl found
    go false e (inr z) = inr (ap (λ b. cond b 1 0 * 2 ^ n + mask_of n g) e ∙ omega arith)

-- words that meet have a bit in common
pub meet_out : (x y : ℕ) → T (meet x y) → (r : ℕ) × T (bit x r) × T (bit y r)
meet_out x y m = go (some_bit (bit_and x y) (bit (bit_and x y)))
  where
    go : ((r : ℕ) × T (bit (bit_and x y) r)) ⊎ (mask_of (bit_and x y) (bit (bit_and x y)) ≡ 0) → (r : ℕ) × T (bit x r) × T (bit y r)
    go (inl found) = let both = and_T (bit x found.0) (bit y found.0) (subst T (bit-bit_and x y found.0) found.1) in (found.0, both.0, both.1)
    go (inr z) =
        let none : bit_and x y ≡ 0 = sym (mask_whole (bit_and x y) (bit_and x y) (below_pow (bit_and x y))) ∙ z in
        absurd (subst T (ap (λ b. not b) (eq-eqb (bit_and x y) 0 none)) m)

-- what holds of each word below i, and of the one that is put at i, holds of each below i + 1
pub below_set : (P : ℕ → ℕ → Type 0) (xs : List ℕ) (i v : ℕ) → i < length xs → ((j : ℕ) → j < i → P j (get_or xs j 0)) → P i v → (j : ℕ) → j < i + 1 → P j (get_or (set xs i v) j 0)
below_set P xs i v li each here j lj = go (cases_eq j i)
  where
    go : (j ≡ i) ⊎ (j ≡ i → ⊥) → P j (get_or (set xs i v) j 0)
    go (inl e) = subst (λ k. P k (get_or (set xs i v) k 0)) (sym e) (subst (P i) (sym (get_or-set_same xs i v 0 li)) here)
    go (inr ne) = subst (P j) (sym (get_or-set_other xs i j v 0 ne)) (each j (omega arith))
