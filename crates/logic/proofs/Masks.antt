-- A mask made of bits has those bits.
use Rattle.std.proofs.Common.{◌≡◌, ℕ, zero, suc, ◌+◌, ◌-◌, ◌*◌, ◌/◌, ◌%◌, ◌^◌, ◌<◌, Bool, true, false, cond, eqb, sym, refl, ap, ◌∙◌, subst, ap₂, not-suc-le-zero, mod-lt, mod-eq_of_lt, mul_assoc, add_comm, pow-suc, arith, pow_pos, pow-add}
use native.Mathlib.Nat.{add-mul-div_right, add-mul-mod_self_right}
use lib.Pow.{high, mod-pow-add}
use Rattle.std.proofs.lemmas.Bool.{eqb-false, eqb-true}
use Rattle.masks.specs.Masks.{bit}
use Rattle.logic.specs.Product.{mask_of}

-- a mask of n bits is below 2 ^ n
pub mask_fits : (n : ℕ) (g : ℕ → Bool) → mask_of n g < 2 ^ n
mask_fits zero g = omega arith
mask_fits (suc n) g = go (g n) (mask_fits n g)
  where
    go : (b : Bool) → mask_of n g < 2 ^ n → cond b 1 0 * 2 ^ n + mask_of n g < 2 ^ suc n
    go true h = let e : 2 ^ suc n ≡ 2 ^ n * 2 = pow-suc 2 n in omega arith
    go false h = let e : 2 ^ suc n ≡ 2 ^ n * 2 = pow-suc 2 n in omega arith

-- a digit at n or above leaves the bits below n
pub high_digit : (d n i lo : ℕ) → i < n → (d * 2 ^ n + lo) / 2 ^ i % 2 ≡ lo / 2 ^ i % 2
high_digit d n i lo h =
    let e : ℕ = n - suc i in
    let sum : n ≡ suc e + i = omega arith in
    let pow : 2 ^ n ≡ 2 ^ e * 2 * 2 ^ i = ap (λ k. 2 ^ k) sum ∙ pow-add 2 (suc e) i ∙ ap (λ x. x * 2 ^ i) (pow-suc 2 e) in
    let top : d * 2 ^ n ≡ d * 2 ^ e * 2 * 2 ^ i = ap (λ x. d * x) pow ∙ sym (mul_assoc d (2 ^ e * 2) (2 ^ i)) ∙ ap (λ x. x * 2 ^ i) (sym (mul_assoc d (2 ^ e) 2)) in
    ap (λ x. x / 2 ^ i % 2) (add_comm (d * 2 ^ n) lo ∙ ap (λ x. lo + x) top)
    ∙ ap (λ x. x % 2) (add-mul-div_right lo (d * 2 ^ e * 2) (pow_pos i))
    ∙ add-mul-mod_self_right (lo / 2 ^ i) (d * 2 ^ e) 2

-- it has the bits that it was made of
pub mask_bit : (n : ℕ) (g : ℕ → Bool) (i : ℕ) → i < n → bit (mask_of n g) i ≡ g i
mask_bit zero g i h = absurd (not-suc-le-zero h)
mask_bit (suc n) g i h = go (eqb i n) refl (mask_bit n g i)
  where
    top : (b : Bool) → eqb (cond b 1 0 % 2) 1 ≡ b
    top true = refl
    top false = refl

    go : (b : Bool) → eqb i n ≡ b → (i < n → bit (mask_of n g) i ≡ g i) → bit (mask_of (suc n) g) i ≡ g i
    go true e ih =
        let same : i ≡ n = eqb-true i n e in
        subst (λ j. bit (mask_of (suc n) g) j ≡ g j) (sym same) (ap (λ x. eqb (x % 2) 1) (high (cond (g n) 1 0) n (mask_fits n g)) ∙ top (g n))
    go false e ih =
        let other : ¬ (i ≡ n) = eqb-false i n e in
        let lower : i < n = omega arith in
        ap (λ x. eqb x 1) (high_digit (cond (g n) 1 0) n i (mask_of n g) lower) ∙ ih lower

-- the same bits make the same mask
pub mask_same : (n : ℕ) (g h : ℕ → Bool) → ((i : ℕ) → i < n → g i ≡ h i) → mask_of n g ≡ mask_of n h
mask_same zero g h e = refl
mask_same (suc n) g h e = ap₂ (λ (b : Bool) (m : ℕ). cond b 1 0 * 2 ^ n + m) (e n (omega arith)) (mask_same n g h (λ i lt. e i (omega arith)))

digit_is : (x : ℕ) → x < 2 → cond (eqb x 1) 1 0 ≡ x
digit_is zero h = refl
digit_is (suc zero) h = refl
digit_is (suc (suc x)) h = absurd (omega arith)

mask_low : (n K : ℕ) → mask_of n (bit K) ≡ K % 2 ^ n
mask_low zero K = omega arith
mask_low (suc n) K =
    ap₂ (λ (d m : ℕ). d * 2 ^ n + m) (digit_is (K / 2 ^ n % 2) (mod-lt (K / 2 ^ n) (omega arith))) (mask_low n K)
    ∙ sym (mod-pow-add K 1 n) ∙ ap (λ k. K % 2 ^ k) (let e : 1 + n ≡ suc n = omega arith in e)

-- a mask of n bits is made of its bits
pub mask_whole : (n K : ℕ) → K < 2 ^ n → mask_of n (bit K) ≡ K
mask_whole n K h = mask_low n K ∙ mod-eq_of_lt h
