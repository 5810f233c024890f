-- The lowest bit of a mask that is not 0, and the mask without it.
use Rattle.std.proofs.Common.{◌≡◌, ℕ, zero, suc, ◌*◌, ◌%◌, ◌^◌, ◌<◌, ◌≤◌, false, T, refl, ap, ◌∙◌, ⊎_elim, mod-eq_of_lt, one-mul, zero-mul, arith, pow_mono}
use Rattle.std.proofs.lemmas.Bool.{cases_lt}
use Rattle.masks.specs.Masks.{bit}
use Rattle.logic.specs.Product.{mask_of, some_below}
use Rattle.logic.proofs.Bools.{T_same, some_in}
use Rattle.logic.proofs.Masks.{mask_same, mask_whole}
use Rattle.tableau.specs.Rounds.{count, lowest}
use Rattle.tableau.proofs.Counts.{count_without, lowest_found}
use Rattle.tableau.proofs.Masking.{bit_high}
use Rattle.tableau.proofs.Tests.{T_dec}

-- a mask of no members is 0
pub mask_none : (n : ℕ) → mask_of n (λ _. false) ≡ 0
mask_none zero = refl
mask_none (suc n) = let e = mask_none n in let z = zero-mul (2 ^ n) in omega arith

-- a mask that is not 0 has a bit
pub some_bit : (w M : ℕ) → M < 2 ^ w → 0 < M → T (some_below w (bit M))
some_bit w M fits some =
    ⊎_elim (λ t. t)
    (λ none.
    let e : mask_of w (bit M) ≡ 0 = mask_same w (bit M) (λ _. false) (λ i lt. T_same (bit M i) false (λ t. none (some_in w (bit M) i lt t)) (λ f. absurd f)) ∙ mask_none w in
    let whole = mask_whole w M fits in
    absurd (omega arith))
    (T_dec (some_below w (bit M)))

-- the lowest of its bits
pub lowest_bit : (w M : ℕ) → M < 2 ^ w → 0 < M → (lowest w (bit M) < w) × T (bit M (lowest w (bit M)))
lowest_bit w M fits some = lowest_found w (bit M) (some_bit w M fits some)

-- there is one to count
pub some_counted : (w M : ℕ) → M < 2 ^ w → 0 < M → 0 < count w (bit M)
some_counted w M fits some =
    let q = lowest_bit w M fits some in
    let less = count_without w (bit M) (lowest w (bit M)) q.0 q.1 in
    omega arith

-- a bit that is set is no more than the mask
pub bit_within : (M q : ℕ) → T (bit M q) → 2 ^ q ≤ M
bit_within M q t = ⊎_elim (λ lt. let z : q < q = bit_high q M q lt t in absurd (omega arith)) (λ ge. ge) (cases_lt M (2 ^ q))

-- 1 shifted to a low place
pub shifted : (q : ℕ) → q < 32 → 1 * 2 ^ q % 4294967296 ≡ 2 ^ q
shifted q lt =
    let up : 2 ^ q ≤ 2 ^ 31 = pow_mono {i = q} {j = 31} (omega arith) in
    let small : 2 ^ q < 4294967296 = omega arith in
    ap (λ n. n % 4294967296) (one-mul (2 ^ q)) ∙ mod-eq_of_lt small
