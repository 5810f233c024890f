-- A loop that puts one bit after the other.
use Rattle.std.proofs.Common.{◌≡◌, ℕ, ◌+◌, ◌*◌, ◌^◌, ◌<◌, Bool, true, false, cond, ◌==◌, sym, refl, ap, ◌∙◌, subst, ⊎_elim, add-one, arith, pow-suc}
use Rattle.std.proofs.lemmas.Bool.{cases_lt, eq-eqb, ne_eqb}
use Rattle.masks.specs.Masks.{bit}
use Rattle.masks.proofs.Bits.{put_top}

-- a digit more fits below the next power
digit_fits : (m k : ℕ) (v : Bool) → m < 2 ^ k → cond v 1 0 * 2 ^ k + m < 2 ^ (k + 1)
digit_fits m k true low = let e : 2 ^ (k + 1) ≡ 2 ^ k * 2 = ap (λ n. 2 ^ n) (add-one k) ∙ pow-suc 2 k in omega arith
digit_fits m k false low = let e : 2 ^ (k + 1) ≡ 2 ^ k * 2 = ap (λ n. 2 ^ n) (add-one k) ∙ pow-suc 2 k in omega arith

-- a word below 2 ^ k with bit k as told is below the next power
pub more_fits : (r w k : ℕ) (v : Bool) → w < 2 ^ k → r + cond (bit w k) (2 ^ k) 0 ≡ w + cond v (2 ^ k) 0 → r < 2 ^ (k + 1)
more_fits r w k v low number = subst (λ x. x < 2 ^ (k + 1)) (sym (put_top r w k v low number)) (digit_fits w k v low)

-- a word below 2 ^ k with a digit more is below the next power
pub digits_fit : (r w k : ℕ) (v : Bool) → w < 2 ^ k → r ≡ cond v 1 0 * 2 ^ k + w → r < 2 ^ (k + 1)
digits_fit r w k v low number = subst (λ x. x < 2 ^ (k + 1)) (sym number) (digit_fits w k v low)

-- what holds of each bit below k, and of the one that is put there, holds of each bit below k + 1
pub more_told : (r w k : ℕ) (v : Bool) (P : ℕ → Bool → Type 0) → ((j : ℕ) → bit r j ≡ cond (j == k) v (bit w j)) → P k v →
    ((j : ℕ) → j < k → P j (bit w j)) → (j : ℕ) → j < k + 1 → P j (bit r j)
more_told r w k v P put here below j lt = ⊎_elim
    (λ lo. subst (P j) (sym (put j ∙ ap (λ b. cond b v (bit w j)) (ne_eqb j k (λ e. absurd (omega arith))))) (below j lo))
    (λ hi.
    let same : k ≡ j = omega arith in
    subst (λ i. P i (bit r i)) same (subst (P k) (sym (put k ∙ ap (λ b. cond b v (bit w k)) (eq-eqb k k refl))) here))
    (cases_lt j k)
