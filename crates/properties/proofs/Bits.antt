-- A mask with one more bit.
use Rattle.std.proofs.Common.{◌≡◌, ℕ, zero, suc, ◌/◌, ◌%◌, ◌^◌, ◌<◌, Bool, true, false, cond, ◌&&◌, ◌||◌, eqb, refl, ap, ◌∙◌, ⊎_elim, arith}
use lib.Bits.{bit_or}
use Rattle.std.proofs.lemmas.Nat.{mod_below, or_mod, or_shr}
use Rattle.std.proofs.lemmas.Bool.{and_parts, eqb-true, cases_order}
use Rattle.masks.specs.Masks.{bit}

every_below : ℕ → (ℕ → Bool) → Bool
every_below zero p = true
every_below (suc n) p = every_below n p && p n

every_at : (n : ℕ) (p : ℕ → Bool) → every_below n p ≡ true → (k : ℕ) → k < n → p k ≡ true
unfolding every_below
every_at zero p h k lt = absurd (omega arith)
every_at (suc n) p h k lt =
    let both = and_parts (every_below n p) (p n) h in
    ⊎_elim (λ e. ap p e ∙ both.1) (⊎_elim (λ l. every_at n p both.0 k l) (λ g. absurd (omega arith))) (cases_order k n)

table : every_below 8 (λ r. every_below 8 (λ z. eqb (2 ^ r / 2 ^ z % 2) (cond (eqb z r) 1 0))) ≡ true
unfolding every_below
table = refl

-- bit z of the mask of r alone
one_bit : (r z : ℕ) → r < 8 → z < 8 → 2 ^ r / 2 ^ z % 2 ≡ cond (eqb z r) 1 0
one_bit r z lr lz = eqb-true _ _ (every_at 8 _ (every_at 8 _ table r lr) z lz)

low_bit : (v : ℕ) (b : Bool) → v < 2 → eqb (bit_or v (cond b 1 0)) 1 ≡ (b || eqb v 1)
low_bit zero true lt = refl
low_bit zero false lt = refl
low_bit (suc zero) true lt = refl
low_bit (suc zero) false lt = refl
low_bit (suc (suc v)) b lt = absurd (omega arith)

pub bit-bit_or : (w r z : ℕ) → r < 8 → z < 8 → bit (bit_or w (2 ^ r)) z ≡ (eqb z r || bit w z)
bit-bit_or w r z lr lz =
    ap (λ n. eqb (n % 2) 1) (or_shr w (2 ^ r) z)
    ∙ ap (λ n. eqb n 1) (or_mod (w / 2 ^ z) (2 ^ r / 2 ^ z) 1)
    ∙ ap (λ n. eqb (bit_or (w / 2 ^ z % 2) n) 1) (one_bit r z lr lz)
    ∙ low_bit (w / 2 ^ z % 2) (eqb z r) (mod_below (w / 2 ^ z) 2 (omega arith))
