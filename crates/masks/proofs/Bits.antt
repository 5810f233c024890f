-- Bits of a word that was changed.
use Rattle.std.proofs.Common.{◌≡◌, ℕ, zero, suc, ◌+◌, ◌-◌, ◌*◌, ◌%◌, ◌^◌, ◌<◌, ◌≤◌, Bool, true, false, cond, ◌==◌, nat_lt, eqb, max, min, ◌&&◌, ◌||◌, sym, refl, ap, ◌∙◌, ⊎_elim, arith, bit_and, bit_or, w32}
use Rattle.std.specs.Int.{bit_at}
use Rattle.std.specs.Int.Bits.{or_add_and}
use Rattle.std.proofs.lemmas.Bool.{cases_eq, cases_lt, eq-eqb, le-ltb, lt-ltb, ne_eqb, or_left}
use Rattle.std.proofs.lemmas.Nat.{and_le_l}
use Rattle.std.proofs.lemmas.Nat.Bits.{and_pow, bit_at_above, bit_at_and, bit_at_cat_high, bit_at_cat_low, bit_at_clear_other, bit_at_clear_same, bit_at-lt, bit_at_or, bit_at-pow_same, bit_at-pow_other, bit_at_set_other, bit_at_set_same, same_from_bits}
use Rattle.masks.specs.Masks.{bit}

-- a word below 2 ^ k has no bit at k or above
pub bit_above : (w k j : ℕ) → w < 2 ^ k → k ≤ j → bit w j ≡ false
bit_above w k j lt le = ap (λ x. eqb x 1) (bit_at_above w k j lt le)

-- a bit as a digit
pub digit_is : (w j : ℕ) → bit_at w j ≡ cond (bit w j) 1 0
digit_is w j = go (bit_at w j) (bit_at-lt w j)
  where
    go : (d : ℕ) → d < 2 → d ≡ cond (eqb d 1) 1 0
    go zero lt = refl
    go (suc zero) lt = refl
    go (suc (suc d)) lt = absurd (omega arith)

-- the word r is the word w with bit k as told
put_from : (r w k : ℕ) (v : Bool) → bit r k ≡ v → ((j : ℕ) → (¬ (j ≡ k)) → bit r j ≡ bit w j) → (j : ℕ) → bit r j ≡ cond (j == k) v (bit w j)
put_from r w k v same other j = ⊎_elim
    (λ e. ap (bit r) e ∙ same ∙ ap (λ b. cond b v (bit w j)) (sym (eq-eqb j k e)))
    (λ ne. other j ne ∙ ap (λ b. cond b v (bit w j)) (sym (ne_eqb j k ne)))
    (cases_eq j k)

-- a bit is set
pub put_set : (w k : ℕ) → k < 32 → (j : ℕ) → bit (bit_or w (1 * 2 ^ k % 4294967296)) j ≡ cond (j == k) true (bit w j)
put_set w k lt =
    put_from _ w k true (ap (λ x. eqb x 1) (bit_at_set_same w32 w k lt)) (λ j ne. ap (λ x. eqb x 1) (bit_at_set_other w32 w k lt j ne))

-- a bit is cleared
pub put_clear : (w k : ℕ) → w < 2 ^ 32 → k < 32 → (j : ℕ) → bit (bit_and w (4294967295 - 1 * 2 ^ k % 4294967296)) j ≡ cond (j == k) false (bit w j)
put_clear w k fits lt =
    put_from _ w k false (ap (λ x. eqb x 1) (bit_at_clear_same w32 w k lt)) (λ j ne. ⊎_elim
    (λ low. ap (λ x. eqb x 1) (bit_at_clear_other w32 w k lt j low ne))
    (λ high.
    let le = and_le_l w (4294967295 - 1 * 2 ^ k % 4294967296) in
    bit_above _ 32 j (omega arith) high ∙ sym (bit_above w 32 j fits high))
    (cases_lt j 32))

-- as numbers, words that differ in bit k alone differ by what that bit counts
pub put_number : (r w k : ℕ) (v : Bool) → ((j : ℕ) → bit r j ≡ cond (j == k) v (bit w j)) → r + cond (bit w k) (2 ^ k) 0 ≡ w + cond v (2 ^ k) 0
put_number r w k v each =
    let here : bit r k ≡ v = each k ∙ ap (λ b. cond b v (bit w k)) (eq-eqb k k refl) in
    let full : bit_or r (2 ^ k) ≡ bit_or w (2 ^ k) = same_from_bits _ _ (λ j. bit_at_or r (2 ^ k) j ∙ joined j ∙ sym (bit_at_or w (2 ^ k) j)) in
    let of-r = or_add_and r (2 ^ k) in
    let of-w = or_add_and w (2 ^ k) in
    let had-r : bit_and r (2 ^ k) ≡ cond v (2 ^ k) 0 = and_pow r k ∙ ap (λ d. d * 2 ^ k) (digit_is r k ∙ ap (λ b. cond b 1 0) here) ∙ times v in
    let had-w : bit_and w (2 ^ k) ≡ cond (bit w k) (2 ^ k) 0 = and_pow w k ∙ ap (λ d. d * 2 ^ k) (digit_is w k) ∙ times (bit w k) in
    omega arith
  where
    times : (b : Bool) → cond b 1 0 * 2 ^ k ≡ cond b (2 ^ k) 0
    times true = omega arith
    times false = omega arith

    one : (d : ℕ) → d < 2 → max d 1 ≡ 1
    one d lt = omega arith

    joined : (j : ℕ) → max (bit_at r j) (bit_at (2 ^ k) j) ≡ max (bit_at w j) (bit_at (2 ^ k) j)
    joined j = ⊎_elim
        (λ e.
        let set : bit_at (2 ^ k) j ≡ 1 = ap (bit_at (2 ^ k)) e ∙ bit_at-pow_same k in
        ap (max (bit_at r j)) set ∙ one (bit_at r j) (bit_at-lt r j) ∙ sym (one (bit_at w j) (bit_at-lt w j)) ∙ ap (max (bit_at w j)) (sym set))
        (λ ne.
        let same : bit r j ≡ bit w j = each j ∙ ap (λ b. cond b v (bit w j)) (ne_eqb j k ne) in
        ap (λ d. max d (bit_at (2 ^ k) j)) (digit_is r j ∙ ap (λ b. cond b 1 0) same ∙ sym (digit_is w j)))
        (cases_eq j k)

-- the bits of two words, one above the other
pub join_bits : (low k high : ℕ) → low < 2 ^ k → (j : ℕ) → bit (high * 2 ^ k + low) j ≡ cond (nat_lt j k) (bit low j) (bit high (j - k))
join_bits low k high lt j = ⊎_elim
    (λ below. ap (λ x. eqb x 1) (bit_at_cat_low high k low j below) ∙ ap (λ b. cond b (bit low j) (bit high (j - k))) (sym (lt-ltb j k below)))
    (λ above. ap (λ x. eqb x 1) (bit_at_cat_high high k low j lt above) ∙ ap (λ b. cond b (bit low j) (bit high (j - k))) (sym (le-ltb j k above)))
    (cases_lt j k)

-- a word with one bit more: as it was where it had the bit, and else by what the bit counts more
pub put_one : (r w k : ℕ) → r + cond (bit w k) (2 ^ k) 0 ≡ w + 2 ^ k → r ≡ cond (bit w k) w (w + 2 ^ k)
put_one r w k = go (bit w k)
  where
    go : (b : Bool) → r + cond b (2 ^ k) 0 ≡ w + 2 ^ k → r ≡ cond b w (w + 2 ^ k)
    go true e = omega arith
    go false e = omega arith

-- a word below 2 ^ k with bit k as told
pub put_top : (r w k : ℕ) (v : Bool) → w < 2 ^ k → r + cond (bit w k) (2 ^ k) 0 ≡ w + cond v (2 ^ k) 0 → r ≡ cond v 1 0 * 2 ^ k + w
put_top r w k v lt e = go v (sym (ap (λ b. r + cond b (2 ^ k) 0) (bit_above w k k lt (omega arith))) ∙ e)
  where
    go : (b : Bool) → r + 0 ≡ w + cond b (2 ^ k) 0 → r ≡ cond b 1 0 * 2 ^ k + w
    go true is = omega arith
    go false is = omega arith

-- a word with one more bit
pub bit-bit_or : (w r z : ℕ) → bit (bit_or w (2 ^ r)) z ≡ (eqb z r || bit w z)
bit-bit_or w r z = ap (λ d. eqb d 1) (bit_at_or w (2 ^ r) z) ∙ ⊎_elim
    (λ e.
    let set : bit_at (2 ^ r) z ≡ 1 = ap (bit_at (2 ^ r)) e ∙ bit_at-pow_same r in
    ap (λ d. eqb (max (bit_at w z) d) 1) set ∙ eq-eqb (max (bit_at w z) 1) 1 (omega (arith, bit_at-lt w z)) ∙ sym (or_left (eqb z r) (bit w z) (eq-eqb z r e)))
    (λ ne.
    let same : max (bit_at w z) 0 ≡ bit_at w z = omega arith in
    ap (λ d. eqb (max (bit_at w z) d) 1) (bit_at-pow_other r z ne) ∙ ap (λ d. eqb d 1) same ∙ ap (λ b. b || bit w z) (sym (ne_eqb z r ne)))
    (cases_eq z r)

low_and : (u v : ℕ) → u < 2 → v < 2 → eqb (min u v) 1 ≡ (eqb u 1 && eqb v 1)
low_and zero zero lu lv = refl
low_and zero (suc zero) lu lv = refl
low_and (suc zero) zero lu lv = refl
low_and (suc zero) (suc zero) lu lv = refl
low_and zero (suc (suc v)) lu lv = absurd (omega arith)
low_and (suc zero) (suc (suc v)) lu lv = absurd (omega arith)
low_and (suc (suc u)) v lu lv = absurd (omega arith)

-- the bits that two words have in common
pub bit-bit_and : (x y z : ℕ) → bit (bit_and x y) z ≡ (bit x z && bit y z)
bit-bit_and x y z = ap (λ d. eqb d 1) (bit_at_and x y z) ∙ low_and (bit_at x z) (bit_at y z) (bit_at-lt x z) (bit_at-lt y z)
