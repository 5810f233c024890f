-- The set of a position, with the states that lead on.
use Rattle.std.proofs.Common.{◌≡◌, ℕ, zero, suc, ◌^◌, ◌<◌, ◌≤◌, Bool, true, false, cond, T, eqb, ◌⊎◌, List, [], ◌∷◌, length, get_or, set, sym, refl, ap, ◌∙◌, subst, inl, inr, ⊎_elim, arith, eqb→eq}
use lib.Bits.{bit_or, or_add_and, and_le_r, or_lt}
use lib.Pow.{pow-lt}
use Rattle.std.proofs.lemmas.Bool.{cases_eq, eq-eqb}
use Rattle.masks.specs.Masks.{bit}
use Rattle.logic.proofs.Bools.{T_or_left, T_or_right, or_T}
use Rattle.properties.specs.declared.rows.Connective.{Connective as ConnectiveRow}
use Rattle.lassos.specs.Sweeps.{joined, leads, room}
use Rattle.masks.proofs.Bits.{bit-bit_or}
use Rattle.lassos.proofs.Words.{true_T}

module _ (row : ConnectiveRow) (operands : List ℕ) (here there was : ℕ) where
  -- what was there stays
  pub join_keeps : (n z : ℕ) → T (bit was z) → T (bit (joined row operands here there was n) z)
  join_keeps zero z t = t
  join_keeps (suc n) z t = go (leads row operands here there n) (join_keeps n z t)
    where
      go : (b : Bool) → T (bit (joined row operands here there was n) z) → T (bit (cond b (bit_or (joined row operands here there was n) (2 ^ n)) (joined row operands here there was n)) z)
      go true ih = subst T (sym (bit-bit_or (joined row operands here there was n) n z)) (T_or_right (eqb z n) _ ih)
      go false ih = ih

  -- a state that leads on is there
  pub join_in : (n z : ℕ) → z < n → T (leads row operands here there z) → T (bit (joined row operands here there was n) z)
  join_in zero z lt t = absurd (omega arith)
  join_in (suc n) z lt t = go (leads row operands here there n) refl (join_in n z) (cases_eq z n)
    where
      go : (b : Bool) → leads row operands here there n ≡ b → (z < n → T (leads row operands here there z) → T (bit (joined row operands here there was n) z)) → (z ≡ n) ⊎ (z ≡ n → ⊥) → T (bit (cond b (bit_or (joined row operands here there was n) (2 ^ n)) (joined row operands here there was n)) z)
      go true e ih (inl same) = subst T (sym (bit-bit_or (joined row operands here there was n) n z)) (T_or_left (eqb z n) _ (true_T (eq-eqb z n same)))
      go true e ih (inr other) = subst T (sym (bit-bit_or (joined row operands here there was n) n z)) (T_or_right (eqb z n) _ (ih (omega arith) t))
      go false e ih (inl same) = absurd (subst T (ap (leads row operands here there) same ∙ e) t)
      go false e ih (inr other) = ih (omega arith) t

  -- and nothing else
  pub join_out : (n z : ℕ) → T (bit (joined row operands here there was n) z) → T (bit was z) ⊎ ((z < n) × T (leads row operands here there z))
  join_out zero z t = inl t
  join_out (suc n) z t = go (leads row operands here there n) refl (join_out n z) t
    where
      wider : T (bit was z) ⊎ ((z < n) × T (leads row operands here there z)) → T (bit was z) ⊎ ((z < suc n) × T (leads row operands here there z))
      wider (inl w) = inl w
      wider (inr s) = let lt = s.0 in inr (omega arith, s.1)

      go : (b : Bool) → leads row operands here there n ≡ b → (T (bit (joined row operands here there was n) z) → T (bit was z) ⊎ ((z < n) × T (leads row operands here there z))) →
          T (bit (cond b (bit_or (joined row operands here there was n) (2 ^ n)) (joined row operands here there was n)) z) → T (bit was z) ⊎ ((z < suc n) × T (leads row operands here there z))
      go true e ih u = ⊎_elim
          (λ q. let same = eqb→eq z n q in inr (omega arith, true_T (ap (leads row operands here there) same ∙ e)))
          (λ p. wider (ih p))
          (or_T (eqb z n) _ (subst T (bit-bit_or (joined row operands here there was n) n z) u))
      go false e ih u = wider (ih u)

  pub join_rises : (n : ℕ) → was ≤ joined row operands here there was n
  join_rises zero = omega arith
  join_rises (suc n) = go (leads row operands here there n) (join_rises n)
    where
      go : (b : Bool) → was ≤ joined row operands here there was n → was ≤ cond b (bit_or (joined row operands here there was n) (2 ^ n)) (joined row operands here there was n)
      go true ih = omega (arith, or_add_and (joined row operands here there was n) (2 ^ n), and_le_r (joined row operands here there was n) (2 ^ n))
      go false ih = ih

  pub join_small : (n : ℕ) → n ≤ 8 → was < 256 → joined row operands here there was n < 256
  join_small zero le lt = lt
  join_small (suc n) le lt = go (leads row operands here there n) (join_small n (omega arith) lt)
    where
      go : (b : Bool) → joined row operands here there was n < 256 → cond b (bit_or (joined row operands here there was n) (2 ^ n)) (joined row operands here there was n) < 256
      go true ih = let p : n < 8 = omega arith in or_lt 8 (joined row operands here there was n) (2 ^ n) ih (pow-lt p)
      go false ih = ih

-- sets that rise have less room
pub room_set : (ws : List ℕ) (i v : ℕ) → i < length ws → get_or ws i 0 < v → get_or ws i 0 < 256 → room (set ws i v) < room ws
room_set [] i v lt up small = absurd (omega arith)
room_set (w ∷ ws) zero v lt up small = omega arith
room_set (w ∷ ws) (suc i) v lt up small = let r = room_set ws i v (omega arith) up small in omega arith

pub room_kept : (ws : List ℕ) (i v : ℕ) → get_or ws i 0 ≤ v → room (set ws i v) ≤ room ws
room_kept [] i v up = omega arith
room_kept (w ∷ ws) zero v up = omega arith
room_kept (w ∷ ws) (suc i) v up = let r = room_kept ws i v up in omega arith
