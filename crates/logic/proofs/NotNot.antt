-- Finitely many questions are not undecided.
use Rattle.std.proofs.Common.{◌≡◌, ℕ, zero, suc, ◌<◌, Bool, true, false, eqb, ltb, ◌⊎◌, length, sym, refl, subst, inl, inr, not-suc-le-zero, arith, ltb→lt}
use Rattle.std.proofs.lemmas.Bool.{eqb-false, eqb-true}
use Rattle.language.specs.Properties.{Property, node_width}
use Rattle.logic.specs.Truth.{Line, node_at}
use Rattle.logic.specs.Paths.{Asks, Decided}

-- one question
not_undecided : (P : Type 0) → ¬ ¬ (P ⊎ (¬ P))
not_undecided P n = n (inr (λ p. n (inl p)))

-- what is not refuted at any of finitely many numbers is not refuted at all of them together
not_not_all : (n : ℕ) (P : ℕ → Type 0) → ((i : ℕ) → i < n → ¬ ¬ P i) → ¬ ¬ ((i : ℕ) → i < n → P i)
not_not_all zero P h no_all = no_all (λ i lt. absurd (not-suc-le-zero lt))
not_not_all (suc n) P h no_all =
    not_not_all n P (λ i lt. h i (omega arith)) (λ low. h n (omega arith) (λ here. no_all (λ i lt. go low here i lt (eqb i n) refl)))
  where
    go : ((i : ℕ) → i < n → P i) → P n → (i : ℕ) → i < suc n → (b : Bool) → eqb i n ≡ b → P i
    go low here i lt true e = subst P (sym (eqb-true i n e)) here
    go low here i lt false e =
        let other : ¬ (i ≡ n) = eqb-false i n e in
        low i (omega arith)

-- finitely many questions
all_decided : (n : ℕ) (P : ℕ → Type 0) → ¬ ¬ ((i : ℕ) → i < n → P i ⊎ (¬ P i))
all_decided n P = not_not_all n (λ i. P i ⊎ (¬ P i)) (λ i lt. not_undecided (P i))

-- the bits of a property at the times below n
pub bits_decided : (f : Property) (l : Line) (n : ℕ) → ¬ ¬ Decided f l (λ i. ltb i n)
bits_decided f l n no_all =
    not_not_all n (λ i. (k : ℕ) → k < length f.nodes → (q : ℕ) → q < node_width f.connectives (node_at f k) → Asks f l k q i ⊎ (¬ Asks f l k q i))
    (λ i _. not_not_all (length f.nodes) (λ k. (q : ℕ) → q < node_width f.connectives (node_at f k) → Asks f l k q i ⊎ (¬ Asks f l k q i))
    (λ k _. all_decided (node_width f.connectives (node_at f k)) (λ q. Asks f l k q i)))
    (λ all. no_all (λ k q i lt w d. all i (ltb→lt i n d) k lt q w))
