-- Laws of the bytes that digits spell.
use Rattle.std.proofs.Common.{◌≡◌, ℕ, zero, suc, ◌+◌, ◌*◌, ◌/◌, ◌<◌, ◌≤◌, min, List, [], ◌∷◌, ◌++◌, length, get_or, take, drop, set, sym, refl, ap, ◌∙◌, ap₂, ⊎_elim, arith}
use Rattle.std.proofs.lemmas.List.{take_more, take_more_set, take_all}
use Rattle.std.proofs.lemmas.Bool.{cases_lt}
use Rattle.frames.specs.Digits.{value}
use Rattle.frames.specs.Lines.{spelt}

-- two digits a byte
pub length_spelt : (ds : List ℕ) → length (spelt ds) ≡ length ds / 2
length_spelt [] = refl
length_spelt (h ∷ []) = refl
length_spelt (h ∷ l ∷ ds) = let e = length_spelt ds in omega arith

-- byte k is spelt by the digits 2k and 2k + 1
pub getD_spelt : (ds : List ℕ) (k : ℕ) → 2 * k + 1 < length ds → get_or (spelt ds) k 0 ≡ 16 * value (get_or ds (2 * k) 0) + value (get_or ds (2 * k + 1) 0)
getD_spelt [] k h = absurd (omega arith)
getD_spelt (a ∷ []) k h = absurd (omega arith)
getD_spelt (a ∷ b ∷ ds) zero h = refl
getD_spelt (a ∷ b ∷ ds) (suc k) h =
    let e : 2 * suc k ≡ suc (suc (2 * k)) = omega arith in
    let f : suc (suc (2 * k)) + 1 ≡ suc (suc (2 * k + 1)) = omega arith in
    rw (e, f) (getD_spelt ds k (omega arith))

-- without the first two bytes, the digits from the fifth on
pub spelt_drop : (ds : List ℕ) → 4 ≤ length ds → spelt (drop 4 ds) ≡ drop 2 (spelt ds)
spelt_drop [] h = refl
spelt_drop (a ∷ []) h = absurd (omega arith)
spelt_drop (a ∷ b ∷ []) h = absurd (omega arith)
spelt_drop (a ∷ b ∷ c ∷ []) h = absurd (omega arith)
spelt_drop (a ∷ b ∷ c ∷ d ∷ ds) h = refl

-- one byte more of a head
pub head_more : (head ds : List ℕ) (k b : ℕ) → length head ≡ 7 → k < 7 → 2 * k + 1 < length ds → b ≡ 16 * value (get_or ds (2 * k) 0) + value (get_or ds (2 * k + 1) 0) → take k head ≡ take k (spelt ds) → take (k + 1) (set head k b) ≡ take (k + 1) (spelt ds)
head_more head ds k b long lt in-ds e same =
    let n = length_spelt ds in
    take_more_set head k b (omega arith)
    ∙ ap₂ (λ (xs : List ℕ) (x : ℕ). xs ++ x ∷ []) same (e ∙ sym (getD_spelt ds k in-ds))
    ∙ sym (take_more (spelt ds) k 0 (omega arith))

-- a head of n bytes, or of all where they are fewer
pub head_whole : (head xs : List ℕ) (k n m : ℕ) → length xs ≡ m → k ≡ min m n → take k head ≡ take k xs → take k head ≡ take n xs
head_whole head xs k n m long e same = ⊎_elim
    (λ lt. let f : k ≡ m = omega arith in same ∙ take_all k xs (omega arith) ∙ sym (take_all n xs (omega arith)))
    (λ ge. let f : k ≡ n = omega arith in same ∙ ap (λ j. take j xs) f)
    (cases_lt m n)
