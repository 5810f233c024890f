-- Spelled bytes are digits, and spell the bytes again; a text of such lines is cut into them.
use Rattle.std.proofs.Common.{◌≡◌, ℕ, ◌+◌, ◌*◌, ◌/◌, ◌%◌, ◌<◌, true, false, eqb, ltb, List, [], ◌∷◌, ◌++◌, map, length, refl, ap, ◌∙◌, ap₂, arith}
use Rattle.std.proofs.lemmas.Bool.{lt-ltb, and_parts, and_from, ltb-true, eq-eqb}
use Rattle.std.proofs.lemmas.Bool.Decides.{nat_tests}
use Rattle.frames.specs.Digits.{digit_of, is_digit, value}
use Rattle.frames.specs.Lines.{Text, cut, proper, spelt, all_digits}
use Rattle.language.specs.Properties.{all_below}
use Rattle.language.specs.Canonical.{spelled, text_of}

-- the digit of a value below 16
pub is_digit_of : (v : ℕ) → v < 16 → is_digit (digit_of v) ≡ true
is_digit_of v h = grind (arith, nat_tests)

pub value_of : (v : ℕ) → v < 16 → value (digit_of v) ≡ v
value_of v h = grind (arith, nat_tests)

pub not_closing : (v : ℕ) → v < 16 → eqb (digit_of v) 10 ≡ false
not_closing v h = grind (arith, nat_tests)

-- the two digits of a byte
high : (b : ℕ) → b / 16 % 16 < 16
high b = omega arith

low : (b : ℕ) → b / 1 % 16 < 16
low b = omega arith

joint : (b : ℕ) → b < 256 → 16 * (b / 16 % 16) + b / 1 % 16 ≡ b
joint b h = omega arith

pub length_spelled : (bs : List ℕ) → length (spelled bs) ≡ 2 * length bs
length_spelled [] = refl
length_spelled (b ∷ bs) = let e = length_spelled bs in omega arith

pub digits_spelled : (bs : List ℕ) → all_digits (spelled bs) ≡ true
digits_spelled [] = refl
digits_spelled (b ∷ bs) =
    and_from _ _ (is_digit_of _ (high b)) (and_from _ _ (is_digit_of _ (low b)) (digits_spelled bs))

pub spelt_spelled : (bs : List ℕ) → all_below 256 bs ≡ true → spelt (spelled bs) ≡ bs
spelt_spelled [] h = refl
spelt_spelled (b ∷ bs) h =
    let parts = and_parts (ltb b 256) (all_below 256 bs) h in
    let here : 16 * value (digit_of (b / 16 % 16)) + value (digit_of (b / 1 % 16)) ≡ b = ap₂ (λ (x y : ℕ). 16 * x + y) (value_of _ (high b)) (value_of _ (low b)) ∙ joint b (ltb-true b 256 parts.0) in
    ap₂ (λ (x : ℕ) (xs : List ℕ). x ∷ xs) here (spelt_spelled bs parts.1)

pub proper_spelled : (bs : List ℕ) → 0 < length bs → proper (spelled bs) ≡ true
proper_spelled bs h =
    let l = length_spelled bs in
    and_from _ _ (digits_spelled bs) (and_from _ _ (eq-eqb (length (spelled bs) % 2) 0 (omega arith)) (lt-ltb 0 (length (spelled bs)) (omega arith)))

-- a line that is spelled and closed is cut off first
pub cut_spelled : (bs text : List ℕ) → cut (spelled bs ++ 10 ∷ text) ≡ record { lines = spelled bs ∷ (cut text).lines; rest = (cut text).rest }
cut_spelled [] text = refl
cut_spelled (b ∷ bs) text =
    let r = cut_spelled bs text in
    let h = not_closing _ (high b) in
    let l = not_closing _ (low b) in
    rw (h, l, r) refl

pub cut_text : (lines : List (List ℕ)) → cut (text_of lines) ≡ record { lines = map spelled lines; rest = [] }
cut_text [] = refl
cut_text (bs ∷ lines) =
    let r = cut_text lines in
    cut_spelled bs (text_of lines) ∙ ap (λ (t : Text). record { lines = spelled bs ∷ t.lines; rest = t.rest }) r
