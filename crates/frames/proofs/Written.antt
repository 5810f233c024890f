-- Laws of what is written into an area, and of the digits of a number.
use Rattle.std.proofs.Common.{◌≡◌, ℕ, zero, suc, ◌+◌, ◌-◌, ◌*◌, ◌/◌, ◌%◌, ◌^◌, ◌<◌, ◌≤◌, Bool, cond, List, [], ◌∷◌, ◌++◌, length, drop, set, Ok, Err, Result, sym, refl, ap, ◌∙◌, ap₂, subst, add-one, arith, pow-add}
use native.Mathlib.Nat.{pow-succ'}
use lib.Bits.{bit_and, and_mask}
use Rattle.std.proofs.lemmas.List.{append_assoc, length-append, length_push, length-set}
use Rattle.std.proofs.lemmas.Bool.{le-leb, lt-leb}
use Rattle.frames.specs.Areas.{filled, told, written}
use Rattle.frames.specs.declared.faults.Refusal.{Refusal}
use Rattle.frames.specs.declared.faults.Refusal.TheVariants.{Room}
use Rattle.frames.specs.Digits.{hexadecimal, digit_of}
use Rattle.frames.specs.Writers.{Writes}
use Rattle.frames.specs.declared.writers.Writer.{Writer}

pub powers_of_16 : (k : ℕ) → 2 ^ (4 * k) ≡ 16 ^ k
powers_of_16 zero = refl
powers_of_16 (suc k) =
    let e : 4 * suc k ≡ 4 + 4 * k = omega arith in
    ap (λ n. 2 ^ n) e ∙ pow-add 2 4 (4 * k) ∙ ap (λ n. 16 * n) (powers_of_16 k) ∙ sym (pow-succ' 16 k)

-- the digit that a shift and a mask give
pub nibble : (n k : ℕ) → bit_and (n / 2 ^ (4 * k)) 15 ≡ n / 16 ^ k % 16
nibble n k = and_mask (n / 2 ^ (4 * k)) 4 ∙ ap (λ p. n / p % 16) (powers_of_16 k)

-- after the first digit the others are written from the next place on
pub written_digit : (area : List ℕ) (place k n d : ℕ) (whole : List ℕ) → 0 < k → d ≡ digit_of (n / 16 ^ (k - 1) % 16) → written area place (hexadecimal k n) ≡ whole → written (set area place d) (place + 1) (hexadecimal (k - 1) n) ≡ whole
written_digit area place zero n d whole h e w = absurd (omega arith)
written_digit area place (suc k) n d whole h e w =
    let s : suc k - 1 ≡ k = omega arith in
    let f : d ≡ digit_of (n / 16 ^ k % 16) = e ∙ ap (λ j. digit_of (n / 16 ^ j % 16)) s in
    let g = ap₂ (λ (x p : ℕ). written (set area place x) p (hexadecimal k n)) f (add-one place) in
    ap (λ j. written (set area place d) (place + 1) (hexadecimal j n)) s ∙ g ∙ w

pub length_written : (area : List ℕ) (at : ℕ) (bytes : List ℕ) → length (written area at bytes) ≡ length area
length_written area at [] = refl
length_written area at (b ∷ bytes) = length_written (set area at b) (suc at) bytes ∙ length-set area at b

-- one writing after the other
pub written_append : (area : List ℕ) (at : ℕ) (xs ys : List ℕ) → written (written area at xs) (at + length xs) ys ≡ written area at (xs ++ ys)
written_append area at [] ys = let e : at + 0 ≡ at = omega arith in ap (λ p. written area p ys) e
written_append area at (x ∷ xs) ys =
    let e : at + length (x ∷ xs) ≡ suc at + length xs = omega arith in
    ap (λ p. written (written (set area at x) (suc at) xs) p ys) e ∙ written_append (set area at x) (suc at) xs ys

-- what two writings leave, the other from where the first ended
pub written_both : (area : List ℕ) (at : ℕ) (xs ys : List ℕ) {first after : List ℕ} {place : ℕ} → first ≡ written area at xs → place ≡ at + length xs → after ≡ written first place ys → after ≡ written area at (xs ++ ys)
written_both area at xs ys f p g = g ∙ ap₂ (λ (r : List ℕ) (k : ℕ). written r k ys) f p ∙ written_append area at xs ys

set_at_length : (p area : List ℕ) (b : ℕ) → set (p ++ area) (length p) b ≡ p ++ set area 0 b
set_at_length [] area b = refl
set_at_length (x ∷ p) area b = ap (λ r. x ∷ r) (set_at_length p area b)

-- bytes that fit, written from the place where a front ends
written_from : (p area bytes : List ℕ) → length bytes ≤ length area → written (p ++ area) (length p) bytes ≡ p ++ (bytes ++ drop (length bytes) area)
written_from p area [] h = refl
written_from p [] (b ∷ bytes) h = absurd (omega arith)
written_from p (a ∷ area) (b ∷ bytes) h =
    let e : set (p ++ a ∷ area) (length p) b ≡ (p ++ b ∷ []) ++ area = set_at_length p (a ∷ area) b ∙ sym (append_assoc p (b ∷ []) area) in
    let n : suc (length p) ≡ length (p ++ b ∷ []) = sym (length_push p b ∙ add-one (length p)) in
    ap₂ (λ (xs : List ℕ) (k : ℕ). written xs k bytes) e n
    ∙ written_from (p ++ b ∷ []) area bytes (omega arith)
    ∙ append_assoc p (b ∷ []) (bytes ++ drop (length bytes) area)

-- a text that fits, written from the start
pub written_whole : (area text : List ℕ) → length text ≤ length area → written area 0 text ≡ text ++ drop (length text) area
written_whole area text h = written_from [] area text h

-- an area that the text fits into
pub told_fits : (text area : List ℕ) (n : ℕ) → n ≡ length text → length text ≤ length area → Ok n ≡ told text area
told_fits text area n e l =
    ap {B = Result ℕ Refusal} (λ k. Ok k) e ∙ sym (ap (λ (b : Bool). cond {A = Result ℕ Refusal} b (Ok (length text)) (Err Room)) (le-leb (length text) (length area) l))

pub filled_fits : (text area : List ℕ) → length text ≤ length area → written area 0 text ≡ filled text area
filled_fits text area l =
    written_whole area text l ∙ sym (ap (λ (b : Bool). cond b (text ++ drop (length text) area) area) (le-leb (length text) (length area) l))

-- an area that is too short
pub told_short : (text area : List ℕ) → length area < length text → Err Room ≡ told text area
told_short text area l = sym (ap (λ (b : Bool). cond {A = Result ℕ Refusal} b (Ok (length text)) (Err Room)) (lt-leb (length text) (length area) l))

pub filled_short : (text area : List ℕ) → length area < length text → area ≡ filled text area
filled_short text area l = sym (ap (λ (b : Bool). cond b (text ++ drop (length text) area) area) (lt-leb (length text) (length area) l))

-- the last digits of a number are as many as asked for
pub length_hexadecimal : (n v : ℕ) → length (hexadecimal n v) ≡ n
length_hexadecimal zero v = refl
length_hexadecimal (suc n) v = ap (λ k. suc k) (length_hexadecimal n v)

-- one writing after the other, by the same writer
pub writes_both : {a b c : Writer} {xs ys : List ℕ} → Writes a b xs → Writes b c ys → Writes a c (xs ++ ys)
writes_both {a} {b} {c} {xs} {ys} f g = record {
  same_area = g.same_area ∙ f.same_area;
  area = written_both a.area.now a.at xs ys f.area f.place g.area;
  place = simp length-append (omega (arith, f.place, g.place));
}

-- the same bytes under another name
pub writes_as : {a b : Writer} {xs ys : List ℕ} → xs ≡ ys → Writes a b xs → Writes a b ys
writes_as {a} {b} e f = subst (Writes a b) e f

-- nothing was written yet
pub writes_none : (a : Writer) → Writes a a []
writes_none a = record { same_area = refl; area = refl; place = omega arith }

-- a text that fits, written from the start: what the call tells, and what it leaves in the area
pub writes_text : {a b : Writer} (text : List ℕ) → Writes a b text → a.at ≡ 0 → length text ≤ length a.area.now → (Ok b.at ≡ told text a.area.now) × (b.area.now ≡ filled text a.area.now)
writes_text {a} {b} text f e fits = (
  told_fits text a.area.now b.at (omega (arith, f.place)) fits,
  f.area ∙ ap (λ k. written a.area.now k text) e ∙ filled_fits text a.area.now fits,
)
