-- Texts of lines, and what is written one after the other.
use Rattle.std.proofs.Common.{◌≡◌, ℕ, ◌+◌, ◌*◌, ◌/◌, ◌%◌, ◌^◌, ◌<◌, Bool, cond, ◌&&◌, ltb, List, [], ◌∷◌, ◌++◌, length, get_or, take, sym, refl, ap, ◌∙◌, add-one}
use lib.Bits.{bit_and, and_mask}
use Rattle.std.proofs.lemmas.List.{append_assoc, take_more}
use Rattle.std.proofs.lemmas.Bool.{eq-eqb, lt-ltb, ne_eqb}
use Rattle.frames.specs.Digits.{hexadecimal}
use Rattle.frames.specs.Writers.{Writes}
use Rattle.frames.specs.declared.writers.Writer.{Writer}
use Rattle.frames.proofs.Written.{writes_as, writes_both}
use Rattle.language.specs.Canonical.{each, spelled, text_of, transition_line}
use Rattle.masks.specs.Masks.{bit}
use Rattle.properties.specs.declared.rows.Connective.{Connective as ConnectiveRow}
use Rattle.properties.specs.Views.{connective_of}

pub text_append : (xs ys : List (List ℕ)) → text_of (xs ++ ys) ≡ text_of xs ++ text_of ys
text_append [] ys = refl
text_append (x ∷ xs) ys = ap (λ t. spelled x ++ 10 ∷ t) (text_append xs ys) ∙ sym (append_assoc (spelled x) (10 ∷ text_of xs) (text_of ys))

-- some lines, and then others
pub writes_lines : {a b c : Writer} (xs ys zs : List (List ℕ)) → xs ++ ys ≡ zs → Writes a b (text_of xs) → Writes b c (text_of ys) → Writes a c (text_of zs)
writes_lines xs ys zs e f g = writes_as (sym (text_append xs ys) ∙ ap text_of e) (writes_both f g)

spelled_append : (xs ys : List ℕ) → spelled (xs ++ ys) ≡ spelled xs ++ spelled ys
spelled_append [] ys = refl
spelled_append (x ∷ xs) ys = ap (λ t. hexadecimal 2 x ++ t) (spelled_append xs ys)

-- the digits of one byte more
pub spelled_more : (bytes : List ℕ) (i : ℕ) → i < length bytes → spelled (take i bytes) ++ hexadecimal 2 (get_or bytes i 0) ≡ spelled (take (i + 1) bytes)
spelled_more bytes i lt = sym (ap spelled (take_more bytes i 0 lt) ∙ spelled_append (take i bytes) (get_or bytes i 0 ∷ []))

pub each_more : {A : Type 0} (n : ℕ) (f : ℕ → List A) → each n f ++ f n ≡ each (n + 1) f
each_more n f = sym (ap (λ k. each k f) (add-one n))

-- all values were written
pub writes_each : {a b : Writer} (m n : ℕ) (f : ℕ → List (List ℕ)) → m ≡ n → Writes a b (text_of (each m f)) → Writes a b (text_of (each n f))
writes_each m n f e w = writes_as (ap (λ k. text_of (each k f)) e) w

-- in range, a connective may go where the bit of its word is set
transition_is : (row : ConnectiveRow) (p a r : ℕ) → p < row.states → a < row.letters → r < row.states → transition_line (connective_of row) p a r ≡ cond (bit (get_or row.moves (4 * p + a) 0) r) ((0x11 ∷ p ∷ a ∷ r ∷ []) ∷ []) []
transition_is row p a r lp la lr =
    let line : List (List ℕ) = (0x11 ∷ p ∷ a ∷ r ∷ []) ∷ [] in
    let b : Bool = bit (get_or row.moves (4 * p + a) 0) r in
    ap (λ (t : Bool). cond (t && (ltb a row.letters && (ltb r row.states && b))) line []) (lt-ltb p row.states lp)
    ∙ ap (λ (t : Bool). cond (t && (ltb r row.states && b)) line []) (lt-ltb a row.letters la)
    ∙ ap (λ (t : Bool). cond (t && b) line []) (lt-ltb r row.states lr)

pub transition_goes : (row : ConnectiveRow) (p a r : ℕ) → p < row.states → a < row.letters → r < row.states → bit_and (get_or row.moves (4 * p + a) 0 / 2 ^ r) 1 ≡ 1 → transition_line (connective_of row) p a r ≡ (0x11 ∷ p ∷ a ∷ r ∷ []) ∷ []
transition_goes row p a r lp la lr h =
    let n : ℕ = get_or row.moves (4 * p + a) 0 / 2 ^ r in
    transition_is row p a r lp la lr
    ∙ ap (λ (t : Bool). cond t ((0x11 ∷ p ∷ a ∷ r ∷ []) ∷ []) []) (eq-eqb (n % 2) 1 (sym (and_mask n 1) ∙ h))

pub transition_stays : (row : ConnectiveRow) (p a r : ℕ) → p < row.states → a < row.letters → r < row.states → (bit_and (get_or row.moves (4 * p + a) 0 / 2 ^ r) 1 ≡ 1 → ⊥) → transition_line (connective_of row) p a r ≡ []
transition_stays row p a r lp la lr h =
    let n : ℕ = get_or row.moves (4 * p + a) 0 / 2 ^ r in
    transition_is row p a r lp la lr
    ∙ ap (λ (t : Bool). cond t ((0x11 ∷ p ∷ a ∷ r ∷ []) ∷ []) []) (ne_eqb (n % 2) 1 (λ e. h (and_mask n 1 ∙ e)))
