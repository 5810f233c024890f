-- A connective with one more transition.
use Rattle.std.proofs.Common.{◌≡◌, ℕ, ◌+◌, ◌-◌, ◌*◌, ◌^◌, ◌<◌, ◌≤◌, Bool, true, false, ◌&&◌, ◌||◌, eqb, ltb, ◌≢◌, ◌⊎◌, List, length, get_or, take, set, sym, refl, ap, ◌∙◌, inl, inr, arith}
use mathlib.Core.Path.{fun_ext}
use lib.Bits.{bit_or}
use Rattle.std.proofs.lemmas.List.{get_or-map, get_or-set_other, get_or-set_same, get_or-take, length-take-le}
use Rattle.std.proofs.lemmas.Bool.{eqb-false, eqb-true, ltb-false, ltb-true, ne_eqb}
use Rattle.masks.specs.Masks.{bit}
use Rattle.language.specs.Properties.{Connective, connective_at, idle}
use Rattle.language.specs.Reading.{moving}
use Rattle.properties.specs.declared.rows.Connective.{Connective as ConnectiveRow}
use Rattle.properties.specs.Views.{connective_of, connectives_of, no_row}
use Rattle.properties.proofs.Bits.{bit-bit_or}
use Rattle.properties.proofs.Growing.{rows_set}

-- the words of a connective whose word of (p, a) gets bit r
abbrev with_bit : List ℕ → ℕ → ℕ → ℕ → List ℕ
with_bit ms p a r = set ms (4 * p + a) (bit_or (get_or ms (4 * p + a) 0) (2 ^ r))

-- then a bit of the word of (x, y) is set there, and where it was set before
word_with : (ms : List ℕ) (p a r x y z : ℕ) (bx by : Bool) → eqb x p ≡ bx → eqb y a ≡ by → 4 * p + a < length ms → a < 4 → y < 4 → r < 8 → z < 8 → bit (get_or (with_bit ms p a r) (4 * x + y) 0) z ≡ ((bx && (by && eqb z r)) || bit (get_or ms (4 * x + y) 0) z)
word_with ms p a r x y z true true ex ey long la ly lr lz =
    let e = eqb-true x p ex in
    let f = eqb-true y a ey in
    let i : 4 * x + y ≡ 4 * p + a = omega arith in
    ap (λ k. bit (get_or (with_bit ms p a r) k 0) z) i
    ∙ ap (λ w. bit w z) (get_or-set_same ms (4 * p + a) _ 0 long)
    ∙ bit-bit_or (get_or ms (4 * p + a) 0) r z lr lz
    ∙ ap (λ k. eqb z r || bit (get_or ms k 0) z) (sym i)
word_with ms p a r x y z true false ex ey long la ly lr lz =
    let e = eqb-true x p ex in
    let f = eqb-false y a ey in
    let i : 4 * x + y ≢ 4 * p + a = λ q. f (omega arith) in
    ap (λ w. bit w z) (get_or-set_other ms (4 * p + a) (4 * x + y) _ 0 i)
word_with ms p a r x y z false by ex ey long la ly lr lz =
    let e = eqb-false x p ex in
    let i : 4 * x + y ≢ 4 * p + a = λ q. e (omega arith) in
    ap (λ w. bit w z) (get_or-set_other ms (4 * p + a) (4 * x + y) _ 0 i)

off : (b c d : Bool) → (b ≡ false) ⊎ ((c ≡ false) ⊎ (d ≡ false)) → (b && (c && d)) ≡ false
off false c d h = refl
off true false d h = refl
off true true false h = refl
off true true true (inl e) = e
off true true true (inr (inl e)) = e
off true true true (inr (inr e)) = e

may_with : (ms : List ℕ) (m n p a r x y z : ℕ) (bx by bz : Bool) → ltb x m ≡ bx → ltb y n ≡ by → ltb z m ≡ bz → 4 * p + a < length ms → p < m → a < n → r < m → m ≤ 8 → n ≤ 4 → (bx && (by && (bz && bit (get_or (with_bit ms p a r) (4 * x + y) 0) z))) ≡ ((eqb x p && (eqb y a && eqb z r)) || (bx && (by && (bz && bit (get_or ms (4 * x + y) 0) z))))
may_with ms m n p a r x y z true true true ex ey ez long lp la lr lm ln =
    let ly = ltb-true y n ey in
    let lz = ltb-true z m ez in
    word_with ms p a r x y z (eqb x p) (eqb y a) refl refl long (omega arith) (omega arith) (omega arith) (omega arith)
may_with ms m n p a r x y z true true false ex ey ez long lp la lr lm ln =
    let g = ltb-false z m ez in
    sym (ap (λ b. b || false) (off (eqb x p) (eqb y a) (eqb z r) (inr (inr (ne_eqb z r (λ q. omega arith))))))
may_with ms m n p a r x y z true false bz ex ey ez long lp la lr lm ln =
    let g = ltb-false y n ey in
    sym (ap (λ b. b || false) (off (eqb x p) (eqb y a) (eqb z r) (inr (inl (ne_eqb y a (λ q. omega arith))))))
may_with ms m n p a r x y z false by bz ex ey ez long lp la lr lm ln =
    let g = ltb-false x m ex in
    sym (ap (λ b. b || false) (off (eqb x p) (eqb y a) (eqb z r) (inl (ne_eqb x p (λ q. omega arith)))))

-- a row whose word of (p, a) is v
abbrev pub changed : ConnectiveRow → ℕ → ℕ → ConnectiveRow
changed row w v = record row { moves = set row.moves w v }

pub row_with : (row : ConnectiveRow) (p a r : ℕ) → 4 * p + a < length row.moves → p < row.states → a < row.letters → r < row.states → connective_of (changed row (4 * p + a) (bit_or (get_or row.moves (4 * p + a) 0) (2 ^ r))) ≡ moving p a r (connective_of row)
row_with row p a r long lp la lr =
    let F : (ℕ → ℕ → ℕ → Bool) → Connective = λ may. record { states = row.states; letters = row.letters; start = row.start; finals = row.finals; may = may } in
    ap F (fun_ext (λ x. fun_ext (λ y. fun_ext (λ z. may_with row.moves row.states row.letters p a r x y z _ _ _ refl refl refl long lp la lr row.few_states row.few_letters))))

-- the latest row in use, replaced by one with one more transition
pub latest_with : (rows : List ConnectiveRow) (used p a r : ℕ) (row : ConnectiveRow) → 0 < used → used ≤ length rows → connective_of row ≡ moving p a r (connective_of (get_or rows (used - 1) no_row)) → connectives_of (set rows (used - 1) row) used ≡ set (connectives_of rows used) (used - 1) (moving p a r (connective_at (connectives_of rows used) (used - 1)))
latest_with rows used p a r row some few e =
    let n = length-take-le used rows few in
    let at : connective_at (connectives_of rows used) (used - 1) ≡ connective_of (get_or rows (used - 1) no_row) =
    get_or-map connective_of (take used rows) (used - 1) no_row (idle 0 0 0 0) (omega arith) ∙ ap connective_of (get_or-take used rows (used - 1) no_row (omega arith)) in
    rows_set connective_of used rows (used - 1) row (omega arith) ∙ ap (set (connectives_of rows used) (used - 1)) (e ∙ ap (moving p a r) (sym at))
