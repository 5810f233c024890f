-- What rows show of a draft, and the four ways a frame can be judged.
use Rattle.std.proofs.Common.{◌≡◌, ℕ, zero, suc, ◌+◌, ◌-◌, ◌*◌, ◌%◌, ◌^◌, ◌<◌, ◌≤◌, Bool, true, false, not, ◌&&◌, eqb, ltb, leb, ◌⊎◌, List, [], ◌∷◌, ◌++◌, length, get_or, take, replicate, Ok, Err, sym, refl, ap, ◌∙◌, ap₂, inl, inr, ⊎_elim, arith}
use mathlib.Core.Path.{fun_ext}
use native.Mathlib.Nat.{zero-div}
use Rattle.std.proofs.lemmas.List.{get_or_default, get_or-map, get_or_past, get_or-take, length-map, length-take-le}
use Rattle.std.proofs.lemmas.Bool.{and_from, and_left, and_right, cases_lt, cond-false, cond-true, eq-eqb, le-leb, le-ltb, lt-ltb, ne_eqb, not_from_false, not_from_true}
use Rattle.frames.specs.declared.faults.Refusal.TheVariants.{Order, Value, Limit}
use Rattle.frames.specs.Frames.{Frame, Node}
use Rattle.frames.specs.Frames.Node.{apply}
use Rattle.frames.specs.Frames.Frame.{connective, transition, node, end}
use Rattle.masks.specs.Masks.{bit}
use Rattle.language.specs.Properties.{Connective, Property, all_below, connective_at, idle, node_fits, node_width, width, WellFormed}
use Rattle.language.specs.Reading.{Draft, extended, in_order, in_range, is_empty, latest, taken, within_limits}
use Rattle.properties.specs.declared.drafts.Draft.TheVariants.{Open, Ended}
use Rattle.properties.specs.declared.arrays.Rows.{Rows}
use Rattle.properties.specs.declared.rows.Connective.{Connective as ConnectiveRow}
use Rattle.properties.specs.Meaning.{of_draft, of_rows}
use Rattle.properties.specs.Views.{connective_of, fits, no_row, node_of}
use Rattle.properties.proofs.Growing.{width_push}

pub order_fault : (n : ℕ) (d : Draft) (f : Frame) → in_order d f ≡ false → Err (Order n) ≡ taken n d f
order_fault n d f o = sym (cond-false (in_order d f) _ _ o)

pub value_fault : (n : ℕ) (d : Draft) (f : Frame) → in_order d f ≡ true → in_range d f ≡ false → Err (Value n) ≡ taken n d f
value_fault n d f o r = sym (cond-true (in_order d f) _ _ o ∙ cond-false (in_range d f) _ _ r)

pub limit_fault : (n : ℕ) (d : Draft) (f : Frame) → in_order d f ≡ true → in_range d f ≡ true → within_limits d f ≡ false → Err (Limit n) ≡ taken n d f
limit_fault n d f o r l = sym (cond-true (in_order d f) _ _ o ∙ cond-true (in_range d f) _ _ r ∙ cond-false (within_limits d f) _ _ l)

pub accepted : (n : ℕ) (d : Draft) (f : Frame) (e : Draft) → in_order d f ≡ true → in_range d f ≡ true → within_limits d f ≡ true → e ≡ extended d f → Ok e ≡ taken n d f
accepted n d f e o r l is = ap Ok is ∙ sym (cond-true (in_order d f) _ _ o ∙ cond-true (in_range d f) _ _ r ∙ cond-true (within_limits d f) _ _ l)

empty_from : {A : Type 0} (xs : List A) → length xs ≡ 0 → is_empty xs ≡ true
empty_from [] e = refl
empty_from (x ∷ xs) e = absurd (omega arith)

filled_from : {A : Type 0} (xs : List A) → 0 < length xs → is_empty xs ≡ false
filled_from [] lt = absurd (omega arith)
filled_from (x ∷ xs) lt = refl

pub length_nodes : (r : Rows) → length (of_rows r).nodes ≡ r.count
length_nodes r = length-map (take r.count r.nodes) node_of ∙ length-take-le r.count r.nodes (omega (arith, r.many, r.few_nodes))

pub length_connectives : (r : Rows) → length (of_rows r).connectives ≡ r.used
length_connectives r = length-map (take r.used r.connectives) connective_of ∙ length-take-le r.used r.connectives (omega (arith, r.four, r.few_connectives))

pub no_nodes : (r : Rows) → r.count ≡ 0 → is_empty (of_rows r).nodes ≡ true
no_nodes r e = empty_from (of_rows r).nodes (length_nodes r ∙ e)

pub some_nodes : (r : Rows) → 0 < r.count → is_empty (of_rows r).nodes ≡ false
some_nodes r lt = let n = length_nodes r in filled_from (of_rows r).nodes (omega arith)

pub no_connectives : (r : Rows) → r.used ≡ 0 → is_empty (of_rows r).connectives ≡ true
no_connectives r e = empty_from (of_rows r).connectives (length_connectives r ∙ e)

pub some_connectives : (r : Rows) → 0 < r.used → is_empty (of_rows r).connectives ≡ false
some_connectives r lt = let n = length_connectives r in filled_from (of_rows r).connectives (omega arith)

-- a connective in use
pub connective_in : (r : Rows) (c : ℕ) → c < r.used → connective_at (of_rows r).connectives c ≡ connective_of (get_or r.connectives c no_row)
connective_in r c lt =
    let n = length-take-le r.used r.connectives (omega (arith, r.four, r.few_connectives)) in
    get_or-map connective_of (take r.used r.connectives) c no_row (idle 0 0 0 0) (omega arith) ∙ ap connective_of (get_or-take r.used r.connectives c no_row lt)

-- the same, as the code reads it
pub connective_read : (r : Rows) (c : ℕ) (row : ConnectiveRow) → c < r.used → connective_at (of_rows r).connectives c ≡ connective_of (get_or r.connectives c row)
connective_read r c row lt = connective_in r c lt ∙ ap connective_of (get_or_default r.connectives c no_row row (omega (arith, r.four, r.few_connectives)))

-- and one that is not
pub connective_out : (r : Rows) (c : ℕ) → r.used ≤ c → connective_at (of_rows r).connectives c ≡ idle 0 0 0 0
connective_out r c le = let n = length_connectives r in get_or_past (of_rows r).connectives c (idle 0 0 0 0) (omega arith)

-- a connective node: its connective does not exist, has another number of letters, or takes the operands
pub applies_out : (r : Rows) (c k : ℕ) (is : List ℕ) → r.used ≤ c → false ≡ node_fits (of_rows r).connectives k (apply c is)
applies_out r c k is le = let n = length_connectives r in sym (and_left _ _ (le-ltb c (length (of_rows r).connectives) (omega arith)))

applies_in : (r : Rows) (c k : ℕ) (is : List ℕ) → c < r.used → node_fits (of_rows r).connectives k (apply c is) ≡ (eqb (length is) (get_or r.connectives c no_row).letters && all_below k is)
applies_in r c k is lt =
    let n = length_connectives r in
    ap (λ b. b && (eqb (length is) (connective_at (of_rows r).connectives c).letters && all_below k is)) (lt-ltb c (length (of_rows r).connectives) (omega arith))
    ∙ ap (λ (x : Connective). eqb (length is) x.letters && all_below k is) (connective_in r c lt)

pub applies_other : (r : Rows) (c k : ℕ) (is : List ℕ) → c < r.used → (length is ≡ (get_or r.connectives c no_row).letters → ⊥) → false ≡ node_fits (of_rows r).connectives k (apply c is)
applies_other r c k is lt ne = sym (applies_in r c k is lt ∙ and_left _ _ (ne_eqb _ _ ne))

pub applies_by : (r : Rows) (c k : ℕ) (is : List ℕ) (b : Bool) → c < r.used → length is ≡ (get_or r.connectives c no_row).letters → b ≡ all_below k is → b ≡ node_fits (of_rows r).connectives k (apply c is)
applies_by r c k is b lt e h = h ∙ sym (applies_in r c k is lt ∙ ap (λ t. t && all_below k is) (eq-eqb _ _ e))

zero_word : (n i : ℕ) → ◌≡◌ {A = ℕ} (get_or (replicate n 0) i 0) 0
zero_word zero i = refl
zero_word (suc n) zero = refl
zero_word (suc n) (suc i) = zero_word n i

and_never : (b c d e : Bool) → e ≡ false → (b && (c && (d && e))) ≡ false
and_never true true true e h = h
and_never true true false e h = refl
and_never true false d e h = refl
and_never false c d e h = refl

-- a row without transitions
pub idle_row : (m n q f : ℕ) → ◌≡◌ {A = Connective} (record { states = m; letters = n; start = q; finals = f; may = λ p a r. ltb p m && (ltb a n && (ltb r m && bit (get_or (replicate 32 0) (4 * p + a) 0) r)) }) (idle m n q f)
idle_row m n q f =
    let F : (ℕ → ℕ → ℕ → Bool) → Connective = λ may. record { states = m; letters = n; start = q; finals = f; may = may } in
    let clear : (i r : ℕ) → bit (get_or (replicate 32 0) i 0) r ≡ false = λ i r. ap (λ w. bit w r) (zero_word 32 i) ∙ ap (λ v. eqb (v % 2) 1) (zero-div (2 ^ r)) in
    ap F (fun_ext (λ p. fun_ext (λ a. fun_ext (λ r. and_never (ltb p m) (ltb a n) (ltb r m) (bit (get_or (replicate 32 0) (4 * p + a) 0) r) (clear (4 * p + a) r)))))

-- an open draft whose rows are known
pub draft_with : (rows : Rows) (p : Property) → of_rows rows ≡ p → of_draft (Open rows) ≡ record { connectives = p.connectives; nodes = p.nodes; ended = false }
draft_with rows p is = ap (λ (x : Property). record { connectives = x.connectives; nodes = x.nodes; ended = false }) is

-- nothing stands after the end
pub ended_late : (n : ℕ) (r : Rows) (f : Frame) → Err (Order n) ≡ taken n (of_draft (Ended r)) f
ended_late n r (connective states letters start finals) = refl
ended_late n r (transition p a q) = refl
ended_late n r (node x) = refl
ended_late n r end = refl

-- the order of a transition, by the rows
pub move_order : (r : Rows) → r.count ≤ 0 → (r.used ≡ 0 → ⊥) → (is_empty (of_rows r).nodes && not (is_empty (of_rows r).connectives)) ≡ true
move_order r le ne = and_from _ _ (no_nodes r (omega arith)) (not_from_false _ (some_connectives r (omega arith)))

pub move_late : (r : Rows) → 0 < r.count → (is_empty (of_rows r).nodes && not (is_empty (of_rows r).connectives)) ≡ false
move_late r lt = and_left _ _ (some_nodes r lt)

pub move_early : (r : Rows) → r.used ≡ 0 → (is_empty (of_rows r).nodes && not (is_empty (of_rows r).connectives)) ≡ false
move_early r e = and_right (is_empty (of_rows r).nodes) (not (is_empty (of_rows r).connectives)) (not_from_true _ (no_connectives r e))

-- the row of the latest connective, as the code reads it
pub latest_at : (r : Rows) (row : ConnectiveRow) → (r.used ≡ 0 → ⊥) → get_or r.connectives (r.used - 1) row ≡ get_or r.connectives (r.used - 1) no_row
latest_at r row ne = get_or_default r.connectives (r.used - 1) row no_row (omega (arith, r.four, r.few_connectives))

-- the latest connective, by the rows
pub latest_row : (r : Rows) → (r.used ≡ 0 → ⊥) → latest (of_rows r).connectives ≡ connective_of (get_or r.connectives (r.used - 1) no_row)
latest_row r ne = ap (λ n. connective_at (of_rows r).connectives (n - 1)) (length_connectives r) ∙ connective_in r (r.used - 1) (omega arith)

move_range : (r : Rows) → (r.used ≡ 0 → ⊥) → (p a q : ℕ) → (ltb p (latest (of_rows r).connectives).states && (ltb a (latest (of_rows r).connectives).letters && ltb q (latest (of_rows r).connectives).states)) ≡ (ltb p (get_or r.connectives (r.used - 1) no_row).states && (ltb a (get_or r.connectives (r.used - 1) no_row).letters && ltb q (get_or r.connectives (r.used - 1) no_row).states))
move_range r ne p a q = ap (λ (c : Connective). ltb p c.states && (ltb a c.letters && ltb q c.states)) (latest_row r ne)

pub move_in : (r : Rows) → (r.used ≡ 0 → ⊥) → (p a q : ℕ) → p < (get_or r.connectives (r.used - 1) no_row).states → a < (get_or r.connectives (r.used - 1) no_row).letters → q < (get_or r.connectives (r.used - 1) no_row).states → (ltb p (latest (of_rows r).connectives).states && (ltb a (latest (of_rows r).connectives).letters && ltb q (latest (of_rows r).connectives).states)) ≡ true
move_in r ne p a q lp la lq = move_range r ne p a q ∙ and_from _ _ (lt-ltb _ _ lp) (and_from _ _ (lt-ltb _ _ la) (lt-ltb _ _ lq))

pub move_out : (r : Rows) → (r.used ≡ 0 → ⊥) → (p a q : ℕ) → ((get_or r.connectives (r.used - 1) no_row).states ≤ p) ⊎ (((get_or r.connectives (r.used - 1) no_row).letters ≤ a) ⊎ ((get_or r.connectives (r.used - 1) no_row).states ≤ q)) → (ltb p (latest (of_rows r).connectives).states && (ltb a (latest (of_rows r).connectives).letters && ltb q (latest (of_rows r).connectives).states)) ≡ false
move_out r ne p a q (inl h) = move_range r ne p a q ∙ and_left _ _ (le-ltb _ _ h)
move_out r ne p a q (inr (inl h)) = move_range r ne p a q ∙ and_right _ _ (and_left _ _ (le-ltb _ _ h))
move_out r ne p a q (inr (inr h)) =
    let row = get_or r.connectives (r.used - 1) no_row in
    move_range r ne p a q
    ∙ and_right (ltb p row.states) (ltb a row.letters && ltb q row.states) (and_right (ltb a row.letters) (ltb q row.states) (le-ltb _ _ h))

-- the limits of a node, by the rows
pub node_limits : (r : Rows) (n : Node) (w : ℕ) → w ≡ r.width + node_width (of_rows r).connectives n → (ltb (length (of_rows r).nodes) 32 && leb (width (of_rows r).connectives ((of_rows r).nodes ++ n ∷ [])) 12) ≡ (ltb r.count 32 && leb w 12)
node_limits r n w e =
    ap₂ (λ (k v : ℕ). ltb k 32 && leb v 12) (length_nodes r)
    (width_push (of_rows r).connectives (of_rows r).nodes n ∙ ap (λ v. v + node_width (of_rows r).connectives n) (sym r.wide) ∙ sym e)

-- no connective has more than four letters
pub crowded : (r : Rows) (c k : ℕ) (is : List ℕ) → 4 < length is → false ≡ node_fits (of_rows r).connectives k (apply c is)
crowded r c k is lt = ⊎_elim
    (λ l. applies_other r c k is l (λ e. let f = (get_or r.connectives c no_row).few_letters in omega arith))
    (λ g. applies_out r c k is g)
    (cases_lt c r.used)

-- the operands of a node, by the rows
pub node_range : (r : Rows) (n : Node) (b : Bool) → b ≡ node_fits (of_rows r).connectives r.count n → node_fits (of_rows r).connectives (length (of_rows r).nodes) n ≡ b
node_range r n b e = ap (λ k. node_fits (of_rows r).connectives k n) (length_nodes r) ∙ sym e

-- rows that stand for a well-formed property may be stored
pub may_store : (r : Rows) → WellFormed (of_rows r) → fits r.connectives r.used r.nodes r.count ≡ true
may_store r w =
    let n = length_nodes r in
    let some = w.rooted in
    and_from _ _ w.connectives_fit (and_from _ _ (le-leb 1 r.count (omega arith)) w.operands_lower)
