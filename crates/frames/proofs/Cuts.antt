-- Laws of the lines that a text is cut into.
use Rattle.std.proofs.Common.{◌≡◌, ℕ, zero, suc, ◌+◌, ◌-◌, ◌<◌, ◌≤◌, Bool, true, false, cond, eqb, List, [], ◌∷◌, length, get_or, take, drop, Ok, Err, None, Some, sym, refl, ap, ◌∙◌, arith}
use Rattle.std.proofs.lemmas.Bool.{cond-true, cond-false, eq-eqb, eqb-false, eqb-true, ltb-false, ne_eqb}
use Rattle.std.proofs.lemmas.List.{length-drop, get_or-drop}
use Rattle.std.proofs.lemmas.List.Sums.{fails_before_first}
use Rattle.std.specs.List.{position}
use Rattle.std.proofs.lemmas.List.Quantifiers.{position-Some}
use Rattle.frames.specs.declared.faults.LineFault.TheVariants.{Digits, Unclosed}
use Rattle.frames.specs.Lines.{Text, cut, first_line, line_of, onto, proper}

-- a text whose first 0A stands at k: the line before it, and the lines of what comes after
pub cut_at : (text : List ℕ) (k : ℕ) → k < length text → get_or text k 0 ≡ 10 → ((j : ℕ) → j < k → get_or text j 0 ≡ 10 → ⊥) → cut text ≡ record { lines = take k text ∷ (cut (drop (suc k) text)).lines; rest = (cut (drop (suc k) text)).rest }
cut_at [] k l e free = absurd (omega arith)
cut_at (b ∷ text) zero l e free = let t = eq-eqb b 10 e in rw t refl
cut_at (b ∷ text) (suc k) l e free =
    let t = ne_eqb b 10 (free 0 (omega arith)) in
    let r = cut_at text k (omega arith) e (λ j lt. free (suc j) (omega arith)) in
    rw (t, r) refl

-- a text without a 0A is all rest
pub cut_none : (text : List ℕ) → ((j : ℕ) → j < length text → get_or text j 0 ≡ 10 → ⊥) → cut text ≡ record { lines = []; rest = text }
cut_none [] free = refl
cut_none (b ∷ text) free =
    let t = ne_eqb b 10 (free 0 (omega arith)) in
    let r = cut_none text (λ j lt. free (suc j) (omega arith)) in
    rw (t, r) refl

-- the first 0A from `at` on stands at e
pub record Ends (text : List ℕ) (at e : ℕ) : Type 0 where
  pub from : at ≤ e
  pub within : e < length text
  pub closed : get_or text e 0 ≡ 10
  pub free : (k : ℕ) → at ≤ k → k < e → get_or text k 0 ≡ 10 → ⊥

-- then the bytes up to it are the first line of what begins at `at`
pub lines_at : (text : List ℕ) (at e : ℕ) → Ends text at e → (cut (drop at text)).lines ≡ take (e - at) (drop at text) ∷ (cut (drop (suc (e - at)) (drop at text))).lines
lines_at text at e h =
    let f = h.from in
    let w = h.within in
    let g : at + (e - at) ≡ e = omega arith in
    let long : e - at < length (drop at text) = simp length-drop (omega arith) in
    let shut : get_or (drop at text) (e - at) 0 ≡ 10 = get_or-drop at text (e - at) 0 ∙ ap (λ i. get_or text i 0) g ∙ h.closed in
    let clear : (j : ℕ) → j < e - at → get_or (drop at text) j 0 ≡ 10 → ⊥ = λ j lt is. h.free (at + j) (omega arith) (omega arith) (sym (get_or-drop at text j 0) ∙ is) in
    ap (λ t. t.lines) (cut_at (drop at text) (e - at) long shut clear)

-- a text whose first 0A the library's `position` finds at k: the bytes before it are the first line
pub line_closed : (n : ℕ) (text : List ℕ) (k : ℕ) → position (λ b. eqb b 10) text ≡ Some k → first_line n text ≡ cond (proper (take k text)) (Ok (take k text)) (Err (Digits n))
line_closed n text k e =
    let h = position-Some (λ b. eqb b 10) text k 0 e in
    ap (λ t. line_of n t.lines) (cut_at text k h.0 (eqb-true _ _ h.1) (λ j lt. eqb-false _ _ (h.2 j lt)))

absent : (t : Bool) (k : ℕ) → cond t (Some k) None ≡ None → t ≡ false
absent true k e = cc
absent false k e = refl

-- where it finds none, the text has no line
pub line_open : (n : ℕ) (text : List ℕ) → position (λ b. eqb b 10) text ≡ None → first_line n text ≡ Err (Unclosed n)
line_open n text e =
    let past = ltb-false _ _ (absent _ _ e) in
    ap (λ t. line_of n t.lines) (cut_none text (λ j lt. eqb-false _ _ (fails_before_first (λ b. eqb b 10) text j 0 (omega arith))))

onto_lines : (b : ℕ) (ls : List (List ℕ)) (r : List ℕ) (line : List ℕ) (lines : List (List ℕ)) → (onto b ls r).lines ≡ line ∷ lines → (l : List ℕ) × (ls ≡ l ∷ lines) × (line ≡ b ∷ l) × ((onto b ls r).rest ≡ r)
onto_lines b [] r line lines e = let z : ◌≡◌ {A = ℕ} 0 1 = cc in absurd (omega arith)
onto_lines b (l ∷ ls) r line lines e = (l, (cc), (cc), refl)

-- after its first line a text has the other lines and the same rest
pub record Beyond (text line : List ℕ) (lines : List (List ℕ)) : Type 0 where
  pub within : length line + 1 ≤ length text
  pub others : (cut (drop (length line + 1) text)).lines ≡ lines
  pub same : (cut (drop (length line + 1) text)).rest ≡ (cut text).rest

beyond_byte : (b : ℕ) (text : List ℕ) (t : Bool) → eqb b 10 ≡ t → ((line : List ℕ) (lines : List (List ℕ)) → (cut text).lines ≡ line ∷ lines → Beyond text line lines) → (line : List ℕ) (lines : List (List ℕ)) → (cond t (record { lines = [] ∷ (cut text).lines; rest = (cut text).rest }) (onto b (cut text).lines (cut text).rest)).lines ≡ line ∷ lines → Beyond (b ∷ text) line lines
beyond_byte b text true is h line lines e =
    let none : line ≡ [] = cc in
    let rest : (cut text).lines ≡ lines = cc in
    let l = ap length none in
    let n : length line + 1 ≡ suc 0 = omega arith in
    record {
      within = omega arith;
      others = ap (λ k. (cut (drop k (b ∷ text))).lines) n ∙ rest;
      same = ap (λ k. (cut (drop k (b ∷ text))).rest) n ∙ sym (ap (λ (t : Text). t.rest) (cond-true (eqb b 10) _ _ is));
    }
beyond_byte b text false is h line lines e =
    let o = onto_lines b (cut text).lines (cut text).rest line lines e in
    let deep = h o.0 lines o.1 in
    let l = ap length o.2 in
    let w = deep.within in
    let n : length line + 1 ≡ suc (length o.0 + 1) = omega arith in
    record {
      within = omega arith;
      others = ap (λ k. (cut (drop k (b ∷ text))).lines) n ∙ deep.others;
      same = ap (λ k. (cut (drop k (b ∷ text))).rest) n ∙ deep.same ∙ sym o.3 ∙ sym (ap (λ (t : Text). t.rest) (cond-false (eqb b 10) _ _ is));
    }

pub beyond : (text line : List ℕ) (lines : List (List ℕ)) → (cut text).lines ≡ line ∷ lines → Beyond text line lines
beyond [] line lines e = let z : ◌≡◌ {A = ℕ} 0 1 = cc in absurd (omega arith)
beyond (b ∷ text) line lines e = beyond_byte b text (eqb b 10) refl (beyond text) line lines e

-- a text without a line is all rest
rest_byte : (b : ℕ) (text : List ℕ) (t : Bool) → ((cut text).lines ≡ [] → (cut text).rest ≡ text) → (cond t (record { lines = [] ∷ (cut text).lines; rest = (cut text).rest }) (onto b (cut text).lines (cut text).rest)).lines ≡ [] → (cond t (record { lines = [] ∷ (cut text).lines; rest = (cut text).rest }) (onto b (cut text).lines (cut text).rest)).rest ≡ b ∷ text
rest_byte b text true h e = let z : ◌≡◌ {A = ℕ} 0 1 = cc in absurd (omega arith)
rest_byte b text false h e = rest_onto b text (cut text).lines (cut text).rest h e
  where
    rest_onto : (b : ℕ) (text : List ℕ) (ls : List (List ℕ)) (r : List ℕ) → (ls ≡ [] → r ≡ text) → (onto b ls r).lines ≡ [] → (onto b ls r).rest ≡ b ∷ text
    rest_onto b text [] r h e = ap (λ xs. b ∷ xs) (h refl)
    rest_onto b text (l ∷ ls) r h e = let z : ◌≡◌ {A = ℕ} 0 1 = cc in absurd (omega arith)

pub rest_all : (text : List ℕ) → (cut text).lines ≡ [] → (cut text).rest ≡ text
rest_all [] e = refl
rest_all (b ∷ text) e = rest_byte b text (eqb b 10) (rest_all text) e
