-- Reading answers exactly what decides about a text.
use Rattle.std.proofs.Common.{◌≡◌, ℕ, suc, ◌+◌, ◌<◌, ◌≤◌, Bool, true, false, cond, leb, List, [], ◌∷◌, ◌++◌, length, Ok, Err, Result, sym, refl, ap, ◌∙◌, subst, arith}
use Rattle.std.proofs.lemmas.Bool.{both_ways, cond-true, cond-false, leb-true, leb-false, le-leb, lt-leb}
use Rattle.frames.specs.declared.faults.Refusal.{Refusal}
use Rattle.frames.specs.declared.faults.Refusal.TheVariants.{Order, Limit}
use Rattle.frames.specs.Frames.{Frame, frame_of_line}
use Rattle.frames.specs.Frames.Frame.{connective, transition, node, end}
use Rattle.frames.specs.Lines.{cut}
use Rattle.language.specs.Properties.{Property}
use Rattle.language.specs.Reading.{Draft, blank, extended, finished, judged, lines_read, property, read}
use Rattle.language.specs.Laws.{Decided, Taken}
use Rattle.language.specs.Laws.Decided.{too_long, faulty, unclosed, endless, whole}
use Rattle.language.specs.Laws.Taken.{none, more}
use Rattle.language.proofs.Lines.{Run, ended_out_of_order, led_all, led_fault, run, taken_more, took}
use Rattle.language.proofs.Lines.Run.{stopped, through}

-- The last line is the end.
data Last (n : ℕ) (d : Draft) (lines : List (List ℕ)) (f : Draft) : Type 0 where
  last :
      (before : List (List ℕ)) (line : List ℕ) (e : Draft) →
      lines ≡ before ++ line ∷ [] →
      Taken n d before e →
      frame_of_line (n + length before) line ≡ Ok end →
      judged (n + length before) e line ≡ Ok f →
      Last n d lines f

-- only the end ends a draft
the_end : (d : Draft) (f : Frame) → d.ended ≡ false → (extended d f).ended ≡ true → f ≡ end
the_end d (connective m n q f) going shut = absurd (both_ways _ going shut)
the_end d (transition p a r) going shut = absurd (both_ways _ going shut)
the_end d (node n) going shut = absurd (both_ways _ going shut)
the_end d end going shut = refl

end_line : (n : ℕ) (d e : Draft) (line : List ℕ) → d.ended ≡ false → e.ended ≡ true → judged n d line ≡ Ok e → frame_of_line n line ≡ Ok end
end_line n d e line going shut j =
    let t = took n d e line j in
    let f : t.frame ≡ end = the_end d t.frame going (sym (ap (λ x. x.ended) t.to) ∙ shut) in
    t.is ∙ ap (λ x. Ok x) f

last_onto : (n : ℕ) (d e f : Draft) (line : List ℕ) (lines : List (List ℕ)) → judged n d line ≡ Ok e → Last (suc n) e lines f → Last n d (line ∷ lines) f
last_onto n d e f line lines j (last before ending g s t is h) =
    let k : suc n + length before ≡ n + length (line ∷ before) = omega arith in
    last (line ∷ before) ending g (ap (λ ls. line ∷ ls) s) (more n d e g line before j t) (subst (λ i. frame_of_line i ending ≡ Ok end) k is) (subst (λ i. judged i g ending ≡ Ok f) k h)

-- an ended draft takes no line
last_here : (n : ℕ) (d : Draft) {m : ℕ} {e f : Draft} {lines : List (List ℕ)} (line : List ℕ) → d.ended ≡ false → e.ended ≡ true → judged n d line ≡ Ok e → Taken m e lines f → Last n d (line ∷ lines) f
last_here n d line going shut j (none m e) =
    let k : n ≡ n + 0 = omega arith in
    last [] line d refl (none n d) (subst (λ i. frame_of_line i line ≡ Ok end) k (end_line n d e line going shut j)) (subst (λ i. judged i d line ≡ Ok e) k j)
last_here n d line going shut j (more m e g f second lines i t) =
    let w = took m e g second i in
    absurd (both_ways _ (ended_out_of_order e w.frame shut) w.order)

last_by : (n : ℕ) (d e f : Draft) (line : List ℕ) (lines : List (List ℕ)) → d.ended ≡ false → judged n d line ≡ Ok e → Taken (suc n) e lines f → (e.ended ≡ false → Last (suc n) e lines f) → (b : Bool) → e.ended ≡ b → Last n d (line ∷ lines) f
last_by n d e f line lines going j t later true shut = last_here n d line going shut j t
last_by n d e f line lines going j t later false still = last_onto n d e f line lines j (later still)

ending : {n : ℕ} {d f : Draft} {lines : List (List ℕ)} → Taken n d lines f → d.ended ≡ false → f.ended ≡ true → Last n d lines f
ending (none n d) going shut = absurd (both_ways _ going shut)
ending (more n d e f line lines j t) going shut = last_by n d e f line lines going j t (λ still. ending t still shut) e.ended refl

-- the end stands last
wholly : (text : List ℕ) (e : Draft) → length text ≤ 65536 → (cut text).rest ≡ [] → Last 1 blank (cut text).lines e → Decided text (Ok (property e))
wholly text e h r (last before line d s t is j) = whole before line d e h s r t is j

finished_by : (text : List ℕ) (e : Draft) → length text ≤ 65536 → Taken 1 blank (cut text).lines e → (cut text).rest ≡ [] → (b : Bool) → e.ended ≡ b → Decided text (cond b (Ok (property e)) (Err (Order (1 + length (cut text).lines))))
finished_by text e h t r true shut = wholly text e h r (ending t refl shut)
finished_by text e h t r false going = endless e h t r going

finished_decides : (text : List ℕ) (e : Draft) (rest : List ℕ) → length text ≤ 65536 → Taken 1 blank (cut text).lines e → (cut text).rest ≡ rest → Decided text (finished (1 + length (cut text).lines) e rest)
finished_decides text e [] h t r = finished_by text e h t r e.ended refl
finished_decides text e (b ∷ rest) h t r = let l = ap length r in unclosed e h t (omega arith)

run_decides : (text : List ℕ) → length text ≤ 65536 → Run 1 blank (cut text).lines → Decided text (lines_read 1 blank (cut text).lines (cut text).rest)
run_decides text h (stopped before after line d r s t j) =
    let v : lines_read 1 blank (cut text).lines (cut text).rest ≡ Err r = ap (λ ls. lines_read 1 blank ls (cut text).rest) s ∙ led_fault line after (cut text).rest r t j in
    subst (λ x. Decided text x) (sym v) (faulty before after line d r h s t j)
run_decides text h (through e t) =
    subst (λ x. Decided text x) (sym (led_all (cut text).rest t)) (finished_decides text e (cut text).rest h t refl)

decides_by : (text : List ℕ) (b : Bool) → leb (length text) 65536 ≡ b → Decided text (cond b (lines_read 1 blank (cut text).lines (cut text).rest) (Err (Limit 0)))
decides_by text true h = run_decides text (leb-true _ _ h) (run 1 blank (cut text).lines)
decides_by text false h = too_long (leb-false _ _ h)

pub decides : (text : List ℕ) → Decided text (read text)
decides text = decides_by text (leb (length text) 65536) refl

-- a text that is not too long is read by its lines
by_lines : (text : List ℕ) → length text ≤ 65536 → read text ≡ lines_read 1 blank (cut text).lines (cut text).rest
by_lines text h = cond-true _ _ _ (le-leb (length text) 65536 h)

unclosed_finish : (n : ℕ) (d : Draft) (rest : List ℕ) → 0 < length rest → finished n d rest ≡ finished n d (0 ∷ [])
unclosed_finish n d [] h = absurd (omega arith)
unclosed_finish n d (b ∷ rest) h = refl

-- the end ends a draft
pub end_shuts : (n : ℕ) (d e : Draft) (line : List ℕ) → frame_of_line n line ≡ Ok end → judged n d line ≡ Ok e → e.ended ≡ true
end_shuts n d e line is j =
    let t = took n d e line j in
    let s = t.is in
    let f : t.frame ≡ end = cc in
    ap (λ x. x.ended) (t.to ∙ ap (extended d) f)

pub only : (text : List ℕ) {r : Result Property Refusal} → Decided text r → read text ≡ r
only text (too_long h) = cond-false _ _ _ (lt-leb (length text) 65536 h)
only text (faulty before after line d r h s t j) =
    by_lines text h ∙ ap (λ ls. lines_read 1 blank ls (cut text).rest) s ∙ led_fault line after (cut text).rest r t j
only text (unclosed d h t l) = by_lines text h ∙ led_all (cut text).rest t ∙ unclosed_finish _ d (cut text).rest l
only text (endless d h t r going) =
    by_lines text h ∙ led_all (cut text).rest t ∙ ap (finished (1 + length (cut text).lines) d) r ∙ cond-false _ _ _ going
only text (whole before line d e h s r t is j) =
    let m = taken_more line e t j in
    by_lines text h ∙ ap (λ ls. lines_read 1 blank ls (cut text).rest) s ∙ led_all (cut text).rest m ∙ ap (finished (1 + length (before ++ line ∷ [])) e) r ∙ cond-true _ _ _ (end_shuts (1 + length before) d e line is j)
