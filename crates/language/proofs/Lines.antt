-- What it takes for a line to be taken, and what becomes of lines that are.
use Rattle.std.proofs.Common.{◌≡◌, ℕ, suc, ◌+◌, Bool, true, false, cond, List, [], ◌∷◌, ◌++◌, length, Ok, Err, Result, refl, ap, ◌∙◌, subst, arith}
use Rattle.std.proofs.lemmas.Bool.{and_left, not_from_true}
use Rattle.frames.specs.declared.faults.FrameFault.{FrameFault}
use Rattle.frames.specs.declared.faults.Refusal.{Refusal}
use Rattle.frames.specs.declared.faults.Refusal.TheVariants.{Order, Value, Limit}
use Rattle.frames.specs.Frames.{Frame, frame_of_line}
use Rattle.frames.specs.Frames.Frame.{connective, transition, node, end}
use Rattle.language.specs.Reading.{Draft, extended, finished, in_order, in_range, judged, lines_read, onward, taken_frame, within_limits}
use Rattle.language.specs.Laws.{Taken}
use Rattle.language.specs.Laws.Taken.{none, more}

-- A line is taken: it is a frame that keeps to the order, the ranges and the limits, and the draft says it too
pub record Took (d : Draft) (found : Result Frame FrameFault) (e : Draft) : Type 0 where
  pub frame : Frame
  pub is : found ≡ Ok frame
  pub order : in_order d frame ≡ true
  pub range : in_range d frame ≡ true
  pub limits : within_limits d frame ≡ true
  pub to : e ≡ extended d frame

took_by : (n : ℕ) (d e : Draft) (f : Frame) (a b c : Bool) → in_order d f ≡ a → in_range d f ≡ b → within_limits d f ≡ c → cond a (cond b (cond c (Ok (extended d f)) (Err (Limit n))) (Err (Value n))) (Err (Order n)) ≡ Ok e → Took d (Ok f) e
took_by n d e f true true true o r l h = record { frame = f; is = refl; order = o; range = r; limits = l; to = cc }
took_by n d e f true true false o r l h = cc
took_by n d e f true false c o r l h = cc
took_by n d e f false b c o r l h = cc

took_frame : (n : ℕ) (d e : Draft) (found : Result Frame FrameFault) → taken_frame n d found ≡ Ok e → Took d found e
took_frame n d e (Ok f) h = took_by n d e f (in_order d f) (in_range d f) (within_limits d f) refl refl refl h
took_frame n d e (Err fault) h = cc

pub took : (n : ℕ) (d e : Draft) (line : List ℕ) → judged n d line ≡ Ok e → Took d (frame_of_line n line) e
took n d e line h = took_frame n d e (frame_of_line n line) h

-- nothing is in order after the end
pub ended_out_of_order : (d : Draft) (f : Frame) → d.ended ≡ true → in_order d f ≡ false
ended_out_of_order d (connective m n q f) h = and_left _ _ (not_from_true _ h)
ended_out_of_order d (transition p a r) h = and_left _ _ (not_from_true _ h)
ended_out_of_order d (node n) h = not_from_true _ h
ended_out_of_order d end h = and_left _ _ (not_from_true _ h)

-- lines that are taken lead on to the lines after them
pub led : {n : ℕ} {d e : Draft} {before : List (List ℕ)} (after : List (List ℕ)) (rest : List ℕ) → Taken n d before e → lines_read n d (before ++ after) rest ≡ lines_read (n + length before) e after rest
led after rest (none n d) = let k : n ≡ n + 0 = omega arith in ap (λ i. lines_read i d after rest) k
led after rest (more n d e f line lines j t) =
    let k : suc n + length lines ≡ n + length (line ∷ lines) = omega arith in
    ap (λ x. onward x (λ y. lines_read (suc n) y (lines ++ after) rest)) j ∙ led after rest t ∙ ap (λ i. lines_read i f after rest) k

-- where all lines are taken, what follows the last decides
pub led_all : {n : ℕ} {d e : Draft} {lines : List (List ℕ)} (rest : List ℕ) → Taken n d lines e → lines_read n d lines rest ≡ finished (n + length lines) e rest
led_all rest (none n d) = let k : n ≡ n + 0 = omega arith in ap (λ i. finished i d rest) k
led_all rest (more n d e f line lines j t) =
    let k : suc n + length lines ≡ n + length (line ∷ lines) = omega arith in
    ap (λ x. onward x (λ y. lines_read (suc n) y lines rest)) j ∙ led_all rest t ∙ ap (λ i. finished i f rest) k

-- where a line is refused, the refusal is the answer
pub led_fault : {n : ℕ} {d e : Draft} {before : List (List ℕ)} (line : List ℕ) (after : List (List ℕ)) (rest : List ℕ) (r : Refusal) → Taken n d before e → judged (n + length before) e line ≡ Err r → lines_read n d (before ++ line ∷ after) rest ≡ Err r
led_fault {n} {d} {e} {before} line after rest r t j = led (line ∷ after) rest t ∙ ap (λ x. onward x (λ y. lines_read (suc (n + length before)) y after rest)) j

-- one line more is taken
pub taken_more : {n : ℕ} {d e : Draft} {before : List (List ℕ)} (line : List ℕ) (f : Draft) → Taken n d before e → judged (n + length before) e line ≡ Ok f → Taken n d (before ++ line ∷ []) f
taken_more line f (none n d) j =
    let k : n + 0 ≡ n = omega arith in
    more n d f f line [] (subst (λ i. judged i d line ≡ Ok f) k j) (none (suc n) f)
taken_more line f (more n d e g first lines i t) j =
    let k : n + length (first ∷ lines) ≡ suc n + length lines = omega arith in
    more n d e f first (lines ++ line ∷ []) i (taken_more line f t (subst (λ i. judged i g line ≡ Ok f) k j))

-- Either a line is at fault, or all lines are taken.
pub data Run (n : ℕ) (d : Draft) (lines : List (List ℕ)) : Type 0 where
  stopped :
      (before after : List (List ℕ)) (line : List ℕ) (e : Draft) (r : Refusal) →
      lines ≡ before ++ line ∷ after →
      Taken n d before e →
      judged (n + length before) e line ≡ Err r →
      Run n d lines
  through : (e : Draft) → Taken n d lines e → Run n d lines

run_onto : (n : ℕ) (d e : Draft) (line : List ℕ) (lines : List (List ℕ)) → judged n d line ≡ Ok e → Run (suc n) e lines → Run n d (line ∷ lines)
run_onto n d e line lines j (stopped before after bad f r s t g) =
    let k : suc n + length before ≡ n + length (line ∷ before) = omega arith in
    stopped (line ∷ before) after bad f r (ap (λ ls. line ∷ ls) s) (more n d e f line before j t) (subst (λ i. judged i f bad ≡ Err r) k g)
run_onto n d e line lines j (through f t) = through f (more n d e f line lines j t)

run_by : (n : ℕ) (d : Draft) (line : List ℕ) (lines : List (List ℕ)) → ((e : Draft) → Run (suc n) e lines) → (r : Result Draft Refusal) → judged n d line ≡ r → Run n d (line ∷ lines)
run_by n d line lines next (Ok e) j = run_onto n d e line lines j (next e)
run_by n d line lines next (Err r) j =
    let k : n ≡ n + 0 = omega arith in
    stopped [] lines line d r refl (none n d) (subst (λ i. judged i d line ≡ Err r) k j)

pub run : (n : ℕ) (d : Draft) (lines : List (List ℕ)) → Run n d lines
run n d [] = through d (none n d)
run n d (line ∷ lines) = run_by n d line lines (λ e. run (suc n) e lines) (judged n d line) refl
