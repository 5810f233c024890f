-- Reading on from a line: what each way through the loop gives.
use Rattle.std.proofs.Common.{◌≡◌, ℕ, suc, ◌+◌, ◌<◌, ◌≤◌, leb, List, [], ◌∷◌, length, drop, Ok, Err, Result, sym, ap, ◌∙◌, subst, add-one, arith}
use Rattle.std.proofs.lemmas.List.{drop_all, drop-drop, length-drop}
use Rattle.std.proofs.lemmas.Bool.{cond-false, lt-leb}
use Rattle.frames.specs.declared.faults.FrameFault.{FrameFault}
use Rattle.frames.specs.declared.faults.Refusal.{Refusal}
use Rattle.frames.specs.declared.faults.Refusal.TheVariants.{Frame as Framed, Limit}
use Rattle.frames.specs.Frames.{Frame, first_frame}
use Rattle.frames.specs.Lines.{cut}
use Rattle.frames.proofs.Cuts.{rest_all}
use Rattle.frames.proofs.Framing.{Framed as Read, Faulty, faulty_first, framed_first}
use Rattle.frames.proofs.Framing.Faulty.{open_line, bad_line}
use Rattle.language.specs.Laws.{Decided}
use Rattle.language.specs.Properties.{Property}
use Rattle.language.specs.Reading.{Draft, finished, lines_read, onward, read, taken, taken_frame}
use Rattle.language.proofs.Deciding.{decides}
use Rattle.properties.specs.declared.drafts.Draft.{Draft as DraftRows}
use Rattle.properties.specs.Meaning.{of_draft}

pub decided_by : (text : List ℕ) (r : Result Property Refusal) → r ≡ read text → Decided text r
decided_by text r e = subst (Decided text) (sym e) (decides text)

pub too_long_read : (text : List ℕ) → 65536 < length text → Err (Limit 0) ≡ read text
too_long_read text lt = sym (cond-false (leb (length text) 65536) _ _ (lt-leb (length text) 65536 lt))

-- the text t, read on as line n from the draft d
abbrev pub read_on : ℕ → Draft → List ℕ → Result Property Refusal
read_on n d t = lines_read n d (cut t).lines (cut t).rest

first_step : (n : ℕ) (d : Draft) (t : List ℕ) (frame : Frame) (size : ℕ) (h : Read n t frame size) → read_on n d t ≡ onward (taken n d frame) (λ e. lines_read (suc n) e h.lines (cut t).rest)
first_step n d t frame size h =
    ap (λ ls. lines_read n d ls (cut t).rest) h.is
    ∙ ap (λ r. onward (taken_frame n d r) (λ e. lines_read (suc n) e h.lines (cut t).rest)) h.says

pub line_taken : (n at : ℕ) (d e : Draft) (text : List ℕ) (frame : Frame) (size : ℕ) → Ok (frame, size) ≡ first_frame n (drop at text) → Ok e ≡ taken n d frame → read_on n d (drop at text) ≡ read_on (n + 1) e (drop (at + size) text)
line_taken n at d e text frame size f t =
    let h = framed_first n (drop at text) frame size f in
    let past : drop (at + size) text ≡ drop (length h.line + 1) (drop at text) = sym (drop-drop size at text) ∙ ap (λ k. drop k (drop at text)) h.long in
    let lines : h.lines ≡ (cut (drop (at + size) text)).lines = sym (ap (λ u. (cut u).lines) past ∙ h.beyond.others) in
    let rest : (cut (drop at text)).rest ≡ (cut (drop (at + size) text)).rest = sym (ap (λ u. (cut u).rest) past ∙ h.beyond.same) in
    first_step n d (drop at text) frame size h
    ∙ ap (λ r. onward r (λ e. lines_read (suc n) e h.lines (cut (drop at text)).rest)) (sym t)
    ∙ ap (λ k. lines_read k e h.lines (cut (drop at text)).rest) (sym (add-one n))
    ∙ ap (λ ls. lines_read (n + 1) e ls (cut (drop at text)).rest) lines
    ∙ ap (λ r. lines_read (n + 1) e (cut (drop (at + size) text)).lines r) rest

-- how far a line leads
pub line_size : (n at : ℕ) (text : List ℕ) (frame : Frame) (size : ℕ) → at ≤ length text → Ok (frame, size) ≡ first_frame n (drop at text) → (0 < size) × (at + size ≤ length text)
line_size n at text frame size le f =
    let h = framed_first n (drop at text) frame size f in
    let l = h.long in
    let w = h.beyond.within in
    let m = length-drop at text in
    (omega arith, omega arith)

pub line_refused : (n : ℕ) (d : Draft) (t : List ℕ) (frame : Frame) (size : ℕ) (r : Refusal) → Ok (frame, size) ≡ first_frame n t → Err r ≡ taken n d frame → Err r ≡ read_on n d t
line_refused n d t frame size r f e =
    let h = framed_first n t frame size f in
    sym (first_step n d t frame size h ∙ ap (λ x. onward x (λ e. lines_read (suc n) e h.lines (cut t).rest)) (sym e))

faulty_on : (n : ℕ) (d : Draft) (t : List ℕ) (fault : FrameFault) → 0 < length t → Faulty n t fault → Err (Framed fault) ≡ read_on n d t
faulty_on n d t fault lt (bad_line line lines is says) =
    sym (ap (λ ls. lines_read n d ls (cut t).rest) is ∙ ap (λ r. onward (taken_frame n d r) (λ e. lines_read (suc n) e lines (cut t).rest)) says)
faulty_on n d [] fault lt (open_line is e) = absurd (omega arith)
faulty_on n d (b ∷ t) fault lt (open_line is e) =
    ap (λ y. Err (Framed y)) e
    ∙ sym (ap (λ ls. lines_read n d ls (cut (b ∷ t)).rest) is ∙ ap (finished n d) (rest_all (b ∷ t) is))

pub frame_refused : (n : ℕ) (d : Draft) (t : List ℕ) (fault : FrameFault) → 0 < length t → Err fault ≡ first_frame n t → Err (Framed fault) ≡ read_on n d t
frame_refused n d t fault lt e = faulty_on n d t fault lt (faulty_first n t fault e)

-- nothing is left
pub all_read : (n at : ℕ) (text : List ℕ) → length text ≤ at → {d e : DraftRows} → d ≡ e → read_on n (of_draft d) (drop at text) ≡ finished n (of_draft e) []
all_read n at text le {d} {e} is = ap (read_on n (of_draft d)) (drop_all at text le) ∙ ap (λ x. finished n (of_draft x) []) is
