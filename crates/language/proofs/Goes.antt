-- Lines of bytes that are taken one after the other, and what reading makes of their text.
use Rattle.std.proofs.Common.{◌≡◌, ℕ, suc, ◌*◌, ◌<◌, ◌≤◌, true, List, [], ◌∷◌, ◌++◌, map, length, Ok, Result, ap, ◌∙◌, arith}
use Rattle.std.proofs.lemmas.List.{length-append}
use Rattle.std.proofs.lemmas.Bool.{le-leb, cond-true}
use Rattle.frames.specs.declared.faults.Refusal.{Refusal}
use Rattle.frames.specs.Frames.{Frame, frame_of_bytes, frame_of_line}
use Rattle.frames.specs.Lines.{Text, cut}
use Rattle.language.specs.Properties.{all_below}
use Rattle.language.specs.Reading.{Draft, blank, in_order, in_range, within_limits, extended, judged, taken, taken_frame, property, onward, lines_read, read}
use Rattle.language.specs.Canonical.{spelled, text_of}
use Rattle.language.proofs.Spelled.{length_spelled, spelt_spelled, proper_spelled, cut_text}

-- one to six bytes
pub record Good (bs : List ℕ) : Type 0 where
  pub bytes : all_below 256 bs ≡ true
  pub some : 0 < length bs
  pub short : length bs ≤ 6

-- Good lines lead from one draft to another, whatever their numbers.
pub data Goes : Draft → List (List ℕ) → Draft → Type 0 where
  none : {d : Draft} → Goes d [] d
  more : {d e f : Draft} {bs : List ℕ} {lines : List (List ℕ)} → Good bs → ((n : ℕ) → judged n d (spelled bs) ≡ Ok e) → Goes e lines f → Goes d (bs ∷ lines) f

pub goes_append : {d e f : Draft} {xs ys : List (List ℕ)} → Goes d xs e → Goes e ys f → Goes d (xs ++ ys) f
goes_append none h = h
goes_append (more good taken rest) h = more good taken (goes_append rest h)

-- a frame of a good line that is in order, in range and within the limits
pub goes_one : (d : Draft) (f : Frame) (bs : List ℕ) → Good bs → ((n : ℕ) → frame_of_bytes n bs ≡ Ok f) → in_order d f ≡ true → in_range d f ≡ true → within_limits d f ≡ true → Goes d (bs ∷ []) (extended d f)
goes_one d f bs good says ordered ranged limited =
    let p = proper_spelled bs good.some in
    let line : (n : ℕ) → frame_of_line n (spelled bs) ≡ Ok f = λ n. cond-true _ _ _ p ∙ ap (frame_of_bytes n) (spelt_spelled bs good.bytes) ∙ says n in
    let takes : (n : ℕ) → taken n d f ≡ Ok (extended d f) = λ n. cond-true _ _ _ ordered ∙ cond-true _ _ _ ranged ∙ cond-true _ _ _ limited in
    more good (λ n. ap (taken_frame n d) (line n) ∙ takes n) none

-- what is read in the end
pub lines_go : {d e : Draft} {lines : List (List ℕ)} → Goes d lines e → e.ended ≡ true → (n : ℕ) → lines_read n d (map spelled lines) [] ≡ Ok (property e)
lines_go none h n = cond-true _ _ _ h
lines_go {d} {e} (more {bs = bs} {lines = lines} good taken rest) h n =
    ap (λ (r : Result Draft Refusal). onward r (λ (x : Draft). lines_read (suc n) x (map spelled lines) [])) (taken n) ∙ lines_go rest h (suc n)

-- each line has at most six bytes
pub text_short : {d e : Draft} {lines : List (List ℕ)} → Goes d lines e → length (text_of lines) ≤ 13 * length lines
text_short none = omega arith
text_short (more {bs = bs} {lines = lines} good taken rest) =
    let r = text_short rest in
    let l = length-append (spelled bs) (10 ∷ text_of lines) in
    let m = length_spelled bs in
    omega arith

-- lines that lead from the blank draft to an end are read, if they are not too many
pub read_goes : {e : Draft} (lines : List (List ℕ)) → Goes blank lines e → e.ended ≡ true → length lines ≤ 5000 → read (text_of lines) ≡ Ok (property e)
read_goes lines goes ended few =
    let s = text_short goes in
    let all : lines_read 1 blank (cut (text_of lines)).lines (cut (text_of lines)).rest ≡ lines_read 1 blank (map spelled lines) [] = ap (λ (t : Text). lines_read 1 blank t.lines t.rest) (cut_text lines) in
    cond-true _ _ _ (le-leb (length (text_of lines)) 65536 (omega arith)) ∙ all ∙ lines_go goes ended 1
