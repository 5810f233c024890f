-- The stem and the loop, one after the other in the trace.
use Rattle.std.proofs.Common.{◌≡◌, ℕ, ◌+◌, ◌-◌, ◌<◌, ◌≤◌, List, [], ◌++◌, length, take, drop, sym, ap, ◌∙◌, subst, append-nil, arith, length-drop, drop_of_length-le}
use borrow.Rule.Slice.PartMut.{put_mid}
use lib.Seq.{take-append-add}
use Rattle.std.proofs.lemmas.List.{drop_at, drop-drop, length-take-le, take_rest}
use Rattle.kripke.specs.Models.{Kripke}
use Rattle.kripke.specs.Lassos.{Lasso}
use Rattle.language.specs.Properties.{Property}
use Rattle.logic.specs.OnLassos.{Counterexample}
use Rattle.tableau.specs.Built.{states_on, written_lasso}
use Rattle.tableau.specs.Numbers.{vertices}
use Rattle.loops.specs.Lassos.{LassoWritten, LoopBuilt, StemWritten}
use Rattle.loops.specs.Settings.{StartVertex, loop_words}
use Rattle.loops.proofs.Places.{later}

-- words whose part from `at` on was written
whole : (at : ℕ) (words part : List ℕ) → put_mid at (length words - at) words part ≡ take at words ++ part
whole at words part =
    let none : drop (length words - at) (drop at words) ≡ [] = drop_of_length-le (drop at words) (subst (λ n. n ≤ length words - at) (sym (length-drop at words)) (omega arith)) in
    ap (λ l. take at words ++ (part ++ l)) none ∙ ap (λ l. take at words ++ l) (append-nil part)

-- the first words of two lists, and what follows
front : (at more : ℕ) (first part : List ℕ) → length first ≡ at → take (at + more) (first ++ part) ≡ first ++ take more part
front at more first part is = ap (λ n. take (n + more) (first ++ part)) (sym is) ∙ take-append-add first part more

after : (at more : ℕ) (first part : List ℕ) → length first ≡ at → drop (at + more) (first ++ part) ≡ drop more part
after at more first part is = sym (drop-drop more at (first ++ part)) ∙ ap (drop more) (drop_at first part at is)

-- a lasso by its list and its lengths
same : (first part list : List ℕ) (stem turns : ℕ) → list ≡ first ++ part → length first ≡ stem → length part ≡ turns →
    ◌≡◌ {A = Lasso} (written_lasso first part) (record { list = list; stem = stem; loop = turns })
same first part list stem turns p q r = cc

-- the trace, which was `was`, had the stem written, and then the loop in its part from the stem on
pub traced : (m : Kripke) (f : Property) (u x stem turns : ℕ) (was trace part : List ℕ) → StartVertex m f u x → StemWritten m f u x was trace stem →
    LoopBuilt m f x (take (length trace - stem) (drop stem trace)) part turns → length part ≡ length (take (length trace - stem) (drop stem trace)) →
    length trace ≡ length was → vertices m f + loop_words m f ≤ length was →
    LassoWritten m f was (put_mid stem (length trace - stem) trace part) (record { stem = stem; turns = turns })
traced m f u x stem turns was trace part first written built kept long room =
    let sizes = fits (vertices m f) (loop_words m f) stem turns (length trace) (length was) (length part) written.longer built.longer room long (kept ∙ ap length (take_rest trace stem) ∙ length-drop stem trace) in
    let is : length (take stem trace) ≡ stem = length-take-le stem trace sizes.0 in
    let joined = whole stem trace part in
    record {
      counterexample =
          subst (Counterexample m f) (same (states_on m f written.walk) (take turns part) (take (stem + turns) (put_mid stem (length trace - stem) trace part)) stem turns
          (ap (take (stem + turns)) joined ∙ front stem turns (take stem trace) part is ∙ ap (λ l. l ++ take turns part) written.written)
          (ap length (sym written.written) ∙ is) (length-take-le turns part sizes.1))
          (built.counterexample u first.vertex first.starts first.false_root written.walk written.leads);
      within = sizes.2;
      rest =
          ap (drop (stem + turns)) joined ∙ after stem turns (take stem trace) part is ∙ built.rest ∙ ap (drop turns) (take_rest trace stem) ∙ drop-drop turns stem trace
          ∙ later stem (stem + turns) trace was sizes.3 written.rest;
    }
  where
    fits : (n l stem turns trace was part : ℕ) → stem < n → turns ≤ l → n + l ≤ was → trace ≡ was → part ≡ trace - stem →
        (stem ≤ trace) × (turns ≤ part) × (stem + turns ≤ n + l) × (stem ≤ stem + turns)
    fits n l stem turns trace was part p q r s t = (omega arith, omega arith, omega arith, omega arith)
