-- Whatever turns lead a new docket somewhere, they are lawful.
use Rattle.std.proofs.Common.{◌≡◌, ℕ, ◌+◌, min, Bool, true, false, cond, eqb, ◌↔◌, List, [], ◌∷◌, ◌++◌, Some, None, Ok, Option, Result, sym, refl, ap, ◌∙◌, subst, inl, inr, arith}
use mathlib.Core.Path.{fun_ext}
use Rattle.frames.specs.declared.faults.Refusal.{Refusal}
use Rattle.kripke.specs.Lassos.{Lasso}
use Rattle.kripke.specs.Models.{Kripke}
use Rattle.kripke.proofs.Same.{equal}
use Rattle.language.specs.Properties.{Property}
use Rattle.language.specs.Reading.{read}
use Rattle.logic.specs.OnLassos.{Counterexample}
use Rattle.decision.specs.Deciding.{NeverFalsified}
use Rattle.ledger.specs.Turns.{Finding, Turn, History, accepted, refused_with}
use Rattle.ledger.specs.Turns.Finding.{holds, broken}
use Rattle.ledger.specs.Turns.Turn.{enter, strike, show, check, tally}
use Rattle.ledger.specs.Ledgers.{Ledger, after, changed, ledger, property_in}
use Rattle.ledger.specs.Table.{due, due_strike, due_show, due_check}
use Rattle.ledger.specs.Law.{Lawful, MadeIn, Checked, CheckedOver, FalsifiesOneHeld, Shows, changes, one_if}
use Rattle.ledger.specs.Runs.{View, Untouched, Moved, Right, Sound, Takes, Led, ByLaw, Agrees}
use Rattle.ledger.specs.Runs.Led.{new, and_then}

-- the docket keeps what a ledger says
record Keeps (l : Ledger) (d : View) : Type 0 where
  rows : (k : ℕ) → d.rows k ≡ l.under k
  tallied : d.tally ≡ min l.count 4294967295

same_keeps : (l : Ledger) (d e : View) → Keeps l d → Untouched d e → Keeps l e
same_keeps l d e a w = record { rows = λ k. w.rows k ∙ a.rows k; tallied = w.tally ∙ a.tallied }

moved_keeps : (l : Ledger) (d e : View) (number : ℕ) (entry : Option Property) (b : Bool) → Keeps l d → Moved d number entry b e → Keeps (changed l number entry b) e
moved_keeps l d e number entry true a w = record {
  rows = λ k. w.rows k ∙ ap (cond (eqb k number) entry) (a.rows k);
  tallied = let t = w.tally in let u = a.tallied in omega arith;
}
moved_keeps l d e number entry false a w = same_keeps l d e a w

takes_keeps : (l : Ledger) (d e : View) (t : Turn) → Keeps l d → Takes d t e → Keeps (after l t) e
takes_keeps l d e (enter number text r) a w = moved_keeps l d e number (property_in (read text)) (accepted r) a w.moved
takes_keeps l d e (strike number r) a w = moved_keeps l d e number None (accepted r) a w.moved
takes_keeps l d e (show number room r) a w = same_keeps l d e a w.same
takes_keeps l d e (check m number scratch trace r) a w = same_keeps l d e a w.same
takes_keeps l d e (tally n) a w = same_keeps l d e a w.same

keeps : {h : History} {d : View} → Led h d → Keeps (ledger h) d
keeps (new f) = record { rows = f.rows; tallied = f.tally ∙ omega arith }
keeps (and_then {h = h} {d = d} {e = e} {t = t} led w) = takes_keeps (ledger h) d e t (keeps led) w

-- the ledger counts the accepted enters and strikes
count_more : (l : Ledger) (number : ℕ) (entry : Option Property) (b : Bool) (n : ℕ) → l.count ≡ n → (changed l number entry b).count ≡ one_if b + n
count_more l number entry true n e = omega arith
count_more l number entry false n e = omega arith

count_is : (h : History) → (ledger h).count ≡ changes h
count_is [] = refl
count_is (enter number text r ∷ h) = count_more (ledger h) number (property_in (read text)) (accepted r) (changes h) (count_is h)
count_is (strike number r ∷ h) = count_more (ledger h) number None (accepted r) (changes h) (count_is h)
count_is (show number room r ∷ h) = count_is h
count_is (check m number scratch trace r ∷ h) = count_is h
count_is (tally n ∷ h) = count_is h

pub agrees : (h : History) (d : View) → Led h d → Agrees h d
agrees h d led = let k = keeps led in record { rows = k.rows; tallied = k.tallied ∙ ap (λ n. min n 4294967295) (count_is h) }

-- the docket as it was when the turn t was made
record Before (earlier : History) (t : Turn) : Type 0 where
  docket : View
  docket_after : View
  led : Led earlier docket
  takes : Takes docket t docket_after

before : (later : List Turn) (t : Turn) (earlier : History) (d : View) → Led (later ++ t ∷ earlier) d → Before earlier t
before [] t earlier d (and_then {d = b} led w) = record { docket = b; docket_after = d; led = led; takes = w }
before (u ∷ later) t earlier d (and_then {d = b} led w) = before later t earlier b led

refused_as : (l : Ledger) (d e : View) (t : Turn) → ((k : ℕ) → d.rows k ≡ l.under k) → Takes d t e → refused_with t ≡ due l t
refused_as l d e (enter number text r) a w = w.refusal
refused_as l d e (strike number r) a w = w.refusal ∙ ap (λ u. due_strike u number) (fun_ext a)
refused_as l d e (show number room r) a w = w.refusal ∙ ap (λ u. due_show u number room) (fun_ext a)
refused_as l d e (check m number scratch trace r) a w = w.refusal ∙ ap (λ u. due_check u m number scratch trace) (fun_ext a)
refused_as l d e (tally n) a w = refl

-- a check that says something says it of an entry
of_entry : (m : Kripke) (entry : Option Property) (v : Finding) → Sound m (Ok v) entry → (f : Property) × (entry ≡ Some f)
of_entry m (Some f) v s = (f, refl)
of_entry m None v s = absurd s

exactly : (m : Kripke) (f : Property) (v : Finding) → Right m f v → (v ≡ holds) ↔ NeverFalsified m f
exactly m f holds r = (λ e. r, λ n. refl)
exactly m f (broken p) r = (λ e. cc, λ n. absurd (n p r))

witness : (m : Kripke) (f : Property) (v : Finding) → Right m f v → ¬ (v ≡ holds) → (p : Lasso) × (v ≡ broken p) × Counterexample m f p
witness m f holds r n = absurd (n refl)
witness m f (broken p) r n = (p, refl, r)

module _ (h : History) (d : View) (led : Led h d) where
  was : (earlier : History) (t : Turn) → MadeIn h earlier t → Before earlier t
  was earlier t made = before made.0 t earlier d (subst (λ k. Led k d) made.1 led)

  -- what a check said was right of what the ledger had
  sound : (earlier : History) (m : Kripke) (number scratch trace : ℕ) (r : Result Finding Refusal) → MadeIn h earlier (check m number scratch trace r) → Sound m r ((ledger earlier).under number)
  sound earlier m number scratch trace r made =
      let b = was earlier (check m number scratch trace r) made in
      subst (λ o. Sound m r o) ((keeps b.led).rows number) b.takes.sound

  right : (m : Kripke) (f : Property) (v : Finding) → Checked h m f v → Right m f v
  right m f v c =
      subst (λ o. Sound m (Ok v) o) c.then_there (sound c.earlier m c.number c.scratch c.trace (Ok v) c.made)

  -- what was said of either of two equal models is right of the first
  right_over : (m n : Kripke) → m ≡ n → (f : Property) (v : Finding) → CheckedOver h m n f v → Right m f v
  right_over m n e f v (inl c) = right m f v c
  right_over m n e f v (inr c) = subst (λ k. Right k f v) (sym e) (right n f v c)

  carry :
      (m n : Kripke) → m ≡ n → (g : Property) →
      ((p : Lasso) → Counterexample m g p → FalsifiesOneHeld h m n p) →
      (v : Finding) → Right m g v → v ≡ holds
  carry m n e g covers holds r = refl
  carry m n e g covers (broken p) r =
      absurd (covers p r (λ f c false. right_over m n e f holds c p (record { lasso = r.lasso; fair = r.fair; falsifies = false })))

  shown : (earlier : History) (number room : ℕ) (r : Result (List ℕ) Refusal) → MadeIn h earlier (show number room r) → Shows r ((ledger earlier).under number)
  shown earlier number room r made =
      let b = was earlier (show number room r) made in
      subst (λ o. Shows r o) ((keeps b.led).rows number) b.takes.text

  pub lawful : Lawful h
  lawful = record {
    refusals = λ earlier t made. let b = was earlier t made in refused_as (ledger earlier) b.docket b.docket_after t (keeps b.led).rows b.takes;
    shows = shown;
    checks = λ earlier m number scratch trace v made. of_entry m ((ledger earlier).under number) v (sound earlier m number scratch trace (Ok v) made);
    verdicts = λ m f v c. exactly m f v (right m f v c);
    witnesses = λ m f v c. witness m f v (right m f v c);
    carries_over = λ m n one g covers v c. carry m n (equal m n one) g covers v (right_over m n (equal m n one) g v c);
    tallies = λ earlier n made. let b = was earlier (tally n) made in b.takes.counted ∙ (agrees earlier b.docket b.led).tallied;
  }

pub by_law : (d : View) (t : Turn) (e : View) → Takes d t e → ByLaw d t e
by_law d t e w = record {
  takes = w;
  leads = λ h led. and_then led w;
  lawful = λ h led. lawful (t ∷ h) e (and_then led w);
}
