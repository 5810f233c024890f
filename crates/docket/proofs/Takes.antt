-- What each call ensures is its part of what a turn does, so every turn goes by law.
use Rattle.std.proofs.Common.{◌≡◌, ℕ, Bool, true, false, cond, ltb, List, length, drop, Some, None, Ok, Err, Option, Result, option_map, sym, refl, ap, ◌∙◌, subst}
use Rattle.std.proofs.Math.Seq.{take-append_seam}
use Rattle.frames.specs.declared.faults.Refusal.{Refusal}
use Rattle.frames.specs.declared.faults.Refusal.TheVariants.{Number}
use Rattle.kripke.specs.Models.{Kripke}
use Rattle.language.specs.Properties.{Property, width}
use Rattle.language.specs.Canonical.{canonical}
use Rattle.decision.specs.declared.verdict.Verdict.{Verdict}
use Rattle.decision.specs.declared.verdict.Verdict.TheVariants.{Holds, Broken}
use Rattle.decision.specs.Deciding.{refusal, Right as Verdict-right}
use Rattle.ledger.specs.Turns.{Turn, refusal_in}
use Rattle.ledger.specs.Turns.Turn.{check, show}
use Rattle.ledger.specs.Law.{Shows}
use Rattle.ledger.specs.Table.{first, found, or_vacant}
use Rattle.ledger.specs.Runs.{View, Untouched, Right, Sound, WasChecked, WasShown, Takes}
use Rattle.ledger.proofs.Lawful.{by_law}
use Rattle.docket.specs.Calls.{CheckedAs, Shown, ShownIn}
use Rattle.docket.specs.Answers.{WentByLaw, finding, findings, front}

pub same : (d : View) → Untouched d d
same d = record { rows = λ k. refl; tally = refl }

-- a turn with the answer of its kind goes by law
pub went : {A : Type 0} (d e : View) (turn : A → Turn) (o : Option A) (r : A) → o ≡ Some r → Takes d (turn r) e → WentByLaw d (option_map turn o) e
went d e turn o r q w = subst (λ x. WentByLaw d (option_map turn x) e) (sym q) (by_law d (turn r) e w)

-- Shows

shown_text : (r : Result ℕ Refusal) (o : Option Property) (area area' : List ℕ) → ShownIn r o area area' → Shows (front r area') o
shown_text (Ok n) (Some f) area area' w = cc (take-append_seam (canonical f) (drop (length (canonical f)) area))
shown_text (Ok n) None area area' w = w
shown_text (Err why) o area area' w = tt

front_refusal : (r : Result ℕ Refusal) (bytes : List ℕ) → refusal_in (front r bytes) ≡ refusal_in r
front_refusal (Ok n) bytes = refl
front_refusal (Err why) bytes = refl

-- what the call of a show ensures is what the law says of it: refused as the table says, with the canonical text, and nothing changes
pub show_takes : (d : View) (number : ℕ) (area area' : List ℕ) (r : Result ℕ Refusal) → Shown d number area area' r → WasShown d number (length area) (front r area') d
show_takes d number area area' r w = record {
  refusal = front_refusal r area' ∙ w.refusal;
  text = shown_text r (d.rows number) area area' w.left;
  same = same d;
}

pub show_went : (d : View) (number : ℕ) (area area' : List ℕ) (o : Option (Result ℕ Refusal)) (r : Result ℕ Refusal) → o ≡ Some r → Shown d number area area' r → WentByLaw d (option_map (λ a. show number (length area) (front a area')) o) d
show_went d number area area' o r q w = went d d (λ a. show number (length area) (front a area')) o r q (show_takes d number area area' r w)

-- Checks

-- what is found under a number is under it
found_by : (b : Bool) (o : Option Property) (f : Property) → cond b (Err Number) (or_vacant o) ≡ Ok f → o ≡ Some f
found_by true o f e = cc
found_by false (Some g) f e = cc
found_by false None f e = cc

right_of : (m : Kripke) (f : Property) (trace trace' : List ℕ) (v : Verdict) → Verdict-right m f trace trace' v → Right m f (finding v trace')
right_of m f trace trace' Holds w = w.0
right_of m f trace trace' (Broken stem loop) w = w.counterexample

module _ (d : View) (m : Kripke) (number : ℕ) (scratch scratch' trace trace' : List ℕ) where
  -- the refusals that a check calls for by a property
  abbrev by_property : Property → Option Refusal
  by_property f = refusal m.states m.sets (width f.connectives f.nodes) (length scratch) (length trace)

  check_found : (x : Result Property Refusal) (r : Result Verdict Refusal) → found d.rows number ≡ x → CheckedAs m x scratch scratch' trace trace' r → WasChecked d m number (length scratch) (length trace) (findings r trace') d
  check_found (Ok f) (Ok v) q w = record {
    refusal = sym (ap (λ x. first x by_property) q ∙ w.granted);
    sound = subst (λ o. Sound m (Ok (finding v trace')) o) (sym (found_by (ltb 7 number) (d.rows number) f q)) (right_of m f trace trace' v w.right);
    same = same d;
  }
  check_found (Ok f) (Err why) q w = record {
    refusal = sym (ap (λ x. first x by_property) q ∙ w.called_for);
    sound = tt;
    same = same d;
  }
  check_found (Err why) r q w = record {
    refusal = ap (λ x. refusal_in (findings x trace')) w.0 ∙ sym (ap (λ x. first x by_property) q);
    sound = subst (λ x. Sound m (findings x trace') (d.rows number)) (sym w.0) tt;
    same = same d;
  }

  -- what the call of a check ensures is what the law says of it: refused as the table says, sound, and nothing changes
  pub check_takes : (r : Result Verdict Refusal) → CheckedAs m (found d.rows number) scratch scratch' trace trace' r → WasChecked d m number (length scratch) (length trace) (findings r trace') d
  check_takes r w = check_found (found d.rows number) r refl w

  pub check_went : (o : Option (Result Verdict Refusal)) (r : Result Verdict Refusal) → o ≡ Some r → CheckedAs m (found d.rows number) scratch scratch' trace trace' r → WentByLaw d (option_map (λ a. check m number (length scratch) (length trace) (findings a trace')) o) d
  check_went o r q w = went d d (λ a. check m number (length scratch) (length trace) (findings a trace')) o r q (check_takes r w)
