-- The law that the turns made of one new docket keep together.
use Rattle.std.specs.Prelude.{◌≡◌, ℕ, ◌+◌, min, Bool, true, false, ◌⊎◌, ◌↔◌, List, [], ◌∷◌, ◌++◌, Some, None, Ok, Err, Option, Result}
use Rattle.frames.specs.declared.faults.Refusal.{Refusal}
use Rattle.kripke.specs.Lassos.{Lasso}
use Rattle.kripke.specs.Models.{Kripke, OneMeaning}
use Rattle.language.specs.Properties.{Property}
use Rattle.language.specs.Canonical.{canonical}
use Rattle.logic.specs.OnLassos.{Counterexample, Falsifies}
use Rattle.decision.specs.Deciding.{NeverFalsified}
use Rattle.ledger.specs.Turns.{Finding, Turn, History, accepted, refused_with}
use Rattle.ledger.specs.Turns.Finding.{holds, broken}
use Rattle.ledger.specs.Turns.Turn.{enter, strike, show, check, tally}
use Rattle.ledger.specs.Ledgers.{ledger}
use Rattle.ledger.specs.Table.{due}

-- the turn t is one of h, made after the turns `earlier`
abbrev pub MadeIn : (h earlier : History) → Turn → Type 0
MadeIn h earlier t = (later : List Turn) × (h ≡ later ++ t ∷ earlier)

-- a check in h over m, of the property f that was then under its number, was not refused and said v
pub record Checked (h : History) (m : Kripke) (f : Property) (v : Finding) : Type 0 where
  pub earlier : History
  pub number : ℕ
  pub scratch : ℕ
  pub trace : ℕ
  pub made : MadeIn h earlier (check m number scratch trace (Ok v))
  pub then_there : (ledger earlier).under number ≡ Some f

-- that over one of two models
abbrev pub CheckedOver : History → (m n : Kripke) → Property → Finding → Type 0
CheckedOver h m n f v = Checked h m f v ⊎ Checked h n f v

-- the lasso falsifies some property that got HOLDS over one of two models: it is not so that it falsifies none of them
abbrev pub FalsifiesOneHeld : History → (m n : Kripke) → Lasso → Type 0
FalsifiesOneHeld h m n p = ¬ ((f : Property) → CheckedOver h m n f holds → ¬ Falsifies m f p)

-- what was shown is the canonical text of the entry
abbrev pub Shows : Result (List ℕ) Refusal → Option Property → Type 0
Shows (Ok bytes) (Some f) = bytes ≡ canonical f
Shows (Ok bytes) None = ⊥
Shows (Err why) entry = Unit {0}

-- 1 for an accepted turn
abbrev pub one_if : Bool → ℕ
one_if true = 1
one_if false = 0

-- how many enters and strikes were accepted
abbrev pub changes : History → ℕ
changes [] = 0
changes (enter number text r ∷ h) = one_if (accepted r) + changes h
changes (strike number r ∷ h) = one_if (accepted r) + changes h
changes (show number room r ∷ h) = changes h
changes (check m number scratch trace r ∷ h) = changes h
changes (tally n ∷ h) = changes h

-- A lawful history.
pub record Lawful (h : History) : Type 0 where
  -- every turn is refused exactly as the table says, by the ledger of the turns before it
  pub refusals : (earlier : History) (t : Turn) → MadeIn h earlier t → refused_with t ≡ due (ledger earlier) t
  -- a show writes the canonical text of what the ledger then has under its number
  pub shows : (earlier : History) (number room : ℕ) (r : Result (List ℕ) Refusal) → MadeIn h earlier (show number room r) → Shows r ((ledger earlier).under number)
  -- a check that is not refused is of a property that the ledger then has under its number;
  pub checks : (earlier : History) (m : Kripke) (number scratch trace : ℕ) (v : Finding) → MadeIn h earlier (check m number scratch trace (Ok v)) → (f : Property) × ((ledger earlier).under number ≡ Some f)
  -- it says HOLDS exactly when no fair lasso of its model from a start state falsifies that property,
  pub verdicts : (m : Kripke) (f : Property) (v : Finding) → Checked h m f v → (v ≡ holds) ↔ NeverFalsified m f
  -- and otherwise BROKEN, with such a lasso
  pub witnesses : (m : Kripke) (f : Property) (v : Finding) → Checked h m f v → ¬ (v ≡ holds) → (p : Lasso) × (v ≡ broken p) × Counterexample m f p
  -- of two models of one meaning: where every fair lasso from a start state that falsifies g also falsifies some property that got HOLDS
  -- over either of them, every check of g over either, earlier or later, says HOLDS unless it is refused
  pub carries_over :
      (m n : Kripke) → OneMeaning m n → (g : Property) →
      ((p : Lasso) → Counterexample m g p → FalsifiesOneHeld h m n p) →
      (v : Finding) → CheckedOver h m n g v → v ≡ holds
  -- the tally, whenever it is asked for, is the number of accepted enters and strikes so far, or 4,294,967,295 where there were more
  pub tallies : (earlier : History) (n : ℕ) → MadeIn h earlier (tally n) → n ≡ min (changes earlier) 4294967295
