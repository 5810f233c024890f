-- The turns made of a docket: what each brought, and what it got.
use Rattle.std.specs.Prelude.{ℕ, Bool, List, None, Option, Result}
use Rattle.std.specs.Result.{is_ok, result_err}
use Rattle.frames.specs.declared.faults.Refusal.{Refusal}
use Rattle.kripke.specs.Lassos.{Lasso}
use Rattle.kripke.specs.Models.{Kripke}

-- What a check says that is not refused: HOLDS, or BROKEN with the lasso that it left.
pub data Finding : Type 0 where
  holds : Finding
  broken : Lasso → Finding

-- A turn: what a call brought, and what it got, which is an answer or a refusal.
pub data Turn : Type 0 where
  -- a text is entered under a number
  enter : (number : ℕ) (text : List ℕ) → Result (Unit {0}) Refusal → Turn
  -- what is under a number is struck out
  strike : (number : ℕ) → Result (Unit {0}) Refusal → Turn
  -- what is under a number is shown in an area of so many bytes; the bytes that were written
  show : (number room : ℕ) → Result (List ℕ) Refusal → Turn
  -- what is under a number is checked over a model, with so many words of scratch and of trace
  check : (m : Kripke) (number scratch trace : ℕ) → Result Finding Refusal → Turn
  -- the docket is asked how many turns changed it
  tally : ℕ → Turn

-- the turns that were made, the latest first
abbrev pub History : Type 0
History = List Turn

-- the refusal in an answer, if it is one
abbrev pub refusal_in : {A : Type 0} → Result A Refusal → Option Refusal
refusal_in r = result_err r

-- what a turn was refused with, if it was
abbrev pub refused_with : Turn → Option Refusal
refused_with (enter number text r) = refusal_in r
refused_with (strike number r) = refusal_in r
refused_with (show number room r) = refusal_in r
refused_with (check m number scratch trace r) = refusal_in r
refused_with (tally n) = None

-- whether an answer is no refusal
abbrev pub accepted : {A : Type 0} → Result A Refusal → Bool
accepted r = is_ok r
