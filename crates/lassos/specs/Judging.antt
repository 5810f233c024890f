-- What the judge answers, and what it leaves in the scratch that it is lent.
use Rattle.std.specs.Prelude.{◌≡◌, ℕ, ◌*◌, Bool, cond, ◌||◌, List, length, replicate, Some, None, Ok, Err, Decides, Option, Result, ◌==◌, nat_lt}
use Rattle.frames.specs.declared.faults.Refusal.{Refusal}
use Rattle.frames.specs.declared.faults.Refusal.TheVariants.{Model, Scratch}
use Rattle.kripke.specs.Models.{Kripke}
use Rattle.kripke.specs.Lassos.{Lasso}
use Rattle.language.specs.Properties.{Property}
use Rattle.logic.specs.OnLassos.{Counterexample}

-- the first refusal that is called for: a void model or too long a list, then less scratch than three words for each word of the list
abbrev pub refusal : (states list scratch : ℕ) → Option Refusal
refusal states list scratch = cond (states == 0 || nat_lt 268435456 list) (Some Model) (cond (nat_lt scratch (3 * list)) (Some Scratch) None)

-- nothing speaks against the call: it says exactly whether the lasso is a counterexample, and all of the scratch is zero
pub record Answered (m : Kripke) (f : Property) (p : Lasso) (scratch scratch' : List ℕ) (r : Bool) : Type 0 where
  pub granted : refusal m.states (length p.list) (length scratch) ≡ None
  pub exactly : Decides r (Counterexample m f p)
  pub cleared : scratch' ≡ replicate (length scratch) 0

-- the first refusal that is called for, and the scratch is as it was
pub record Refused (m : Kripke) (p : Lasso) (scratch scratch' : List ℕ) (why : Refusal) : Type 0 where
  pub called_for : refusal m.states (length p.list) (length scratch) ≡ Some why
  pub kept : scratch' ≡ scratch

-- the judge answers, or refuses; scratch is before the call what scratch' is after it
abbrev pub Judged : (m : Kripke) (f : Property) (p : Lasso) (scratch scratch' : List ℕ) → Result Bool Refusal → Type 0
Judged m f p scratch scratch' (Ok r) = Answered m f p scratch scratch' r
Judged m f p scratch scratch' (Err why) = Refused m p scratch scratch' why
