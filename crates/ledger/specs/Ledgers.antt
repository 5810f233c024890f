-- The ledger: a plain machine that is fed each turn's arguments and whether the turn was refused, and no other answer.
use Rattle.std.specs.Prelude.{ℕ, ◌+◌, Bool, true, false, cond, [], ◌∷◌, None, Option, Result, ◌==◌}
use Rattle.std.specs.Result.{result_ok}
use Rattle.frames.specs.declared.faults.Refusal.{Refusal}
use Rattle.language.specs.Properties.{Property}
use Rattle.language.specs.Reading.{read}
use Rattle.ledger.specs.Turns.{Turn, History, accepted}
use Rattle.ledger.specs.Turns.Turn.{enter, strike, show, check, tally}

-- A property or nothing for each number, and how many turns changed that.
pub record Ledger : Type 0 where
  pub under : ℕ → Option Property
  pub count : ℕ

-- the ledger before the first turn
abbrev pub blank : Ledger
blank = record { under = λ k. None; count = 0 }

-- what is under each number, once an entry is put under one of them
abbrev pub with_entry : (ℕ → Option Property) → (number : ℕ) → Option Property → ℕ → Option Property
with_entry under number entry k = cond (k == number) entry (under k)

-- a turn that puts an entry under a number changes the ledger unless it was refused
abbrev pub changed : Ledger → (number : ℕ) → Option Property → (accepted : Bool) → Ledger
changed l number entry true = record { under = with_entry l.under number entry; count = l.count + 1 }
changed l number entry false = l

-- the property that was read, if one was
abbrev pub property_in : Result Property Refusal → Option Property
property_in r = result_ok r

-- the ledger after one more turn
abbrev pub after : Ledger → Turn → Ledger
after l (enter number text r) = changed l number (property_in (read text)) (accepted r)
after l (strike number r) = changed l number None (accepted r)
after l (show number room r) = l
after l (check m number scratch trace r) = l
after l (tally n) = l

-- the ledger after all turns of a history
abbrev pub ledger : History → Ledger
ledger [] = blank
ledger (t ∷ h) = after (ledger h) t
