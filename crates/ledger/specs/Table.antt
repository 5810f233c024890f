-- The table: what a turn is refused with, by what it brings and by what is under each number. The first refusal that is called for decides.
use Rattle.std.specs.Prelude.{ℕ, cond, List, length, Some, None, Ok, Err, Option, Result, ok_or, nat_le, nat_lt}
use Rattle.frames.specs.declared.faults.Refusal.{Refusal}
use Rattle.frames.specs.declared.faults.Refusal.TheVariants.{Number, Vacant, Room}
use Rattle.kripke.specs.Models.{Kripke}
use Rattle.language.specs.Properties.{Property, width}
use Rattle.language.specs.Reading.{read}
use Rattle.language.specs.Canonical.{canonical}
use Rattle.decision.specs.Deciding.{refusal}
use Rattle.ledger.specs.Turns.{Turn, refusal_in}
use Rattle.ledger.specs.Turns.Turn.{enter, strike, show, check, tally}
use Rattle.ledger.specs.Ledgers.{Ledger}

-- a property that is there, or the refusal of a number that has nothing under it
abbrev pub or_vacant : Option Property → Result Property Refusal
or_vacant entry = ok_or entry Vacant

-- the property under a number: first a number above 7 is refused (7), then one that has nothing under it (8)
abbrev pub found : (ℕ → Option Property) → (number : ℕ) → Result Property Refusal
found under number = cond (nat_lt 7 number) (Err Number) (or_vacant (under number))

-- the first refusal: that of finding the property, or else one that the property calls for
abbrev pub first : Result Property Refusal → (Property → Option Refusal) → Option Refusal
first (Ok f) next = next f
first (Err why) next = Some why

-- a number above 7 is refused, then the text as its first line at fault says
abbrev pub due_enter : (number : ℕ) (text : List ℕ) → Option Refusal
due_enter number text = cond (nat_lt 7 number) (Some Number) (refusal_in (read text))

-- refused where no property is found
abbrev pub due_strike : (ℕ → Option Property) → (number : ℕ) → Option Refusal
due_strike under number = first (found under number) (λ f. None)

-- the same, and then too few bytes for the canonical text (13)
abbrev pub due_show : (ℕ → Option Property) → (number room : ℕ) → Option Refusal
due_show under number room = first (found under number) (λ f. cond (nat_le (length (canonical f)) room) None (Some Room))

-- the same, and then the refusals of a check: the model (10), the scratch (11) and the trace (12)
abbrev pub due_check : (ℕ → Option Property) → Kripke → (number scratch trace : ℕ) → Option Refusal
due_check under m number scratch trace =
    first (found under number) (λ f. refusal m.states m.sets (width f.connectives f.nodes) scratch trace)

-- what a turn is to be refused with, if anything; a tally never is
abbrev pub due : Ledger → Turn → Option Refusal
due l (enter number text r) = due_enter number text
due l (strike number r) = due_strike l.under number
due l (show number room r) = due_show l.under number room
due l (check m number scratch trace r) = due_check l.under m number scratch trace
due l (tally n) = None
