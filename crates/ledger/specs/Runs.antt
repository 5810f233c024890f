-- What one turn does to a docket, as far as it can be seen, and which histories lead a new docket where.
use Rattle.std.specs.Prelude.{◌≡◌, ℕ, ◌+◌, min, Bool, true, false, List, [], ◌∷◌, Some, None, Ok, Err, Option, Result}
use Rattle.frames.specs.declared.faults.Refusal.{Refusal}
use Rattle.kripke.specs.Models.{Kripke}
use Rattle.language.specs.Properties.{Property}
use Rattle.language.specs.Reading.{read}
use Rattle.logic.specs.OnLassos.{Counterexample}
use Rattle.decision.specs.Deciding.{NeverFalsified}
use Rattle.ledger.specs.Turns.{Finding, Turn, History, accepted, refusal_in}
use Rattle.ledger.specs.Turns.Finding.{holds, broken}
use Rattle.ledger.specs.Turns.Turn.{enter, strike, show, check, tally}
use Rattle.ledger.specs.Ledgers.{ledger, property_in, with_entry}
use Rattle.ledger.specs.Table.{due_enter, due_strike, due_show, due_check}
use Rattle.ledger.specs.Law.{Lawful, Shows, changes}

-- What can be seen of a docket: the property or nothing under each number, and its tally.
pub record View : Type 0 where
  pub rows : ℕ → Option Property
  pub tally : ℕ

-- nothing changes
pub record Untouched (d e : View) : Type 0 where
  pub rows : (k : ℕ) → e.rows k ≡ d.rows k
  pub tally : e.tally ≡ d.tally

-- an entry is put under one number, all others stay, and the tally goes up by one unless it is at its end
pub record Changed (d : View) (number : ℕ) (entry : Option Property) (e : View) : Type 0 where
  pub rows : (k : ℕ) → e.rows k ≡ with_entry d.rows number entry k
  pub tally : e.tally ≡ min (d.tally + 1) 4294967295

-- accepted, the entry is put; refused, nothing changes
abbrev pub Moved : View → (number : ℕ) → Option Property → (accepted : Bool) → View → Type 0
Moved d number entry true e = Changed d number entry e
Moved d number entry false e = Untouched d e

-- an enter: refused as the table says, or the text's property is under the number
pub record Entered (d : View) (number : ℕ) (text : List ℕ) (r : Result (Unit {0}) Refusal) (e : View) : Type 0 where
  pub refusal : refusal_in r ≡ due_enter number text
  pub moved : Moved d number (property_in (read text)) (accepted r) e

-- a strike: refused as the table says, or nothing is under the number any more
pub record Struck (d : View) (number : ℕ) (r : Result (Unit {0}) Refusal) (e : View) : Type 0 where
  pub refusal : refusal_in r ≡ due_strike d.rows number
  pub moved : Moved d number None (accepted r) e

-- a show: refused as the table says, or the canonical text of what is under the number; nothing changes
pub record WasShown (d : View) (number room : ℕ) (r : Result (List ℕ) Refusal) (e : View) : Type 0 where
  pub refusal : refusal_in r ≡ due_show d.rows number room
  pub text : Shows r (d.rows number)
  pub same : Untouched d e

-- what a check says is so
abbrev pub Right : Kripke → Property → Finding → Type 0
Right m f holds = NeverFalsified m f
Right m f (broken p) = Counterexample m f p

-- what a check says of an entry is so
abbrev pub Sound : Kripke → Result Finding Refusal → Option Property → Type 0
Sound m (Ok v) (Some f) = Right m f v
Sound m (Ok v) None = ⊥
Sound m (Err why) entry = Unit {0}

-- a check: refused as the table says, or right about what is under the number; nothing changes
pub record WasChecked (d : View) (m : Kripke) (number scratch trace : ℕ) (r : Result Finding Refusal) (e : View) : Type 0 where
  pub refusal : refusal_in r ≡ due_check d.rows m number scratch trace
  pub sound : Sound m r (d.rows number)
  pub same : Untouched d e

-- a tally: what the docket counted; nothing changes
pub record WasTallied (d : View) (n : ℕ) (e : View) : Type 0 where
  pub counted : n ≡ d.tally
  pub same : Untouched d e

-- the turn t takes the docket d to e
abbrev pub Takes : View → Turn → View → Type 0
Takes d (enter number text r) e = Entered d number text r e
Takes d (strike number r) e = Struck d number r e
Takes d (show number room r) e = WasShown d number room r e
Takes d (check m number scratch trace r) e = WasChecked d m number scratch trace r e
Takes d (tally n) e = WasTallied d n e

-- a new docket: nothing is under any number, and nothing was counted
pub record Fresh (d : View) : Type 0 where
  pub rows : (k : ℕ) → d.rows k ≡ None
  pub tally : d.tally ≡ 0

-- the turns of h, made of one new docket, led to d
pub data Led : History → View → Type 0 where
  new : {d : View} → Fresh d → Led [] d
  and_then : {h : History} {d e : View} {t : Turn} → Led h d → Takes d t e → Led (t ∷ h) e

-- One turn, of a docket that any history led to where it is: it takes the docket onward, so the history with this turn leads on,
-- and that history is lawful.
pub record ByLaw (d : View) (t : Turn) (e : View) : Type 0 where
  pub takes : Takes d t e
  pub leads : (h : History) → Led h d → Led (t ∷ h) e
  pub lawful : (h : History) → Led h d → Lawful (t ∷ h)

-- Whatever turns lead a new docket somewhere, they are lawful.
abbrev pub TurnsAreLawful : Type 0
TurnsAreLawful = (h : History) (d : View) → Led h d → Lawful h

-- Every turn that takes a docket onward does so by law.
abbrev pub TurnsGoByLaw : Type 0
TurnsGoByLaw = (d : View) (t : Turn) (e : View) → Takes d t e → ByLaw d t e

-- the docket has what the ledger says
pub record Agrees (h : History) (d : View) : Type 0 where
  pub rows : (k : ℕ) → d.rows k ≡ (ledger h).under k
  pub tallied : d.tally ≡ min (changes h) 4294967295

-- Nothing but turns changes a docket: it has what the ledger of the turns that led to it says.
abbrev pub DocketKeepsLedger : Type 0
DocketKeepsLedger = (h : History) (d : View) → Led h d → Agrees h d
