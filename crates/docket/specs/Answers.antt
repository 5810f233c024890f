-- A call that takes a turn of any kind and answers it: the turn that it was, and what every area holds after it.
use Rattle.std.specs.Prelude.{◌≡◌, ℕ, List, length, take, Some, None, Ok, Err, Option, Result, option_map}
use Rattle.frames.specs.declared.faults.Refusal.{Refusal}
use Rattle.kripke.specs.Models.{Kripke}
use Rattle.decision.specs.declared.verdict.Verdict.{Verdict}
use Rattle.decision.specs.declared.verdict.Verdict.TheVariants.{Holds, Broken}
use Rattle.decision.specs.Deciding.{lasso_in}
use Rattle.ledger.specs.Turns.{Finding, Turn}
use Rattle.ledger.specs.Turns.Finding.{holds, broken}
use Rattle.ledger.specs.Turns.Turn.{enter, strike, show, check, tally}
use Rattle.ledger.specs.Runs.{View, ByLaw}
use Rattle.ledger.specs.Table.{found}
use Rattle.docket.specs.Calls.{CheckedAs, Shown}
use Rattle.docket.specs.declared.requests.Request.{Request}
use Rattle.docket.specs.declared.requests.Request.TheVariants.{Enter, Strike, Show, Check, Tally}
use Rattle.docket.specs.declared.requests.Answer.{Answer}
use Rattle.docket.specs.declared.requests.Answer.TheVariants.{Done, Shown as Showed, Checked, Tallied}

-- The areas that a call is lent: bytes, scratch and trace.
pub record Areas : Type 0 where
  pub bytes : List ℕ
  pub scratch : List ℕ
  pub trace : List ℕ

-- the areas that were lent, by what each holds
abbrev pub lent : (bytes scratch trace : List ℕ) → Areas
lent bytes scratch trace = record { bytes = bytes; scratch = scratch; trace = trace }

-- what a verdict says, with the lasso in the trace that was left
abbrev pub finding : Verdict → (trace : List ℕ) → Finding
finding Holds trace = holds
finding (Broken stem loop) trace = broken (lasso_in trace stem loop)

-- what a check answered, in the law's words
abbrev pub findings : Result Verdict Refusal → (trace : List ℕ) → Result Finding Refusal
findings (Ok v) trace = Ok (finding v trace)
findings (Err why) trace = Err why

-- An answer as that of each kind of turn, or None where it is of another kind.

-- an enter or a strike was accepted
abbrev pub as_done : Answer → Option (Unit {0})
as_done Done = Some tt
as_done (Showed length) = None
as_done (Checked v) = None
as_done (Tallied n) = None

-- how many bytes a show wrote
abbrev pub as_length : Answer → Option ℕ
as_length Done = None
as_length (Showed length) = Some length
as_length (Checked v) = None
as_length (Tallied n) = None

-- what a check said
abbrev pub as_verdict : Answer → Option Verdict
as_verdict Done = None
as_verdict (Showed length) = None
as_verdict (Checked v) = Some v
as_verdict (Tallied n) = None

-- what a tally is
abbrev pub as_count : Answer → Option ℕ
as_count Done = None
as_count (Showed length) = None
as_count (Checked v) = None
as_count (Tallied n) = Some n

-- what a turn of a kind that can be refused got, or None where the answer is of another kind
abbrev pub got : {A : Type 0} → (Answer → Option A) → Result Answer Refusal → Option (Result A Refusal)
got kind (Ok a) = option_map Ok (kind a)
got kind (Err why) = Some (Err why)

-- what a turn of a kind that is never refused got, or None where the answer is of another kind or a refusal
abbrev pub granted : {A : Type 0} → (Answer → Option A) → Result Answer Refusal → Option A
granted kind (Ok a) = kind a
granted kind (Err why) = None

-- the bytes that a show wrote, at the front of the area
abbrev pub front : Result ℕ Refusal → (bytes : List ℕ) → Result (List ℕ) Refusal
front (Ok n) bytes = Ok (take n bytes)
front (Err why) bytes = Err why

-- the turn that a request over the model m, with its answer, was; none where the answer is of another kind
abbrev pub turn_of : Request → (m : Kripke) (before after : Areas) → Result Answer Refusal → Option Turn
turn_of (Enter number text) m before after r = option_map (enter number text.now) (got as_done r)
turn_of (Strike number) m before after r = option_map (strike number) (got as_done r)
turn_of (Show number) m before after r = option_map (λ a. show number (length before.bytes) (front a after.bytes)) (got as_length r)
turn_of (Check number) m before after r = option_map (λ a. check m number (length before.scratch) (length before.trace) (findings a after.trace)) (got as_verdict r)
turn_of Tally m before after r = option_map tally (granted as_count r)

-- there was a turn, and it went by law
abbrev pub WentByLaw : View → Option Turn → View → Type 0
WentByLaw d (Some t) e = ByLaw d t e
WentByLaw d None e = ⊥

-- scratch and trace are as they were
pub record WordsKept (before after : Areas) : Type 0 where
  pub scratch : after.scratch ≡ before.scratch
  pub trace : after.trace ≡ before.trace

-- every area is as it was
pub record AllKept (before after : Areas) : Type 0 where
  pub bytes : after.bytes ≡ before.bytes
  pub scratch : after.scratch ≡ before.scratch
  pub trace : after.trace ≡ before.trace

-- the bytes after a show
abbrev pub BytesLeft : View → (number : ℕ) → (bytes bytes' : List ℕ) → Option (Result ℕ Refusal) → Type 0
BytesLeft d number bytes bytes' (Some r) = Shown d number bytes bytes' r
BytesLeft d number bytes bytes' None = ⊥

-- scratch and trace after a check
abbrev pub WordsLeft : View → Kripke → (number : ℕ) → (before after : Areas) → Option (Result Verdict Refusal) → Type 0
WordsLeft d m number before after (Some r) = CheckedAs m (found d.rows number) before.scratch after.scratch before.trace after.trace r
WordsLeft d m number before after None = ⊥

-- what every area holds after a request: only a show writes bytes, and only a check writes words
abbrev pub AreasLeft : View → Request → Kripke → (before after : Areas) → Result Answer Refusal → Type 0
AreasLeft d (Enter number text) m before after r = AllKept before after
AreasLeft d (Strike number) m before after r = AllKept before after
AreasLeft d (Show number) m before after r = BytesLeft d number before.bytes after.bytes (got as_length r) × WordsKept before after
AreasLeft d (Check number) m before after r = WordsLeft d m number before after (got as_verdict r) × (after.bytes ≡ before.bytes)
AreasLeft d Tally m before after r = AllKept before after

-- where one answer is HOLDS, the other is not BROKEN
abbrev pub NotBrokenIfHolds : (one other : Result Answer Refusal) → Type 0
NotBrokenIfHolds one other = one ≡ Ok (Checked Holds) → (stem loop : ℕ) → ¬ (other ≡ Ok (Checked (Broken stem loop)))

-- two answers do not speak against each other
abbrev pub Agree : (one other : Result Answer Refusal) → Type 0
Agree one other = NotBrokenIfHolds one other × NotBrokenIfHolds other one
