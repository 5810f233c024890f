-- What the calls answer, and what they leave in the areas that they are lent.
use Rattle.std.specs.Prelude.{◌≡◌, ℕ, Bool, cond, List, ◌++◌, length, drop, Some, None, Ok, Err, Option, Result, nat_lt}
use Rattle.frames.specs.declared.faults.Refusal.{Refusal}
use Rattle.frames.specs.declared.faults.Refusal.TheVariants.{Number}
use Rattle.language.specs.Canonical.{canonical}
use Rattle.language.specs.Properties.{Property, WellFormed}
use Rattle.kripke.specs.Lassos.{Lasso}
use Rattle.kripke.specs.Models.{Kripke}
use Rattle.lassos.specs.Judging.{Judged}
use Rattle.decision.specs.declared.verdict.Verdict.{Verdict}
use Rattle.decision.specs.Deciding.{Outcome}
use Rattle.ledger.specs.Runs.{View}
use Rattle.ledger.specs.Table.{due_show}
use Rattle.ledger.specs.Turns.{refusal_in}

-- the numbers go from 0 to 7
abbrev pub numbered : (number : ℕ) → Result (Unit {0}) Refusal
numbered number = cond (nat_lt 7 number) (Err Number) (Ok tt)

-- the area after a show: the canonical text, whose length is told, and past it what stood there before; a refusal leaves it as it stood
abbrev pub ShownIn : Result ℕ Refusal → Option Property → (area area' : List ℕ) → Type 0
ShownIn (Ok n) (Some f) area area' = (n ≡ length (canonical f)) × (area' ≡ canonical f ++ drop (length (canonical f)) area)
ShownIn (Ok n) None area area' = ⊥
ShownIn (Err why) entry area area' = area' ≡ area

-- a show: refused as the table says, or written; the area was `area` and is area'
pub record Shown (d : View) (number : ℕ) (area area' : List ℕ) (r : Result ℕ Refusal) : Type 0 where
  pub refusal : refusal_in r ≡ due_show d.rows number (length area)
  pub left : ShownIn r (d.rows number) area area'

-- a check of what was found under a number: what is decided about the property, or why none was found, with both areas as they were;
-- scratch and trace are before it what scratch' and trace' are after it
abbrev pub CheckedAs : Kripke → Result Property Refusal → (scratch scratch' trace trace' : List ℕ) → Result Verdict Refusal → Type 0
CheckedAs m (Ok f) scratch scratch' trace trace' r = Outcome m f scratch scratch' trace trace' r
CheckedAs m (Err why) scratch scratch' trace trace' r = (r ≡ Err why) × (scratch' ≡ scratch) × (trace' ≡ trace)

-- a judgement of a lasso by what was found under a number: what the judge says of the property, or why none was found, with the scratch as it was
abbrev pub JudgedAs : Kripke → Result Property Refusal → Lasso → (scratch scratch' : List ℕ) → Result Bool Refusal → Type 0
JudgedAs m (Ok f) p scratch scratch' r = Judged m f p scratch scratch' r
JudgedAs m (Err why) p scratch scratch' r = (r ≡ Err why) × (scratch' ≡ scratch)

-- every property in a docket is within the limits, with operands below their nodes
abbrev pub WithinLimits : View → Type 0
WithinLimits d = (k : ℕ) (f : Property) → d.rows k ≡ Some f → WellFormed f
