-- The canonical form of a text.
use Rattle.std.specs.Prelude.{ℕ, List, Ok, Err, Result}
use Rattle.frames.specs.declared.faults.Refusal.{Refusal}
use Rattle.frames.specs.Refusals.{refusal_text}
use Rattle.language.specs.Canonical.{canonical}
use Rattle.language.specs.Properties.{Property}
use Rattle.language.specs.Reading.{read}

-- the canonical text of a property, or the line that tells a refusal
abbrev pub shown : Result Property Refusal → List ℕ
shown (Ok p) = canonical p
shown (Err r) = refusal_text r

abbrev pub normal : List ℕ → List ℕ
normal text = shown (read text)
