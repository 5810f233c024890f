-- A property that is read is well formed.
use Rattle.std.proofs.Common.{◌≡◌, ℕ, ◌+◌, true, List, length, Ok, Result, subst}
use Rattle.frames.specs.declared.faults.Refusal.{Refusal}
use Rattle.language.specs.Properties.{Property, WellFormed}
use Rattle.language.specs.Reading.{Draft, property, read}
use Rattle.language.specs.Laws.{Decided}
use Rattle.language.specs.Laws.Decided.{too_long, faulty, unclosed, endless, whole}
use Rattle.language.proofs.Deciding.{decides, end_shuts}
use Rattle.language.proofs.Drafts.{Kept, kept, kept_blank, kept_line}

formed : (e : Draft) → e.ended ≡ true → Kept e → WellFormed (property e)
formed e shut k = record {
  few_connectives = k.few_connectives;
  connectives_fit = k.connectives_fit;
  moves_fit = k.moves_fit;
  rooted = k.rooted shut;
  few_nodes = k.few_nodes;
  operands_lower = k.operands_lower;
  narrow = k.narrow;
}

decided_formed : (text : List ℕ) (p : Property) {r : Result Property Refusal} → Decided text r → r ≡ Ok p → WellFormed p
decided_formed text p (too_long h) is = cc
decided_formed text p (faulty before after line d r h s t j) is = cc
decided_formed text p (unclosed d h t l) is = cc
decided_formed text p (endless d h t r going) is = cc
decided_formed text p (whole before line d e h s r t ending j) is =
    let q : property e ≡ p = cc in
    subst WellFormed q (formed e (end_shuts (1 + length before) d e line ending j) (kept_line (1 + length before) d e line j (kept t kept_blank)))

pub well_formed : (text : List ℕ) (p : Property) → read text ≡ Ok p → WellFormed p
well_formed text p is = decided_formed text p (decides text) is
