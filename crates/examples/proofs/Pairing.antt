-- Pairs of large models.
use Rattle.std.proofs.Common.{◌≡◌, ℕ, ◌+◌, ◌≤◌, cond, replicate, Some, refl, ap, ◌∙◌, ap₂}
use Rattle.std.proofs.lemmas.Bool.{le-leb}
use Rattle.frames.specs.declared.faults.Refusal.TheVariants.{Model}
use Rattle.kripke.specs.Models.{Kripke}
use Rattle.language.specs.Properties.{Property, width}
use Rattle.models.specs.Pairs.{pair, pair_states}
use Rattle.decision.specs.Deciding.{refusal}
use Rattle.examples.specs.Small.{LargePairs, refused_with}
use Rattle.examples.proofs.Known.{with_words}

-- 65536 states are not too many
full : (l r : Kripke) → l.states ≡ 256 → r.states ≡ 256 → l.sets + r.sets ≤ 8 → (pair l r).states ≡ 65536
full l r a b few =
    ap₂ (λ n m. pair_states n m l.sets r.sets) a b ∙ ap (λ t. cond t 65536 0) (le-leb (l.sets + r.sets) 8 few)

-- 90000 are
void : (l r : Kripke) → l.states ≡ 300 → r.states ≡ 300 → (pair l r).states ≡ 0
void l r a b = ap₂ (λ n m. pair_states n m l.sets r.sets) a b

-- a void model is refused first
refused : (l r : Kripke) → l.states ≡ 300 → r.states ≡ 300 → (f : Property) (scratch trace : ℕ) → refused_with (pair l r) f scratch trace ≡ Some Model
refused l r a b f scratch trace = ap (λ n. refusal n (pair l r).sets (width f.connectives f.nodes) scratch trace) (void l r a b)

pub pairs_have_a_limit : LargePairs
pairs_have_a_limit = record {
  full = full;
  void = void;
  refused = refused;
  refusal_number = refl;
  tables_of_256 = record { after = with_words 256 0 0 (replicate 256 0); taken = refl; so = (refl, refl) };
  tables_of_300 = record { after = with_words 300 0 0 (replicate 300 0); taken = refl; so = (refl, refl) };
}
