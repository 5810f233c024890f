-- What the definitions that the contracts use say of small models: when a property is falsified, what a check is refused with, how a property shows.
use Rattle.std.specs.Prelude.{◌≡◌, ℕ, ◌+◌, ◌≤◌, List, [], ◌∷◌, length, Some, None, Option}
use Rattle.frames.specs.declared.faults.Refusal.{Refusal}
use Rattle.frames.specs.declared.faults.Refusal.TheVariants.{Model, Scratch}
use Rattle.frames.specs.Refusals.{number}
use Rattle.kripke.specs.Models.{Kripke}
use Rattle.kripke.specs.Lassos.{Lasso, LassoOf}
use Rattle.language.specs.Canonical.{canonical}
use Rattle.language.specs.Properties.{Property, width}
use Rattle.logic.specs.OnLassos.{Counterexample}
use Rattle.models.specs.Pairs.{pair}
use Rattle.decision.specs.Deciding.{NeverFalsified, refusal, scratch_words, trace_words}
use Rattle.examples.specs.Texts.{Fills, Over, Spells}
use Rattle.examples.specs.Tables.{alternating, alternating_from_both, may_go, must_go, of_256_states, of_300_states, stuck}
use Rattle.examples.specs.Properties.{always_true, even_times, even_times_shown, eventually, never_true, not_final_start, third_times}

-- the lasso that goes through the words again and again, without a stem
abbrev pub circle : List ℕ → Lasso
circle words = record { list = words; stem = 0; loop = length words }

-- what a check is refused with that is lent so many words of scratch and of trace
abbrev pub refused_with : Kripke → Property → (scratch trace : ℕ) → Option Refusal
refused_with m f scratch trace = refusal m.states m.sets (width f.connectives f.nodes) scratch trace

-- A check needs so many words of scratch and of trace, and is not refused with them.
pub record Room (m : Kripke) (f : Property) (scratch trace : ℕ) : Type 0 where
  pub of_scratch : scratch_words m.states (width f.connectives f.nodes) ≡ scratch
  pub of_trace : trace_words m.states m.sets (width f.connectives f.nodes) ≡ trace
  pub enough : refused_with m f scratch trace ≡ None

-- The property is never falsified, since the model has no lasso at all.
pub record WithoutLassos (m : Kripke) (f : Property) : Type 0 where
  pub no_lasso : (p : Lasso) → LassoOf m p → ⊥
  pub never : NeverFalsified m f

-- Pairs of large models. The fair sets are at most 8 together; more would make a pair void too.
pub record LargePairs : Type 0 where
  -- 256 states on each side are not too many
  pub full : (l r : Kripke) → l.states ≡ 256 → r.states ≡ 256 → l.sets + r.sets ≤ 8 → (pair l r).states ≡ 65536
  -- 300 are: the pair is void, and every check over it is refused
  pub void : (l r : Kripke) → l.states ≡ 300 → r.states ≡ 300 → (pair l r).states ≡ 0
  pub refused : (l r : Kripke) → l.states ≡ 300 → r.states ≡ 300 → (f : Property) (scratch trace : ℕ) → refused_with (pair l r) f scratch trace ≡ Some Model
  pub refusal_number : number Model ≡ 10
  -- there are tables of so many states
  pub tables_of_256 : Fills of_256_states (λ m. (m.states ≡ 256) × ((pair m m).states ≡ 65536))
  pub tables_of_300 : Fills of_300_states (λ m. (m.states ≡ 300) × ((pair m m).states ≡ 0))

-- Each part speaks of what the lines of a table and the text of a property spell.
pub record SmallModels : Type 0 where
  -- two states alternate, so what is true at state 0, the start, is true at every even time; a check needs 224 words of scratch and 176 of trace
  pub even_times_hold : Over alternating even_times (λ m f. NeverFalsified m f × Room m f 224 176)
  -- a check that is lent a word less of each is refused, for its scratch
  pub a_word_less_is_refused : Over alternating even_times (λ m f. (refused_with m f 223 175 ≡ Some Scratch) × (number Scratch ≡ 11))
  -- with state 1 as a second start, proposition 0 is false at time 0
  pub second_start_breaks : Over alternating_from_both even_times (λ m f. Counterexample m f (circle (1 ∷ 0 ∷ [])))
  -- time 3 is at state 1: the property is followed over more than one turn of the loop
  pub third_times_break : Over alternating third_times (λ m f. Counterexample m f (circle (0 ∷ 1 ∷ [])))
  -- a model may stay for ever where proposition 0 is false, unless a fair set calls it away
  pub fairness_decides : Over may_go eventually (λ m f. Counterexample m f (circle (0 ∷ []))) × Over must_go eventually NeverFalsified
  -- a model without pairs has no lasso, so nothing is falsified, not even what is never true
  pub nothing_breaks_without_lassos : Over stuck always_true WithoutLassos × Over stuck never_true WithoutLassos
  -- a connective whose start is final is true by the empty word, so its negation is false
  pub negated_final_start_breaks : Over alternating not_final_start (λ m f. Counterexample m f (circle (0 ∷ 1 ∷ [])))
  -- the canonical text has 68 bytes, and in it the transitions of state 0 stand first
  pub transitions_rise : Spells even_times (λ f. (canonical f ≡ even_times_shown) × (length (canonical f) ≡ 68))
  -- a pair has at most 65536 states
  pub pairs_have_a_limit : LargePairs
