use Rattle.std.proofs.Common.{refl}
use Rattle.examples.proofs.Known.{Alternating, Alternating_from_both, Always_true, Even_times, Eventually, May_go, Must_go, Never_true, Not_final_start, Stuck, Third_times, over}
use Rattle.examples.proofs.Alternating.{even_times_hold, negated_final_start_breaks, second_start_breaks, third_times_break}
use Rattle.examples.proofs.Going.{fairness_holds, unfair_staying_breaks, without_lassos}
use Rattle.examples.proofs.Pairing.{pairs_have_a_limit}
use Rattle.examples.proofs.small_models.Goals as goal

pub returns : goal.returns
returns c = record {
  even_times_hold = over _ Alternating Even_times refl refl (even_times_hold, record { of_scratch = refl; of_trace = refl; enough = refl });
  a_word_less_is_refused = over _ Alternating Even_times refl refl (refl, refl);
  second_start_breaks = over _ Alternating_from_both Even_times refl refl second_start_breaks;
  third_times_break = over _ Alternating Third_times refl refl third_times_break;
  fairness_decides = (over _ May_go Eventually refl refl unfair_staying_breaks, over _ Must_go Eventually refl refl fairness_holds);
  nothing_breaks_without_lassos = (
    over _ Stuck Always_true refl refl (without_lassos Always_true),
    over _ Stuck Never_true refl refl (without_lassos Never_true),
  );
  negated_final_start_breaks = over _ Alternating Not_final_start refl refl negated_final_start_breaks;
  transitions_rise = record { property = Even_times; reads = refl; so = (refl, refl) };
  pairs_have_a_limit = pairs_have_a_limit;
}
