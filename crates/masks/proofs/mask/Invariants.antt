use Rattle.std.proofs.Common.{ℕ, ◌^◌, ◌<◌}
use Rattle.masks.specs.Masks.{bit}
use Rattle.masks.proofs.mask.Given as goal

abbrev pub invariant-loop-i : goal.invariant-loop-i
invariant-loop-i g l = record {
  low : l.all < 2 ^ l.i;
  told : (k : ℕ) → k < l.i → goal.F-post g l.test k (bit l.all k);
}
