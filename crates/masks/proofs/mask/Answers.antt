use Rattle.std.proofs.Common.{ℕ, ◌^◌, ◌<◌, Bool}
use Rattle.masks.proofs.Masking.{digits_fit, more_told}
use Rattle.masks.proofs.mask.Goals as goal

pub loop-i-preserved : goal.loop-i-preserved
loop-i-preserved g c =
    let i : ℕ = c.loop-i.i in
    let m : ℕ = c.loop-i.all in
    let low : m < 2 ^ i = c.loop-i.invariant.low in
    let v : Bool = c.test.result in
    let r : ℕ = c.with-all.result in
    let told : ℕ → Bool → Type 0 = goal.F-post g c.args.test in
    record {
      low = digits_fit r m i v low c.with-all.ensures.number;
      told = more_told r m i v told c.with-all.ensures.bits c.test.ensures c.loop-i.invariant.told;
    }
