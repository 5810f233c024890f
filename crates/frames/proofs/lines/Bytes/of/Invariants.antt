use Rattle.std.proofs.Common.{◌≡◌, length, take}
use Rattle.frames.specs.Lines.{spelt}
use Rattle.frames.proofs.lines.Bytes.of.Given as goal

abbrev pub invariant-loop-k : goal.invariant-loop-k
invariant-loop-k l = (take l.k l.head ≡ take l.k (spelt l.digits)) × (length l.head ≡ 7)
