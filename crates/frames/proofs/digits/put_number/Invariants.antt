use Rattle.std.proofs.Common.{◌≡◌, ◌+◌}
use Rattle.frames.specs.Areas.{written}
use Rattle.frames.specs.Digits.{hexadecimal}
use Rattle.frames.proofs.digits.put_number.Given as goal

-- what is left to write, written from the place that was reached, gives the whole
abbrev pub invariant-loop-k : goal.invariant-loop-k
invariant-loop-k l = (written l.area l.place (hexadecimal l.k l.number) ≡ written l.initial.area l.at (hexadecimal l.digits l.number)) × (l.place + l.k ≡ l.at + l.digits)
