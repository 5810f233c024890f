use Rattle.std.proofs.Common.{◌≡◌, ◌+◌, ◌*◌, length, take}
use Rattle.frames.specs.Areas.{written}
use Rattle.language.specs.Canonical.{spelled}
use Rattle.properties.proofs.writing.put_line.Given as goal

abbrev pub invariant-loop-b : goal.invariant-loop-b
invariant-loop-b l = record {
  area : l.area ≡ written l.initial.area l.initial.at (spelled (take l.b-index l.bytes));
  place : l.at ≡ l.initial.at + length (spelled (take l.b-index l.bytes));
  near : l.at ≡ l.initial.at + 2 * l.b-index;
}
