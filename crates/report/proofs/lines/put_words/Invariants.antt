use Rattle.std.proofs.Common.{◌≡◌, ◌+◌, ◌*◌, take}
use Rattle.std.specs.List.{flat_map}
use Rattle.frames.specs.Writers.{Writes}
use Rattle.report.specs.Reports.{word_line}
use Rattle.report.proofs.lines.put_words.Given as goal

abbrev pub invariant-loop-w : goal.invariant-loop-w
invariant-loop-w l = record { wrote : Writes l.initial.to l.to (flat_map word_line (take l.w-index l.words)); near : l.to.at ≡ l.initial.to.at + 7 * l.w-index }
