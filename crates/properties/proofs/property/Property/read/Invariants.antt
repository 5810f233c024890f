use Rattle.std.proofs.Common.{◌≡◌, ◌+◌, ◌-◌, ◌≤◌, length, drop}
use Rattle.frames.specs.Lines.{cut}
use Rattle.language.specs.Reading.{lines_read, read}
use Rattle.properties.specs.Meaning.{of_draft}
use Rattle.properties.proofs.property.Property.read.Given as goal

-- what is left of the text, read on from the draft, gives what the whole text gives
abbrev pub invariant-loop-at : goal.invariant-loop-at
invariant-loop-at l = record {
  within : l.at ≤ length l.text;
  numbered : l.number ≤ l.at + 1;
  same : read l.text ≡ lines_read l.number (of_draft l.draft) (cut (drop l.at l.text)).lines (cut (drop l.at l.text)).rest;
}

abbrev pub decreases-loop-at : goal.decreases-loop-at
decreases-loop-at l = length l.text - l.at
