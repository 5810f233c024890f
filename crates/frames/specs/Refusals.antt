-- The table of refusals: the number of each, and the line that it tells.
use Rattle.std.specs.Prelude.{ℕ, List, [], ◌∷◌, ◌++◌}
use Rattle.frames.specs.Digits.{hexadecimal}
use Rattle.frames.specs.declared.faults.LineFault.{LineFault}
use Rattle.frames.specs.declared.faults.LineFault.TheVariants.{Digits, Unclosed}
use Rattle.frames.specs.declared.faults.FrameFault.{FrameFault}
use Rattle.frames.specs.declared.faults.FrameFault.TheVariants.{Line, Kind, Count}
use Rattle.frames.specs.declared.faults.Refusal.{Refusal}
use Rattle.frames.specs.declared.faults.Refusal.TheVariants.{Frame, Order, Value, Store, Number, Vacant, Limit, Model, Scratch, Trace, Room}

abbrev pub line_fault_number : LineFault → ℕ
line_fault_number (Digits line) = 1
line_fault_number (Unclosed line) = 1

abbrev pub frame_fault_number : FrameFault → ℕ
frame_fault_number (Line fault) = line_fault_number fault
frame_fault_number (Kind line) = 2
frame_fault_number (Count line) = 3

abbrev pub number : Refusal → ℕ
number (Frame fault) = frame_fault_number fault
number (Order line) = 4
number (Value line) = 5
number (Store line) = 6
number Number = 7
number Vacant = 8
number (Limit line) = 9
number Model = 10
number Scratch = 11
number Trace = 12
number Room = 13

abbrev pub line_fault_line : LineFault → ℕ
line_fault_line (Digits line) = line
line_fault_line (Unclosed line) = line

abbrev pub frame_fault_line : FrameFault → ℕ
frame_fault_line (Line fault) = line_fault_line fault
frame_fault_line (Kind line) = line
frame_fault_line (Count line) = line

-- lines count from 1; 0 where the refusal was not met in a line
abbrev pub line : Refusal → ℕ
line (Frame fault) = frame_fault_line fault
line (Order at) = at
line (Value at) = at
line (Store at) = at
line Number = 0
line Vacant = 0
line (Limit at) = at
line Model = 0
line Scratch = 0
line Trace = 0
line Room = 0

-- a refusal as a line of text: 43, its number in two digits and its line in eight, closed by 0A
abbrev pub refusal_text : Refusal → List ℕ
refusal_text r = hexadecimal 2 0x43 ++ (hexadecimal 2 (number r) ++ (hexadecimal 8 (line r) ++ 10 ∷ []))
