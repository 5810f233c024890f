-- What the program's frames say, with what they borrow from the text written out.
use Rattle.std.specs.Prelude.{ℕ, List, Ok, Err, Result}
use Rattle.std.specs.Borrow.{Bor}
use Rattle.frames.specs.declared.faults.FrameFault.{FrameFault}
use Rattle.frames.specs.declared.faults.LineFault.{LineFault}
use Rattle.frames.specs.declared.kinds.Frame.{Frame as Borrowed}
use Rattle.frames.specs.declared.kinds.Frame.TheVariants.{Connective, Transition, Proposition, Not, Next, And, Or, Apply, True, End}
use Rattle.frames.specs.Frames.{Frame}
use Rattle.frames.specs.Frames.Node.{proposition, negation, next, both, either, apply, truth}
use Rattle.frames.specs.Frames.Frame.{connective, transition, node, end}
use Rattle.frames.specs.Lines.{spelt}

abbrev pub meant : Borrowed → Frame
meant (Connective states letters start finals) = connective states letters start finals
meant (Transition from letter to) = transition from letter to
meant (Proposition p) = node (proposition p)
meant (Not i) = node (negation i)
meant (Next i) = node (next i)
meant (And i j) = node (both i j)
meant (Or i j) = node (either i j)
meant (Apply c operands) = node (apply c (spelt operands.now))
meant True = node truth
meant End = end

abbrev pub framed : Result Borrowed FrameFault → Result Frame FrameFault
framed (Ok f) = Ok (meant f)
framed (Err e) = Err e

-- the same of a frame and a number of bytes
abbrev pub stepped : Result (Borrowed × ℕ) FrameFault → Result (Frame × ℕ) FrameFault
stepped (Ok step) = Ok (meant step.0, step.1)
stepped (Err e) = Err e

-- the digits of a line
abbrev pub lined : Result (Bor (List ℕ)) LineFault → Result (List ℕ) LineFault
lined (Ok digits) = Ok digits.now
lined (Err e) = Err e
