-- What the bytes of a line say: the first is the kind, the rest are its fields.
use Rattle.std.specs.Prelude.{ℕ, ◌+◌, cond, List, [], ◌∷◌, length, Ok, Err, Result, ◌==◌}
use Rattle.frames.specs.declared.faults.LineFault.TheVariants.{Digits, Unclosed}
use Rattle.frames.specs.declared.faults.FrameFault.{FrameFault}
use Rattle.frames.specs.declared.faults.FrameFault.TheVariants.{Line, Kind, Count}
use Rattle.frames.specs.Lines.{cut, proper, spelt}

-- A node of a property. An operand is the number of an earlier node.
pub data Node : Type 0 where
  proposition : ℕ → Node
  negation : ℕ → Node
  next : ℕ → Node
  both : ℕ → ℕ → Node
  either : ℕ → ℕ → Node
  -- a connective's number, and an operand for each of its letters
  apply : ℕ → List ℕ → Node
  truth : Node

-- A line of a property's text.
pub data Frame : Type 0 where
  -- how many states and letters, the start, and the final states as a mask
  connective : ℕ → ℕ → ℕ → ℕ → Frame
  -- of the latest connective: a state may go, on a letter, to a state
  transition : ℕ → ℕ → ℕ → Frame
  node : Node → Frame
  end : Frame

-- The frame of a kind with so many fields; another number of fields is a fault of the line n.
abbrev pub no_field : ℕ → Frame → List ℕ → Result Frame FrameFault
no_field n f [] = Ok f
no_field n f (a ∷ more) = Err (Count n)

abbrev pub one_field : ℕ → (ℕ → Frame) → List ℕ → Result Frame FrameFault
one_field n f [] = Err (Count n)
one_field n f (a ∷ []) = Ok (f a)
one_field n f (a ∷ b ∷ more) = Err (Count n)

abbrev pub two_fields : ℕ → (ℕ → ℕ → Frame) → List ℕ → Result Frame FrameFault
two_fields n f [] = Err (Count n)
two_fields n f (a ∷ []) = Err (Count n)
two_fields n f (a ∷ b ∷ []) = Ok (f a b)
two_fields n f (a ∷ b ∷ c ∷ more) = Err (Count n)

abbrev pub three_fields : ℕ → (ℕ → ℕ → ℕ → Frame) → List ℕ → Result Frame FrameFault
three_fields n f [] = Err (Count n)
three_fields n f (a ∷ []) = Err (Count n)
three_fields n f (a ∷ b ∷ []) = Err (Count n)
three_fields n f (a ∷ b ∷ c ∷ []) = Ok (f a b c)
three_fields n f (a ∷ b ∷ c ∷ d ∷ more) = Err (Count n)

abbrev pub four_fields : ℕ → (ℕ → ℕ → ℕ → ℕ → Frame) → List ℕ → Result Frame FrameFault
four_fields n f [] = Err (Count n)
four_fields n f (a ∷ []) = Err (Count n)
four_fields n f (a ∷ b ∷ []) = Err (Count n)
four_fields n f (a ∷ b ∷ c ∷ []) = Err (Count n)
four_fields n f (a ∷ b ∷ c ∷ d ∷ []) = Ok (f a b c d)
four_fields n f (a ∷ b ∷ c ∷ d ∷ e ∷ more) = Err (Count n)

-- a field, and then one to four more
abbrev pub one_to_four : ℕ → (ℕ → List ℕ → Frame) → List ℕ → Result Frame FrameFault
one_to_four n f [] = Err (Count n)
one_to_four n f (c ∷ []) = Err (Count n)
one_to_four n f (c ∷ i ∷ []) = Ok (f c (i ∷ []))
one_to_four n f (c ∷ i ∷ j ∷ []) = Ok (f c (i ∷ j ∷ []))
one_to_four n f (c ∷ i ∷ j ∷ k ∷ []) = Ok (f c (i ∷ j ∷ k ∷ []))
one_to_four n f (c ∷ i ∷ j ∷ k ∷ l ∷ []) = Ok (f c (i ∷ j ∷ k ∷ l ∷ []))
one_to_four n f (c ∷ i ∷ j ∷ k ∷ l ∷ m ∷ more) = Err (Count n)

-- what the fields of a kind say, or which fault the line n has
abbrev pub frame_of_kind : ℕ → ℕ → List ℕ → Result Frame FrameFault
frame_of_kind n kind fields =
    cond (kind == 0x10) (four_fields n connective fields)
    (cond (kind == 0x11) (three_fields n transition fields)
    (cond (kind == 0x20) (one_field n (λ p. node (proposition p)) fields)
    (cond (kind == 0x21) (one_field n (λ i. node (negation i)) fields)
    (cond (kind == 0x22) (one_field n (λ i. node (next i)) fields)
    (cond (kind == 0x23) (two_fields n (λ i j. node (both i j)) fields)
    (cond (kind == 0x24) (two_fields n (λ i j. node (either i j)) fields)
    (cond (kind == 0x25) (one_to_four n (λ c is. node (apply c is)) fields)
    (cond (kind == 0x26) (no_field n (node truth) fields)
    (cond (kind == 0x2f) (no_field n end fields)
    (Err (Kind n)))))))))))

abbrev pub frame_of_bytes : ℕ → List ℕ → Result Frame FrameFault
frame_of_bytes n [] = Err (Kind n)
frame_of_bytes n (kind ∷ fields) = frame_of_kind n kind fields

-- what the line n says, closed and without its 0A: its form is judged first, then its kind, then the number of its fields
abbrev pub frame_of_line : ℕ → List ℕ → Result Frame FrameFault
frame_of_line n line = cond (proper line) (frame_of_bytes n (spelt line)) (Err (Line (Digits n)))

-- a frame with how many bytes its line has
abbrev pub sized : ℕ → Result Frame FrameFault → Result (Frame × ℕ) FrameFault
sized size (Ok f) = Ok (f, size)
sized size (Err e) = Err e

abbrev pub frame_of_first : ℕ → List (List ℕ) → Result (Frame × ℕ) FrameFault
frame_of_first n [] = Err (Line (Unclosed n))
frame_of_first n (line ∷ lines) = sized (length line + 1) (frame_of_line n line)

-- the first line of a text as a frame, and how many bytes that line has with its 0A
abbrev pub first_frame : ℕ → List ℕ → Result (Frame × ℕ) FrameFault
first_frame n text = frame_of_first n (cut text).lines
