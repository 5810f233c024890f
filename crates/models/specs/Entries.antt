-- The lines of a table: the first byte that a line spells is its kind, the rest are its fields.
use Rattle.std.specs.Prelude.{◌≡◌, ℕ, take, ◌+◌, ◌*◌, cond, List, length, Ok, Err, Result, ◌==◌, nat_lt, slice_index}
use Rattle.frames.specs.Lines.{first_line, spelt}
use Rattle.frames.specs.declared.faults.LineFault.{LineFault}
use Rattle.frames.specs.declared.faults.FrameFault.{FrameFault}
use Rattle.frames.specs.declared.faults.FrameFault.TheVariants.{Line, Kind, Count}
use Rattle.frames.specs.declared.faults.Refusal.{Refusal}
use Rattle.frames.specs.declared.faults.Refusal.TheVariants.{Frame, Order}
use Rattle.models.specs.declared.entries.Opening.{Opening}
use Rattle.models.specs.declared.entries.Entry.{Entry}
use Rattle.models.specs.declared.entries.Entry.TheVariants.{State, Edge}

-- the number that two bytes say, the higher first
abbrev pub two_bytes : (high low : ℕ) → ℕ
two_bytes high low = 256 * high + low

-- the number that the bytes at the places k and k + 1 say
abbrev pub number_at : List ℕ → ℕ → ℕ
number_at bytes k = two_bytes (slice_index bytes k) (slice_index bytes (k + 1))

-- of a line that has to have so many bytes: what it says, or that the number of its fields is at fault
abbrev pub of_length : {F : Type 0} → ℕ → List ℕ → F → Result F FrameFault
of_length n bytes f = cond (length bytes == n) (Ok f) (Err (Count 1))

-- what the bytes of a table's first line say: kind 01, the number of states in two bytes, the number of fair sets in one
abbrev pub opening : List ℕ → Result Opening FrameFault
opening bytes =
    cond (slice_index bytes 0 == 0x01) (of_length 4 bytes (record { states = number_at bytes 1; sets = slice_index bytes 3 }))
    (Err (Kind 1))

-- what the bytes of a later line say: kind 02, a state, its label, its flags; or kind 03, a pair of states
abbrev pub entry : List ℕ → Result Entry FrameFault
entry bytes =
    cond (slice_index bytes 0 == 0x02) (of_length 6 bytes (State (number_at bytes 1) (number_at bytes 3) (slice_index bytes 5)))
    (cond (slice_index bytes 0 == 0x03) (of_length 5 bytes (Edge (number_at bytes 1) (number_at bytes 3)))
    (Err (Kind 1)))

-- with what is said, how many bytes the line has that says it
abbrev pub sized : {F : Type 0} → ℕ → Result F FrameFault → Result (F × ℕ) FrameFault
sized size (Ok f) = Ok (f, size)
sized size (Err fault) = Err fault

-- what the digits of a line say, with the line's size, its 0A counted; or the fault of its form, which comes first
abbrev pub framed : {F : Type 0} → (List ℕ → Result F FrameFault) → Result (List ℕ) LineFault → Result (F × ℕ) FrameFault
framed frame (Ok digits) = sized (length digits + 1) (frame (spelt digits))
framed frame (Err fault) = Err (Line fault)

-- what is said by a line of this size that is the whole text; bytes after it are out of order
abbrev pub alone : {F : Type 0} → List ℕ → Result (F × ℕ) FrameFault → Result F Refusal
alone text (Ok said) = cond (nat_lt said.1 (length text)) (Err (Order 1)) (Ok said.0)
alone text (Err fault) = Err (Frame fault)

-- what one line says, told as line 1. Judged in this order: its form, its kind, the number of its fields, and that nothing stands after its 0A
abbrev pub line_says : {F : Type 0} → (List ℕ → Result F FrameFault) → List ℕ → Result F Refusal
line_says frame text = alone text (framed frame (first_line 1 text))

-- a reading of at most seven bytes gives what the frame says of all of them
pub record Reads {F : Type 0} (gives : List ℕ → Result F FrameFault → Type 0) (frame : List ℕ → Result F FrameFault) : Type 0 where
  pub is : (bytes : List ℕ) (said : Result F FrameFault) → gives bytes said → said ≡ frame bytes
  pub enough : (bytes : List ℕ) → frame (take 7 bytes) ≡ frame bytes
