-- Which property a text spells, or which refusal it gets: the text is cut into lines, and each line in turn is judged by what was read before it.
use Rattle.std.specs.Prelude.{ℕ, suc, ◌-◌, Bool, true, false, cond, not, ◌&&◌, ◌||◌, List, [], ◌∷◌, ◌++◌, length, Ok, Err, Result, ◌==◌, nat_le, nat_lt, slice_set}
use Rattle.frames.specs.declared.faults.LineFault.TheVariants.{Unclosed}
use Rattle.frames.specs.declared.faults.FrameFault.{FrameFault}
use Rattle.frames.specs.declared.faults.FrameFault.TheVariants.{Line}
use Rattle.frames.specs.declared.faults.Refusal.{Refusal}
use Rattle.frames.specs.declared.faults.Refusal.TheVariants.{Frame as Framed, Order, Value, Limit}
use Rattle.frames.specs.Frames.{Frame, Node, frame_of_line}
use Rattle.frames.specs.Frames.Frame.{connective, transition, node, end}
use Rattle.frames.specs.Lines.{cut}
use Rattle.language.specs.Properties.{Connective, Property, idle, connective_at, connective_fits, node_fits, width}

-- What the lines so far have said.
pub record Draft : Type 0 where
  pub connectives : List Connective
  pub nodes : List Node
  -- the end line was read
  pub ended : Bool

abbrev pub blank : Draft
blank = record { connectives = []; nodes = []; ended = false }

abbrev pub is_empty : {A : Type 0} → List A → Bool
is_empty [] = true
is_empty (x ∷ xs) = false

-- Connectives and transitions stand before the first node, a transition after a connective, the end after a node, and nothing after the end.
abbrev pub in_order : Draft → Frame → Bool
in_order d (connective m n q f) = not d.ended && is_empty d.nodes
in_order d (transition p a r) = not d.ended && (is_empty d.nodes && not (is_empty d.connectives))
in_order d (node n) = not d.ended
in_order d end = not d.ended && not (is_empty d.nodes)

-- the latest connective
abbrev pub latest : List Connective → Connective
latest cs = connective_at cs (length cs - 1)

-- every field has one of its values
abbrev pub in_range : Draft → Frame → Bool
in_range d (connective m n q f) = connective_fits (idle m n q f)
in_range d (transition p a r) =
    nat_lt p (latest d.connectives).states && (nat_lt a (latest d.connectives).letters && nat_lt r (latest d.connectives).states)
in_range d (node n) = node_fits d.connectives (length d.nodes) n
in_range d end = true

-- at most 4 connectives, 32 nodes, and a width of 12
abbrev pub within_limits : Draft → Frame → Bool
within_limits d (connective m n q f) = nat_lt (length d.connectives) 4
within_limits d (transition p a r) = true
within_limits d (node n) = nat_lt (length d.nodes) 32 && nat_le (width d.connectives (d.nodes ++ n ∷ [])) 12
within_limits d end = true

-- a connective with one more transition; one that it has already adds nothing
abbrev pub moving : ℕ → ℕ → ℕ → Connective → Connective
moving p a r c = record {
  states = c.states;
  letters = c.letters;
  start = c.start;
  finals = c.finals;
  may = λ x y z. (x == p && (y == a && z == r)) || c.may x y z;
}

-- a draft with what one more line says
abbrev pub extended : Draft → Frame → Draft
extended d (connective m n q f) = record { connectives = d.connectives ++ idle m n q f ∷ []; nodes = d.nodes; ended = d.ended }
extended d (transition p a r) = record {
  connectives = slice_set d.connectives (length d.connectives - 1) (moving p a r (latest d.connectives));
  nodes = d.nodes;
  ended = d.ended;
}
extended d (node n) = record { connectives = d.connectives; nodes = d.nodes ++ n ∷ []; ended = d.ended }
extended d end = record { connectives = d.connectives; nodes = d.nodes; ended = true }

-- a frame at line n: its order is judged first, then its values, then the limits
abbrev pub taken : ℕ → Draft → Frame → Result Draft Refusal
taken n d f =
    cond (in_order d f)
    (cond (in_range d f)
    (cond (within_limits d f)
    (Ok (extended d f))
    (Err (Limit n)))
    (Err (Value n)))
    (Err (Order n))

-- what is wrong with the line as a frame comes before all that
abbrev pub taken_frame : ℕ → Draft → Result Frame FrameFault → Result Draft Refusal
taken_frame n d (Ok f) = taken n d f
taken_frame n d (Err e) = Err (Framed e)

-- the draft after the line n, closed and without its 0A, or the line's own refusal
abbrev pub judged : ℕ → Draft → List ℕ → Result Draft Refusal
judged n d line = taken_frame n d (frame_of_line n line)

abbrev pub property : Draft → Property
property d = record { connectives = d.connectives; nodes = d.nodes }

-- what comes of a draft once all lines are read: bytes that no 0A closes are a fault, and so is a missing end, of the line n after the last
abbrev pub finished : ℕ → Draft → List ℕ → Result Property Refusal
finished n d [] = cond d.ended (Ok (property d)) (Err (Order n))
finished n d (b ∷ rest) = Err (Framed (Line (Unclosed n)))

-- an answer, handed on where it is no refusal
abbrev pub onward : {A B : Type 0} → Result A Refusal → (A → Result B Refusal) → Result B Refusal
onward (Ok x) f = f x
onward (Err e) f = Err e

-- the lines from number n on, and the bytes that no 0A closes
abbrev pub lines_read : ℕ → Draft → List (List ℕ) → List ℕ → Result Property Refusal
lines_read n d [] rest = finished n d rest
lines_read n d (line ∷ lines) rest = onward (judged n d line) (λ e. lines_read (suc n) e lines rest)

-- a text of more than 65,536 bytes is refused before its lines are looked at
abbrev pub read : List ℕ → Result Property Refusal
read text = cond (nat_le (length text) 65536) (lines_read 1 blank (cut text).lines (cut text).rest) (Err (Limit 0))
