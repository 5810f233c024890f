-- The laws of reading and writing, in the words of the subject.
use Rattle.std.specs.Prelude.{◌≡◌, ℕ, suc, ◌+◌, ◌<◌, ◌≤◌, false, List, [], ◌∷◌, ◌++◌, length, Ok, Err, Result}
use Rattle.frames.specs.declared.faults.LineFault.TheVariants.{Unclosed}
use Rattle.frames.specs.declared.faults.FrameFault.TheVariants.{Line}
use Rattle.frames.specs.declared.faults.Refusal.{Refusal}
use Rattle.frames.specs.declared.faults.Refusal.TheVariants.{Frame as Framed, Order, Limit}
use Rattle.frames.specs.Frames.{frame_of_line}
use Rattle.frames.specs.Frames.Frame.{end}
use Rattle.frames.specs.Lines.{cut}
use Rattle.language.specs.Properties.{Property, WellFormed}
use Rattle.language.specs.Reading.{Draft, blank, judged, property, read}
use Rattle.language.specs.Canonical.{canonical}

-- Lines are taken one after the other, the first as line n, from one draft to another.
pub data Taken : ℕ → Draft → List (List ℕ) → Draft → Type 0 where
  none : (n : ℕ) (d : Draft) → Taken n d [] d
  more : (n : ℕ) (d e f : Draft) (line : List ℕ) (lines : List (List ℕ)) → judged n d line ≡ Ok e → Taken (suc n) e lines f → Taken n d (line ∷ lines) f

-- What decides about a text.
pub data Decided (text : List ℕ) : Result Property Refusal → Type 0 where
  -- it is too long, and no line is looked at
  too_long : 65536 < length text → Decided text (Err (Limit 0))
  -- the first line at fault: all lines before it are taken, and the refusal is that line's own
  faulty :
      (before after : List (List ℕ)) (line : List ℕ) (d : Draft) (r : Refusal) →
      length text ≤ 65536 →
      (cut text).lines ≡ before ++ line ∷ after →
      Taken 1 blank before d →
      judged (1 + length before) d line ≡ Err r →
      Decided text (Err r)
  -- every line is taken, and bytes follow that no 0A closes
  unclosed :
      (d : Draft) →
      length text ≤ 65536 →
      Taken 1 blank (cut text).lines d →
      0 < length (cut text).rest →
      Decided text (Err (Framed (Line (Unclosed (1 + length (cut text).lines)))))
  -- every line is taken, and none is the end
  endless :
      (d : Draft) →
      length text ≤ 65536 →
      Taken 1 blank (cut text).lines d →
      (cut text).rest ≡ [] →
      d.ended ≡ false →
      Decided text (Err (Order (1 + length (cut text).lines)))
  -- every line is taken, and the end stands last
  whole :
      (before : List (List ℕ)) (line : List ℕ) (d e : Draft) →
      length text ≤ 65536 →
      (cut text).lines ≡ before ++ line ∷ [] →
      (cut text).rest ≡ [] →
      Taken 1 blank before d →
      frame_of_line (1 + length before) line ≡ Ok end →
      judged (1 + length before) d line ≡ Ok e →
      Decided text (Ok (property e))

-- Reading answers exactly what decides.
pub record ReadingIsDecided : Type 0 where
  pub decides : (text : List ℕ) → Decided text (read text)
  pub only : (text : List ℕ) (r : Result Property Refusal) → Decided text r → read text ≡ r

-- A property that is read keeps to the limits, with its operands lower than its nodes.
abbrev pub ReadingIsWellFormed : Type 0
ReadingIsWellFormed = (text : List ℕ) (p : Property) → read text ≡ Ok p → WellFormed p

-- The canonical text of a property reads back as that property.
abbrev pub CanonicalReadsBack : Type 0
CanonicalReadsBack = (p : Property) → WellFormed p → read (canonical p) ≡ Ok p

-- So the canonical text of what a text spells is read as the same property, and shows as itself.
abbrev pub ShownShowsItself : Type 0
ShownShowsItself = (text : List ℕ) (p : Property) → read text ≡ Ok p → read (canonical p) ≡ Ok p
