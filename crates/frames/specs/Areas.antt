-- Bytes written into an area that keeps its length.
use Rattle.std.specs.Prelude.{ℕ, suc, cond, List, [], ◌∷◌, ◌++◌, length, drop, Ok, Err, Result, nat_le, slice_set}
use Rattle.frames.specs.declared.faults.Refusal.{Refusal}
use Rattle.frames.specs.declared.faults.Refusal.TheVariants.{Room}

-- the area with bytes written from the place `at` on; what would lie past its end is not written
abbrev pub written : List ℕ → ℕ → List ℕ → List ℕ
written area at [] = area
written area at (b ∷ bytes) = written (slice_set area at b) (suc at) bytes

-- what a call answers that writes a text into an area: the text's length, or that the area is too short
abbrev pub told : List ℕ → List ℕ → Result ℕ Refusal
told text area = cond (nat_le (length text) (length area)) (Ok (length text)) (Err Room)

-- the area after that call: the text and then what stood there before, or all as it was
abbrev pub filled : List ℕ → List ℕ → List ℕ
filled text area = cond (nat_le (length text) (length area)) (text ++ drop (length text) area) area
