-- What a writer has written.
use Rattle.std.specs.Prelude.{◌≡◌, ℕ, ◌+◌, List, length}
use Rattle.frames.specs.Areas.{written}
use Rattle.frames.specs.declared.writers.Writer.{Writer}

-- bytes were written from the place on, which is then past them; the area is the same
pub record Writes (old new : Writer) (bytes : List ℕ) : Type 0 where
  pub same_area : new.area.ghost_name ≡ old.area.ghost_name
  pub area : new.area.now ≡ written old.area.now old.at bytes
  pub place : new.at ≡ old.at + length bytes
