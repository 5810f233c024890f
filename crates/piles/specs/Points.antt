-- A model of one state, a start that leads to itself and lies in every fair set.
use Rattle.std.specs.Prelude.{ℕ, ◌&&◌, ◌==◌, nat_lt}
use Rattle.models.specs.Markings.{Marking}

abbrev pub point_marking : (sets : ℕ) → Marking
point_marking sets = record { sets = sets; label = λ s. 0; start = λ s. (s == 0); fair = λ j s. nat_lt j sets && (s == 0) }
