-- How many rounds the loop builder makes, and how many words they write.
use Rattle.std.specs.Prelude.{Bool, ℕ, suc, ◌+◌, ◌-◌, ◌*◌, ◌≤◌}
use Rattle.kripke.specs.Models.{Kripke}
use Rattle.masks.specs.Masks.{bit}
use Rattle.language.specs.Properties.{Property, WellFormed, node_width}
use Rattle.logic.specs.Truth.{node_at}
use Rattle.logic.specs.Product.{start_of}
use Rattle.tableau.specs.Walks.{Vertex, DischargedAt}
use Rattle.tableau.specs.Rounds.{count}
use Rattle.tableau.specs.Masked.{pending_mask}

-- how many obligations node k has at v
abbrev pub due_count : Kripke → Property → Vertex → ℕ → ℕ
due_count m f v k = count (node_width f.connectives (node_at f k)) (bit (pending_mask m f v k))

-- The bounds on rounds and words.
pub record Budget : Type 0 where
  -- the rounds up to node k are fewer than the bits up to it, if there are bits
  pub node : (m : Kripke) (f : Property) → WellFormed f → (S : Vertex → Bool) (v : Vertex) → DischargedAt m f S v → (k rounds : ℕ) → rounds ≤ start_of f k - 1 →
      rounds + due_count m f v k ≤ start_of f (suc k) - 1
  -- with e bits and n vertices, rounds of at most (e + 1) * n words each fit into e * e * n
  pub room : (e n rounds words : ℕ) → rounds ≤ e - 1 → words ≤ rounds * ((e + 1) * n) → words ≤ e * e * n
