-- What a round asks and makes, and what the rounds of the first nodes have made.
use Rattle.std.specs.Prelude.{◌≡◌, ℕ, ◌+◌, ◌-◌, ◌*◌, ◌^◌, ◌<◌, ◌≤◌, Bool, List, length, take, drop}
use Rattle.frames.specs.Frames.Node.{apply}
use Rattle.kripke.specs.Models.{Kripke}
use Rattle.masks.specs.Masks.{bit}
use Rattle.language.specs.Properties.{Property, node_width}
use Rattle.logic.specs.Product.{mask_width, start_of}
use Rattle.logic.specs.Truth.{node_at}
use Rattle.tableau.specs.Built.{Built}
use Rattle.tableau.specs.Masked.{pending_mask}
use Rattle.tableau.specs.Numbers.{vertex_of, vertices}
use Rattle.tableau.specs.Rounds.{count}
use Rattle.loops.specs.declared.progress.Progress.{Progress}

-- how many bits of a mask are those of obligations of node k
abbrev pub due_count : Property → (k mask : ℕ) → ℕ
due_count f k mask = count (node_width f.connectives (node_at f k)) (bit mask)

-- the words that a walk of the obligation graph may take
abbrev pub round_words : Kripke → Property → ℕ
round_words m f = (mask_width f + 1) * vertices m f

-- node k is a connective node with an obligation that is due, what is written is a loop under construction, and there is room for a round
pub record RoundReady (m : Kripke) (f : Property) (G : ℕ → Bool) (x k : ℕ) (done : Progress) (words : List ℕ) : Type 0 where
  pub node : k < length f.nodes
  pub applied : (c : ℕ) × (is : List ℕ) × (node_at f k ≡ apply c is)
  pub fits : done.due < 2 ^ node_width f.connectives (node_at f k)
  pub some : 0 < done.due
  pub built : Built m f G x k done.due (take done.at words)
  pub room : done.at + round_words m f ≤ length words

-- what a round made of the words, which were `was`: a longer loop under construction, with fewer obligations due; one word past it may be changed
pub record RoundMade (m : Kripke) (f : Property) (G : ℕ → Bool) (x k : ℕ) (done : Progress) (was words : List ℕ) (r : Progress) : Type 0 where
  pub fits : r.due < 2 ^ node_width f.connectives (node_at f k)
  pub fewer : due_count f k r.due < due_count f k done.due
  pub built : Built m f G x k r.due (take r.at words)
  pub further : done.at ≤ r.at
  pub longer : r.at ≤ done.at + round_words m f
  pub rest : drop (r.at + 1) words ≡ drop (r.at + 1) was

-- the nodes below k are done: what is written is a loop under construction on which their obligations are discharged, and there were fewer
-- rounds than bits of these nodes
pub record NodesDone (m : Kripke) (f : Property) (G : ℕ → Bool) (x k at : ℕ) (words : List ℕ) : Type 0 where
  pub built : Built m f G x k (pending_mask m f (vertex_of f x) k) (take at words)
  pub rounds : (n : ℕ) × (n ≤ start_of f k - 1) × (at ≤ n * round_words m f)
