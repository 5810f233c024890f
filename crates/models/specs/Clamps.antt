-- Clamps: a model held to the states that a mask and a value admit.
use Rattle.std.specs.Prelude.{ℕ, Bool, ◌&&◌, ◌==◌, bit_and}
use Rattle.kripke.specs.Models.{Kripke}

-- the label, seen through the mask, is the value
abbrev pub fits : (mask value label : ℕ) → Bool
fits mask value label = bit_and label mask == value

-- the state is admitted: its label fits
abbrev pub admits : (mask value : ℕ) → Kripke → ℕ → Bool
admits mask value k s = fits mask value (k.label s)

-- what a clamp means: the states, labels and fair sets below, the start states that are admitted, and the edges between two admitted states
abbrev pub clamp : (mask value : ℕ) → Kripke → Kripke
clamp mask value k = record {
  states = k.states;
  sets = k.sets;
  edge = λ s t. admits mask value k s && (admits mask value k t && k.edge s t);
  label = k.label;
  start = λ s. admits mask value k s && k.start s;
  fair = k.fair;
}
