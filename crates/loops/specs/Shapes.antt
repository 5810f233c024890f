-- The model, the property and the vertices of a component that passed its test.
use Rattle.std.specs.Prelude.{ℕ, Bool}
use Rattle.kripke.specs.Models.{Kripke}
use Rattle.language.specs.Properties.{Property}
use Rattle.models.specs.Markings.{Marking}
use Rattle.obligations.specs.Shapes.{index_in, model_in, property_in, set_in}
use Rattle.loops.specs.Settings.{Setting}
use Rattle.loops.specs.declared.accepted.Accepted.{Accepted}

module _ {M : Type 0} {marks : _} {graph : _} where
  -- what the model means, by what its type says of states, edges and marking
  abbrev pub model_at : record { states : M → ℕ; edge : M → ℕ → ℕ → Bool; marking : M → Marking } → Accepted M marks graph → Kripke
  model_at type a = model_in type a.obligations.inside

  -- the property
  abbrev pub property_at : Accepted M marks graph → Property
  property_at a = property_in a.obligations.inside

  -- the vertices of the component
  abbrev pub set_at : Accepted M marks graph → ℕ → Bool
  set_at a = set_in a.obligations.inside

  -- it is strongly connected and passed its test at x, over a product that has an index and is small enough
  abbrev pub SettingAt : record { states : M → ℕ; edge : M → ℕ → ℕ → Bool; marking : M → Marking } → Accepted M marks graph → Type 0
  SettingAt type a = Setting (model_at type a) (property_at a) (set_at a) a.x (index_in a.obligations.inside)
