-- Models of one meaning are equal, since functions with equal answers are.
use mathlib.Core.Path.{◌≡◌, sym, subst}
use mathlib.Core.Logic.{◌↔◌}
use Rattle.kripke.specs.Models.{Kripke, OneMeaning}

pub equal : (m n : Kripke) → OneMeaning m n → m ≡ n
equal m n e = λ i. record {
  states = e.states i;
  sets = e.sets i;
  edge = λ s t. e.edge s t i;
  label = λ s. e.label s i;
  start = λ s. e.start s i;
  fair = λ j s. e.fair j s i;
}

-- what is said of a model is said of each of the same meaning
pub same : (m n : Kripke) → OneMeaning m n → (P : Kripke → Type 0) → P m ↔ P n
same m n e P = (subst P (equal m n e), subst P (sym (equal m n e)))
