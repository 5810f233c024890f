-- A model's meaning decides about its lassos.
use Rattle.std.specs.Prelude.{◌≡◌, ◌↔◌}
use Rattle.kripke.specs.Models.{Kripke, OneMeaning}
use Rattle.kripke.specs.Lassos.{Lasso, LassoOf, Fair}

-- Models of one meaning are equal: they have exactly the same lassos, and exactly the same of these are fair.
pub record OneMeaningIsEquality : Type 0 where
  pub equal : (m n : Kripke) → OneMeaning m n → m ≡ n
  pub lassos : (m n : Kripke) → OneMeaning m n → (p : Lasso) → LassoOf m p ↔ LassoOf n p
  pub fair : (m n : Kripke) → OneMeaning m n → (p : Lasso) → Fair m p ↔ Fair n p
