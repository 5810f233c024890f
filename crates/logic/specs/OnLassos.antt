-- Truth on the lassos of a model, and which of them are counterexamples.
use Rattle.std.specs.Prelude.{ℕ}
use Rattle.kripke.specs.Models.{Kripke}
use Rattle.kripke.specs.Lassos.{Lasso, LassoOf, Fair, at, follower, position}
use Rattle.language.specs.Properties.{Property}
use Rattle.logic.specs.Truth.{Line, Holds, root}

-- the line of a lasso: its times are the positions, with the labels of their states, and what comes after is the follower
abbrev pub lasso_line : Kripke → Lasso → Line
lasso_line m p = record { label = λ i. m.label (at p i); after = follower p }

-- the infinite word of labels that a lasso unrolls to
abbrev pub unrolled : Kripke → Lasso → ℕ → ℕ
unrolled m p i = m.label (at p (position p i))

-- the root is not true at position 0
abbrev pub Falsifies : Kripke → Property → Lasso → Type 0
Falsifies m f p = ¬ Holds f (lasso_line m p) (root f) 0

-- A counterexample is a fair lasso of the model that falsifies the property.
pub record Counterexample (m : Kripke) (f : Property) (p : Lasso) : Type 0 where
  pub lasso : LassoOf m p
  pub fair : Fair m p
  pub falsifies : Falsifies m f p
