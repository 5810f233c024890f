-- More on tests: each passes or does not.
use mathlib.Core.Bool.{Bool, true, false, not}
use mathlib.Core.Logic.{◌⊎◌, inl, inr}
use lib.Dec.{T}

-- a test passes or does not
pub T_dec : (a : Bool) → T a ⊎ (¬ T a)
T_dec true = inl tt
T_dec false = inr (λ t. t)

-- a test that does not pass
pub T_not : (b : Bool) → (¬ T b) → T (not b)
T_not true n = n tt
T_not false n = tt

pub not_T : (b : Bool) → T (not b) → ¬ T b
not_T true t s = t
not_T false t s = s
