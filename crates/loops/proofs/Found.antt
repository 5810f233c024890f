-- An answer that must be some.
use Rattle.std.proofs.Common.{Some, None, Option, refl}
use Rattle.std.specs.Prelude.{IsSome}

-- where the answer cannot be None there is one
pub some_from : {A : Type 0} (P : Option A → Type 0) (o : Option A) → P o → (P None → ⊥) → IsSome o
some_from P (Some x) h not = refl
some_from P None h not = absurd (not h)
