-- Walks, step by step.
use mathlib.Core.Path.{◌≡◌, refl, ap, subst, ◌∙◌}
use mathlib.Core.Bool.{Bool, true}
use mathlib.Core.List.{List, [], ◌∷◌}
use Prim.Native.Nat.{ℕ, zero, suc, ◌+◌, ◌-◌, ◌<◌, zero-le, suc-le-suc}
use native.Mathlib.Nat.{not-suc-le-zero}
use native.Mathlib.Omega.{arith}
use lib.ListN.{length, get_or}
use Rattle.graphs.specs.Walks.{Walk}

-- a walk with the numbers of its vertices, both ends among them
pub data Trail (edge : ℕ → ℕ → Bool) : ℕ → List ℕ → ℕ → Type 0 where
  last : {x : ℕ} → Trail edge x (x ∷ []) x
  then : {x y z : ℕ} {l : List ℕ} → edge x y ≡ true → Trail edge y l z → Trail edge x (x ∷ l) z

-- a walk by places is one step by step
pub to_trail : (edge : ℕ → ℕ → Bool) (l : List ℕ) (from to : ℕ) → Walk edge from to l → Trail edge from l to
to_trail edge [] from to r = absurd (not-suc-le-zero r.some)
to_trail edge (x ∷ []) from to r =
    subst (λ b. Trail edge from (x ∷ []) b) r.last (subst (λ a. Trail edge a (x ∷ []) x) r.first last)
to_trail edge (x ∷ y ∷ l) from to r =
    subst (λ a. Trail edge a (x ∷ y ∷ l) to) r.first (then (r.linked 0 (omega arith)) (to_trail edge (y ∷ l) y to (record {
      some = suc-le-suc zero-le;
      first = refl;
      last = (let z : ◌≡◌ {A = ℕ} (suc (length (y ∷ l) - 1)) (length (x ∷ y ∷ l) - 1) = omega arith in ap (λ i. get_or (x ∷ y ∷ l) i 0) z) ∙ r.last;
      linked = λ i h. (let z : suc (i + 1) ≡ suc i + 1 = omega arith in ap (λ j. edge (get_or (y ∷ l) i 0) (get_or (x ∷ y ∷ l) j 0)) z) ∙ r.linked (suc i) (omega arith);
    })))

-- and back
pub from_trail : (edge : ℕ → ℕ → Bool) {x y : ℕ} {l : List ℕ} → Trail edge x l y → Walk edge x y l
from_trail edge last = record { some = suc-le-suc zero-le; first = refl; last = refl; linked = λ i h. absurd (omega arith) }
from_trail edge (then {x = x} {y = y} {z = z} {l = l} e rest) = go (from_trail edge rest)
  where
    go : Walk edge y z l → Walk edge x z (x ∷ l)
    go r = record {
      some = suc-le-suc zero-le;
      first = refl;
      last = (let s : 0 < length l = r.some in let z : ◌≡◌ {A = ℕ} (length (x ∷ l) - 1) (suc (length l - 1)) = omega arith in ap (λ i. get_or (x ∷ l) i 0) z) ∙ r.last;
      linked = linked;
    }
      where
        linked : (i : ℕ) → i + 1 < suc (length l) → edge (get_or (x ∷ l) i 0) (get_or (x ∷ l) (i + 1) 0) ≡ true
        linked zero h = ap (edge x) r.first ∙ e
        linked (suc i) h = (let z : suc i + 1 ≡ suc (i + 1) = omega arith in ap (λ j. edge (get_or l i 0) (get_or (x ∷ l) j 0)) z) ∙ r.linked i (omega arith)
