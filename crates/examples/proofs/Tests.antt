-- Small numbers by cases, and what the tests of tables and connectives say.
use Rattle.std.proofs.Common.{◌≡◌, ℕ, zero, suc, ◌<◌, ◌&&◌, T, eqb, ◌⊎◌, List, ◌∷◌, subst, arith, eqb→eq}
use Rattle.std.proofs.Math.Logic.{⊎_map}
use Rattle.language.specs.Properties.{Connective}
use Rattle.language.specs.Reading.{moving}
use Rattle.models.specs.Tables.{among}
use Rattle.logic.proofs.Bools.{and_T, or_T}

-- what is so of 0 is so of all numbers below 1
pub only_zero : (P : ℕ → Type 0) → P 0 → (i : ℕ) → i < 1 → P i
only_zero P a i h = let e : 0 ≡ i = omega arith in subst P e a

-- what is so of 0 and of 1 is so of all numbers below 2
pub zero_or_one : (P : ℕ → Type 0) → P 0 → P 1 → (i : ℕ) → i < 2 → P i
zero_or_one P a b zero h = a
zero_or_one P a b (suc zero) h = b
zero_or_one P a b (suc (suc i)) h = absurd (omega arith)

-- a transition of a connective is the latest one, or one that it had before
pub moved : (p a r : ℕ) (c : Connective) (x y z : ℕ) → T ((moving p a r c).may x y z) → ((x ≡ p) × (y ≡ a) × (z ≡ r)) ⊎ T (c.may x y z)
moved p a r c x y z t = ⊎_map
    (λ s.
    let u = and_T (eqb x p) (eqb y a && eqb z r) s in
    let v = and_T (eqb y a) (eqb z r) u.1 in
    (eqb→eq x p u.0, eqb→eq y a v.0, eqb→eq z r v.1))
    (λ s. s)
    (or_T (eqb x p && (eqb y a && eqb z r)) (c.may x y z) t)

-- a word that is among words is the first, or among the others
pub among_either : (w word : ℕ) (words : List ℕ) → T (among w (word ∷ words)) → (word ≡ w) ⊎ T (among w words)
among_either w word words t = ⊎_map (eqb→eq word w) (λ s. s) (or_T (eqb word w) (among w words) t)
