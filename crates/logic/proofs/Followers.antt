-- The positions of a lasso, and the order in which they are reached.
use Rattle.std.proofs.Common.{◌≡◌, ℕ, zero, suc, ◌+◌, ◌-◌, ◌<◌, ◌≤◌, Bool, true, false, cond, eqb, sym, refl, ap, ◌∙◌, arith}
use Rattle.std.proofs.lemmas.Bool.{cond-false, cond-true, eq-eqb, eqb-false, ne_eqb}
use Rattle.kripke.specs.Lassos.{Lasso, follower, position}

-- before the last position, the follower is the next one
pub next_follower : (p : Lasso) (i : ℕ) → suc i < p.stem + p.loop → follower p i ≡ suc i
next_follower p i h =
    cond-false (eqb (i + 1) (p.stem + p.loop)) p.stem (i + 1) (ne_eqb (i + 1) (p.stem + p.loop) (λ e. omega arith)) ∙ omega arith

-- the follower of the last position is the first loop position
pub last_follower : (p : Lasso) (i : ℕ) → suc i ≡ p.stem + p.loop → follower p i ≡ p.stem
last_follower p i h =
    let e : i + 1 ≡ p.stem + p.loop = omega arith in
    cond-true (eqb (i + 1) (p.stem + p.loop)) p.stem (i + 1) (eq-eqb (i + 1) (p.stem + p.loop) e)

-- a follower is a position
pub follower_in : (p : Lasso) → 1 ≤ p.loop → (i : ℕ) → i < p.stem + p.loop → follower p i < p.stem + p.loop
follower_in p loops i h = go (eqb (i + 1) (p.stem + p.loop)) refl
  where
    go : (b : Bool) → eqb (i + 1) (p.stem + p.loop) ≡ b → cond b p.stem (i + 1) < p.stem + p.loop
    go true e = omega arith
    go false e = let other : ¬ (i + 1 ≡ p.stem + p.loop) = eqb-false (i + 1) (p.stem + p.loop) e in omega arith

-- the first positions are reached in their order
pub position_first : (p : Lasso) (i : ℕ) → i < p.stem + p.loop → position p i ≡ i
position_first p zero h = refl
position_first p (suc i) h = ap (follower p) (position_first p i (omega arith)) ∙ next_follower p i h

-- from the end of the stem on, the positions repeat
pub periodic : (p : Lasso) → 1 ≤ p.loop → (j : ℕ) → position p (p.stem + p.loop + j) ≡ position p (p.stem + j)
periodic p loops zero =
    let n : ℕ = p.stem + p.loop - 1 in
    let e : suc n ≡ p.stem + p.loop = omega arith in
    let s : p.stem + p.loop + 0 ≡ suc n = omega arith in
    let z : p.stem + 0 ≡ p.stem = omega arith in
    ap (position p) s ∙ ap (follower p) (position_first p n (omega arith)) ∙ last_follower p n e
    ∙ sym (ap (position p) z ∙ position_first p p.stem (omega arith))
periodic p loops (suc j) =
    let s : p.stem + p.loop + suc j ≡ suc (p.stem + p.loop + j) = omega arith in
    let z : p.stem + suc j ≡ suc (p.stem + j) = omega arith in
    ap (position p) s ∙ ap (follower p) (periodic p loops j) ∙ sym (ap (position p) z)
