-- How many rounds there are, and how many words they write.
use mathlib.Core.Path.{◌≡◌, refl, sym, ap, subst, ◌∙◌}
use mathlib.Core.Bool.{Bool}
use Prim.Native.Nat.{ℕ, zero, suc, ◌+◌, ◌-◌, ◌*◌, ◌<◌, ◌≤◌}
use native.Mathlib.Nat.{mul-suc, suc-mul, mul_assoc, mul-le-mul_right, zero-mul}
use native.Mathlib.Omega.{arith}
use lib.Dec.{T}
use Rattle.frames.specs.Frames.{Node}
use Rattle.frames.specs.Frames.Node.{proposition, truth, negation, next, both, either, apply}
use Rattle.kripke.specs.Models.{Kripke}
use Rattle.masks.specs.Masks.{bit}
use Rattle.language.specs.Properties.{Property, WellFormed, connective_at, node_width}
use Rattle.logic.specs.Truth.{node_at}
use Rattle.logic.specs.Product.{start_of}
use Rattle.tableau.specs.Walks.{Vertex, DischargedAt}
use Rattle.tableau.specs.Rounds.{count, pending_node}
use Rattle.tableau.specs.Masked.{pending_mask}
use Rattle.tableau.specs.Budget.{due_count, Budget}
use Rattle.tableau.proofs.Counts.{count_none}
use Rattle.tableau.proofs.Masking.{pending_same, mask_few}

module _ (m : Kripke) (f : Property) (wf : WellFormed f) (S : Vertex → Bool) (v : Vertex) (discharged : DischargedAt m f S v) (k : ℕ) where
  -- no obligation is due at a node that is no connective
  none_due : (x : Node) → node_at f k ≡ x → ((q : ℕ) → T (pending_node m f v k x q) → ⊥) → due_count m f v k ≡ 0
  none_due x e none =
      count_none (node_width f.connectives (node_at f k)) (bit (pending_mask m f v k))
      (λ q lt t. none q (subst (λ y. T (pending_node m f v k y q)) e ((pending_same m f v k q).1 t)))

  -- the rounds of one node more
  node_budget : (rounds : ℕ) → rounds ≤ start_of f k - 1 → rounds + due_count m f v k ≤ start_of f (suc k) - 1
  node_budget rounds h = go (node_at f k) refl
    where
      idle : due_count m f v k ≡ 0 → rounds + due_count m f v k ≤ start_of f (suc k) - 1
      idle none = omega arith

      go : (x : Node) → node_at f k ≡ x → rounds + due_count m f v k ≤ start_of f (suc k) - 1
      go (proposition i) e = idle (none_due (proposition i) e (λ q t. t))
      go (negation i) e = idle (none_due (negation i) e (λ q t. t))
      go (next i) e = idle (none_due (next i) e (λ q t. t))
      go (both i j) e = idle (none_due (both i j) e (λ q t. t))
      go (either i j) e = idle (none_due (either i j) e (λ q t. t))
      go (apply c is) e =
          let bits : node_width f.connectives (node_at f k) ≡ (connective_at f.connectives c).states = ap (node_width f.connectives) e in
          let few : due_count m f v k < node_width f.connectives (node_at f k) =
          subst (λ n. count n (bit (pending_mask m f v k)) < n) (sym bits) (mask_few m f wf S v discharged k c is e) in
          omega arith
      go truth e = idle (none_due truth e (λ q t. t))

-- a square has room for all but one of its rows, each one longer
room : (e n rounds words : ℕ) → rounds ≤ e - 1 → words ≤ rounds * ((e + 1) * n) → words ≤ e * e * n
room zero n rounds words h w =
    let none : rounds ≡ 0 = omega arith in
    let gone : rounds * ((0 + 1) * n) ≡ 0 = ap (λ r. r * ((0 + 1) * n)) none ∙ zero-mul ((0 + 1) * n) in
    omega arith
room (suc d) n rounds words h w =
    let few : rounds ≤ d = omega arith in
    let one : rounds * ((suc d + 1) * n) ≤ d * ((suc d + 1) * n) = mul-le-mul_right ((suc d + 1) * n) few in
    let shape : suc d + 1 ≡ suc (suc d) = omega arith in
    let left : d * ((suc d + 1) * n) ≡ d * suc (suc d) * n = sym (mul_assoc d (suc d + 1) n) ∙ ap (λ x. d * x * n) shape in
    let low : d * suc (suc d) ≡ d * d + d + d = mul-suc d (suc d) ∙ ap (λ x. x + d) (mul-suc d d) in
    let high : suc d * suc d ≡ d * d + d + suc d = suc-mul d (suc d) ∙ ap (λ x. x + suc d) (mul-suc d d) in
    let square : d * suc (suc d) ≤ suc d * suc d = omega arith in
    let two : d * suc (suc d) * n ≤ suc d * suc d * n = mul-le-mul_right n square in
    omega arith

pub budget : Budget
budget = record { node = node_budget; room = room }
