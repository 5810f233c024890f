-- The loop of the shadow of a fair lasso that falsifies is an accepting strongly connected set.
use mathlib.Core.Path.{◌≡◌, sym, ap₂, subst, ◌∙◌}
use mathlib.Core.Bool.{Bool, ◌&&◌}
use mathlib.Core.List.{[], ◌∷◌, ◌++◌}
use Prim.Native.Nat.{ℕ, zero, suc, ◌+◌, ◌-◌, ◌<◌, ◌≤◌}
use native.Mathlib.Omega.{arith}
use lib.Dec.{T, eqb, eqb→eq, eqb_refl}
use Rattle.kripke.specs.Models.{Kripke}
use Rattle.kripke.specs.Lassos.{Lasso, LassoOf, Fair, at, follower}
use Rattle.language.specs.Properties.{Property}
use Rattle.logic.specs.Truth.{root, later}
use Rattle.logic.specs.OnLassos.{lasso_line}
use Rattle.logic.specs.Product.{some_below}
use Rattle.logic.specs.Paths.{Shadow, sat_at, in_lasso}
use Rattle.logic.proofs.Bools.{T_and, and_T, some_in, some_out}
use Rattle.logic.proofs.Followers.{follower_in}
use Rattle.logic.proofs.OnLassos.{comes_to_stem, none_in_product}
use Rattle.tableau.specs.Walks.{Vertex, ProductWalk, ProductReaches, StronglyConnected, everywhere, vertex_over}
use Rattle.tableau.specs.Walks.ProductWalk.{stop, leave}
use Rattle.tableau.specs.Criterion.{AcceptingComponent, Criterion}
use Rattle.tableau.proofs.Walking.{walk_append}
use Rattle.tableau.proofs.Complete.{complete, shadow_edge, loop_follower}
use Rattle.tableau.proofs.Finishing.{later_in}
use Rattle.tableau.proofs.Building.{sound}

-- the vertices over the loop
abbrev on_loop : Lasso → (ℕ → ℕ) → Vertex → Bool
on_loop p mask x = some_below p.loop (λ i. eqb x.state (at p (p.stem + i)) && eqb x.mask (mask (p.stem + i)))

module _ (m : Kripke) (f : Property) (p : Lasso) (mask : ℕ → ℕ) (lasso : LassoOf m p) (s : Shadow f (lasso_line m p) (in_lasso p) mask) where
  -- the vertex over position i
  abbrev over : ℕ → Vertex
  over i = vertex_over p mask i

  -- a walk over d steps of the line
  walk_on : (S : Vertex → Bool) (low : ℕ) → ((i : ℕ) → low ≤ i → i < p.stem + p.loop → T (S (over i))) → ((i : ℕ) → low ≤ i → low ≤ follower p i) →
      (d i : ℕ) → low ≤ i → i < p.stem + p.loop → ProductReaches m f S (over i) (over (later (lasso_line m p) d i))
  walk_on S low holds stays zero i h below = ([], stop (holds i h below))
  walk_on S low holds stays (suc d) i h below =
      let rest = walk_on S low holds stays d (follower p i) (stays i h) (follower_in p lasso.loops i below) in
      (over i ∷ rest.0, leave (holds i h below) (shadow_edge m f p mask lasso s i below) rest.1)

  -- the vertices over loop positions are on the loop
  loop_holds : (i : ℕ) → p.stem ≤ i → i < p.stem + p.loop → T (on_loop p mask (over i))
  loop_holds i low high =
      let j : ℕ = i - p.stem in
      let sum : i ≡ p.stem + j = omega arith in
      some_in p.loop (λ j. eqb (at p i) (at p (p.stem + j)) && eqb (mask i) (mask (p.stem + j))) j (omega arith)
      (subst (λ k. T (eqb (at p i) (at p k) && eqb (mask i) (mask k))) sum (T_and (eqb (at p i) (at p i)) (eqb (mask i) (mask i)) (eqb_refl (at p i)) (eqb_refl (mask i))))

  -- and only those
  loop_holds_only : (x : Vertex) → T (on_loop p mask x) → (j : ℕ) × (j < p.loop) × (over (p.stem + j) ≡ x)
  loop_holds_only x t =
      let r = some_out p.loop (λ i. eqb x.state (at p (p.stem + i)) && eqb x.mask (mask (p.stem + i))) t in
      let both = and_T (eqb x.state (at p (p.stem + r.0))) (eqb x.mask (mask (p.stem + r.0))) r.2 in
      (r.0, r.1, ap₂ (λ (a b : ℕ). vertex a b) (sym (eqb→eq _ _ both.0)) (sym (eqb→eq _ _ both.1)))
    where
      vertex : ℕ → ℕ → Vertex
      vertex a b = record { state = a; mask = b }

  -- from each position of the loop to each
  loop_walk : (i j : ℕ) → i < p.loop → j < p.loop → ProductReaches m f (on_loop p mask) (over (p.stem + i)) (over (p.stem + j))
  loop_walk i j hi hj =
      let n : ℕ = p.loop - suc i in
      let home = walk_on (on_loop p mask) p.stem loop_holds (loop_follower p lasso.loops) (suc n) (p.stem + i) (omega arith) (omega arith) in
      let out = walk_on (on_loop p mask) p.stem loop_holds (loop_follower p lasso.loops) j p.stem (omega arith) (omega arith) in
      let at_home : later (lasso_line m p) (suc n) (p.stem + i) ≡ p.stem = comes_to_stem m p n (p.stem + i) (omega arith) in
      let at_out : later (lasso_line m p) j p.stem ≡ p.stem + j = later_in m p j p.stem (omega arith) in (
        home.0 ++ out.0,
        walk_append m f (on_loop p mask) (subst (λ k. ProductWalk m f (on_loop p mask) (over (p.stem + i)) home.0 (over k)) at_home home.1)
            (subst (λ k. ProductWalk m f (on_loop p mask) (over p.stem) out.0 (over k)) at_out out.1),
      )

  -- so the loop is strongly connected
  loop_connected : StronglyConnected m f (on_loop p mask)
  loop_connected u w su sw =
      let i = loop_holds_only u su in
      let j = loop_holds_only w sw in
      subst (λ (x : Vertex). ProductReaches m f (on_loop p mask) x w) i.2
      (subst (λ (x : Vertex). ProductReaches m f (on_loop p mask) (over (p.stem + i.0)) x) j.2 (loop_walk i.0 j.0 i.1 j.1))

  -- and accepting
  pub found_on : Fair m p → (¬ T (sat_at f (lasso_line m p) mask (root f) 0)) → AcceptingComponent m f
  found_on fair no-root = record {
    set = on_loop p mask;
    connected = loop_connected;
    first = over 0;
    centre = over p.stem;
    starts = lasso.starts;
    false_root = no-root;
    leads = stem_walk;
    accepting = complete m f p mask (on_loop p mask) lasso fair s loop_connected loop_holds (over p.stem) (loop_holds p.stem (omega arith) high);
  }
    where
      loops : 1 ≤ p.loop
      loops = lasso.loops

      high : p.stem < p.stem + p.loop
      high = omega arith

      stem_walk : ProductReaches m f everywhere (over 0) (over p.stem)
      stem_walk =
          let there : later (lasso_line m p) p.stem 0 ≡ p.stem = later_in m p p.stem 0 (omega arith) ∙ (let z : 0 + p.stem ≡ p.stem = omega arith in z) in
          subst (λ k. ProductReaches m f everywhere (over 0) (over k)) there
          (walk_on everywhere 0 (λ i h below. tt) (λ i h. omega arith) p.stem 0 (omega arith) (omega arith))

pub criterion : Criterion
criterion = record {
  sound = sound;
  complete = λ m f wf none broken.
      none_in_product m f broken.0 wf broken.1.lasso.loops
      (λ mask s no-root. none (found_on m f broken.0 mask broken.1.lasso s broken.1.fair no-root)) broken.1.falsifies;
}
