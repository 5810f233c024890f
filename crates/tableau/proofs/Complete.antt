-- A strongly connected set that holds the loop of the shadow of a fair lasso is accepting.
use mathlib.Core.Path.{◌≡◌, sym, subst}
use mathlib.Core.Bool.{Bool, true, false, cond}
use mathlib.Core.List.{List, [], ◌∷◌}
use Prim.Native.Nat.{ℕ, suc, ◌+◌, ◌<◌, ◌≤◌, zero-le, suc-le-suc}
use native.Mathlib.Omega.{arith}
use lib.Dec.{T, eqb, lt→ltb}
use lib.ListN.{length, get_or}
use Rattle.frames.specs.Frames.Node.{apply}
use Rattle.kripke.specs.Models.{Kripke}
use Rattle.kripke.specs.Lassos.{Lasso, LassoOf, at, follower}
use Rattle.masks.specs.Masks.{bit}
use Rattle.language.specs.Properties.{Property, connective_at}
use Rattle.logic.specs.Truth.{node_at, Accepts, later}
use Rattle.logic.specs.OnLassos.{lasso_line}
use Rattle.logic.specs.Paths.{Shadow, sat_at, in_lasso}
use Rattle.logic.proofs.Claims.{claim_is, claim_run}
use Rattle.logic.proofs.Unfold.{rest_accepts}
use Rattle.logic.proofs.Backs.{back_steps}
use Rattle.logic.proofs.OnLassos.{lasso_closed}
use Rattle.logic.proofs.Followers.{follower_in}
use Rattle.tableau.specs.Walks.{Vertex, Edge, ProductReaches, Discharges, vertex_over, claimed_at, LoopsAccept}
use Rattle.tableau.specs.Walks.Discharges.{discharged, goes}
use Rattle.tableau.proofs.Walking.{apply_in, discharge_there}

-- the follower of a loop position is one
pub loop_follower : (p : Lasso) → 1 ≤ p.loop → (i : ℕ) → p.stem ≤ i → p.stem ≤ follower p i
loop_follower p loops i h = go (eqb (i + 1) (p.stem + p.loop))
  where
    go : (b : Bool) → p.stem ≤ cond b p.stem (i + 1)
    go true = omega arith
    go false = omega arith

module _ (m : Kripke) (f : Property) (p : Lasso) (mask : ℕ → ℕ) (lasso : LassoOf m p) (s : Shadow f (lasso_line m p) (in_lasso p) mask) where
  -- the vertex over position i
  abbrev over : ℕ → Vertex
  over i = vertex_over p mask i

  -- the shadow goes by edges of the product
  pub shadow_edge : (i : ℕ) → i < p.stem + p.loop → Edge m f (over i) (over (follower p i))
  shadow_edge i h = record {
    from = record { state = lasso.states i h; mask = s.fits i };
    to = record { state = lasso.states (follower p i) (follower_in p lasso.loops i h); mask = s.fits (follower p i) };
    moves = lasso.steps i h;
    masks = (back_steps f (lasso_line m p) (in_lasso p) mask s.fits).0 s.path i (lt→ltb i (p.stem + p.loop) h);
  }

  module _ (S : Vertex → Bool) (holds : (i : ℕ) → p.stem ≤ i → i < p.stem + p.loop → T (S (over i)))
      (z : Vertex) (home : (x : Vertex) → T (S x) → ProductReaches m f S x z)
      (k c : ℕ) (is : List ℕ) (e : node_at f k ≡ apply c is) where
    -- a run to a final state along the loop, and then home
    around : (word : List ℕ) (q i : ℕ) (run : ℕ → ℕ) → p.stem ≤ i → i < p.stem + p.loop → Accepts (connective_at f.connectives c) q word run →
        ((j : ℕ) → j < length word → T (sat_at f (lasso_line m p) mask (get_or is (get_or word j 0) 0) (later (lasso_line m p) j i))) →
        (us : List Vertex) × Discharges m f S k c is (over i) q us z
    around [] q i run low high a o =
        let back = home (over i) (holds i low high) in
        (back.0, discharged (subst (λ r. T (bit (connective_at f.connectives c).finals r)) a.starts a.ends) back.1)
    around (x ∷ w) q i run low high a o =
        let move : T ((connective_at f.connectives c).may q x (run 1)) = subst (λ r. T ((connective_at f.connectives c).may r x (run 1))) a.starts (a.moves 0 (suc-le-suc zero-le)) in
        let rest : Accepts (connective_at f.connectives c) (run 1) w (λ j. run (suc j)) = rest_accepts (connective_at f.connectives c) q x w run a in
        let inside : follower p i < p.stem + p.loop = follower_in p lasso.loops i high in
        let claimed : T (claimed_at m f (over (follower p i)) k (run 1)) =
        subst T (sym (claim_is f k c is (apply_in f k c is e) e (m.label (at p (follower p i))) (mask (follower p i)) (run 1)))
        (claim_run f k c is (apply_in f k c is e) e (lasso_line m p) (in_lasso p) mask s.path (lasso_closed m p lasso.loops)
        w (run 1) (follower p i) (λ j. run (suc j)) (lt→ltb (follower p i) (p.stem + p.loop) inside) rest (λ j h. o (suc j) (suc-le-suc h))) in
        let more = around w (run 1) (follower p i) (λ j. run (suc j)) (loop_follower p lasso.loops i low) inside rest (λ j h. o (suc j) (suc-le-suc h)) in (
          over i ∷ more.0,
          goes (holds i low high) (shadow_edge i high) (record {
            letter = x;
            to = run 1;
            letter_fits = a.letters 0 (suc-le-suc zero-le);
            to_fits = a.states 1 (suc-le-suc zero-le);
            may = move;
            operand = o 0 (suc-le-suc zero-le);
            claimed = claimed;
          }) more.1,
        )

    -- what is claimed at the first loop position is discharged
    pub at_stem : (q : ℕ) → q < (connective_at f.connectives c).states → T (claimed_at m f (over p.stem) k q) → (us : List Vertex) × Discharges m f S k c is (over p.stem) q us z
    at_stem q fits t =
        let loops : 1 ≤ p.loop = lasso.loops in
        let high : p.stem < p.stem + p.loop = omega arith in
        let r = s.fulfils p.stem (lt→ltb p.stem (p.stem + p.loop) high) k (apply_in f k c is e) c is e q fits t in
        around r.word q p.stem r.run (omega arith) high r.accepts r.operands

pub complete : LoopsAccept
complete m f p mask S lasso fair s connected holds v inside = record {
  inside = inside;
  edge = (
    over p.stem,
    over (follower p p.stem),
    here,
    holds (follower p p.stem) (loop_follower p lasso.loops p.stem (omega arith)) (follower_in p lasso.loops p.stem high),
    shadow_edge m f p mask lasso s p.stem high,
  );
  fair = λ j lt. let r = fair j lt in (over r.0, holds r.0 r.1 r.2, r.3);
  discharged = λ k c is e q owed.
      discharge_there m f S k c is e v (λ x there. connected x v there inside) (connected v (over p.stem) inside here).1
      (λ r fits t. at_stem m f p mask lasso s S holds v (λ x there. connected x v there inside) k c is e r fits t)
      q owed.fits owed.claimed;
}
  where
    over : ℕ → Vertex
    over i = vertex_over p mask i

    loops : 1 ≤ p.loop
    loops = lasso.loops

    high : p.stem < p.stem + p.loop
    high = omega arith

    here : T (S (vertex_over p mask p.stem))
    here = holds p.stem (omega arith) high
