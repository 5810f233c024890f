-- The rounds by which a loop grows.
use mathlib.Core.Path.{◌≡◌, refl, sym, ap, subst, ◌∙◌}
use mathlib.Core.Bool.{Bool, true, false, not, ◌&&◌}
use mathlib.Core.List.{List, [], ◌∷◌, ◌++◌, append-nil}
use mathlib.Core.Logic.{◌⊎◌, inl, inr}
use Prim.Native.Nat.{ℕ, suc, ◌+◌, ◌<◌, ◌≤◌}
use native.Mathlib.Nat.{not-suc-le-zero}
use native.Mathlib.Omega.{arith}
use lib.Dec.{T, eqb, eqb→eq, eqb_refl, ltb, ltb→lt, lt→ltb}
use lib.ListN.{get_or}
use Rattle.frames.specs.Frames.Node.{apply}
use Rattle.kripke.specs.Models.{Kripke}
use Rattle.masks.specs.Masks.{bit}
use Rattle.language.specs.Properties.{Connective, Property, connective_at}
use Rattle.logic.specs.Truth.{node_at}
use Rattle.logic.specs.Product.{some_below, start_of}
use Rattle.logic.proofs.Bools.{T_and, and_T, some_in, some_out}
use Rattle.logic.proofs.Claims.{Step, claim_is, claim_out, apply_back}
use Rattle.tableau.specs.Walks.{Vertex, Edge, ProductWalk, Obligation, claimed_at, holds_at}
use Rattle.tableau.specs.Walks.ProductWalk.{stop, leave}
use Rattle.tableau.specs.Rounds.{FulfilledAlong, Runs, PartialLoop, Begins, Round, NextNode, Extends, count, leads, carry, carried, carry_along, without, pending, pending_node}
use Rattle.tableau.specs.Rounds.FulfilledAlong.{ended, moved}
use Rattle.tableau.specs.Rounds.Runs.{halt, more}
use Rattle.tableau.proofs.Tests.{T_dec, T_not, not_T}
use Rattle.tableau.proofs.Walking.{mask_edge, apply_in, walk_append, along, discharges_walk, discharges_done, done_append, runs_done, runs_append}
use Rattle.tableau.proofs.Counts.{lowest_found, count_le, count_image, count_without}

module _ (m : Kripke) (f : Property) (k c : ℕ) (is : List ℕ) (e : node_at f k ≡ apply c is) where
  -- the connective of node k
  abbrev C : Connective
  C = connective_at f.connectives c

  -- where an obligation goes on over an edge
  record CarriedOn (u v : Vertex) (q : ℕ) : Type 0 where
    fits : carry m f k c is u q < (connective_at f.connectives c).states
    claimed : T (claimed_at m f v k (carry m f k c is u q))
    letter : ℕ
    may : T ((connective_at f.connectives c).may q letter (carry m f k c is u q))
    operand : T (holds_at m f u (get_or is letter 0))

  -- an obligation goes on over each edge
  carry_on : (u v : Vertex) → Edge m f u v → (q : ℕ) → Obligation m f u k c q → CarriedOn u v q
  carry_on u v edge q w = go (claim_out C (λ a. holds_at m f u (get_or is a 0)) u.mask (start_of f k) q (subst T (claim_is f k c is (apply_in f k c is e) e (m.label u.state) u.mask q) w.claimed))
    where
      by : ℕ → ℕ → Bool
      by r a = holds_at m f u (get_or is a 0) && (C.may q a r && bit u.mask (start_of f k + r))

      go : T (bit C.finals q) ⊎ Step C (λ a. holds_at m f u (get_or is a 0)) u.mask (start_of f k) q → CarriedOn u v q
      go (inl t) = absurd (w.not_final t)
      go (inr s) =
          let some : T (some_below C.states (leads m f k c is u q)) =
          some_in C.states (leads m f k c is u q) s.to s.to_fits (some_in C.letters (by s.to) s.letter s.letter_fits
          (T_and (holds_at m f u (get_or is s.letter 0)) (C.may q s.letter s.to && bit u.mask (start_of f k + s.to)) s.holds
          (T_and (C.may q s.letter s.to) (bit u.mask (start_of f k + s.to)) s.may s.marked))) in
          let found = lowest_found C.states (leads m f k c is u q) some in
          let r : ℕ = carry m f k c is u q in
          let a = some_out C.letters (by r) found.1 in
          let one = and_T (holds_at m f u (get_or is a.0 0)) (C.may q a.0 r && bit u.mask (start_of f k + r)) a.2 in
          let two = and_T (C.may q a.0 r) (bit u.mask (start_of f k + r)) one.1 in
          record {
            fits = found.0;
            claimed = subst T (apply_back f k c is (apply_in f k c is e) e u.mask (m.label v.state) v.mask (mask_edge m f u v edge) r found.0
                ∙ sym (claim_is f k c is (apply_in f k c is e) e (m.label v.state) v.mask r)) two.1;
            letter = a.0;
            may = two.0;
            operand = one.0;
          }

  -- obligations are carried to obligations at the vertex after
  pub carried_obligation : (u v : Vertex) → Edge m f u v → (due : ℕ → Bool) → ((r : ℕ) → T (due r) → Obligation m f u k c r) →
      (r : ℕ) → T (carried m f k c is u due r) → Obligation m f v k c r
  carried_obligation u v edge due wait r t =
      let parts = and_T (not (bit C.finals r)) (some_below C.states (λ q. due q && eqb (carry m f k c is u q) r)) t in
      let q = some_out C.states (λ q. due q && eqb (carry m f k c is u q) r) parts.1 in
      let both = and_T (due q.0) (eqb (carry m f k c is u q.0) r) q.2 in
      let same : carry m f k c is u q.0 ≡ r = eqb→eq (carry m f k c is u q.0) r both.1 in
      let on : CarriedOn u v q.0 = carry_on u v edge q.0 (wait q.0 both.0) in
      record {
        fits = subst (λ x. x < C.states) same on.fits;
        claimed = subst (λ x. T (claimed_at m f v k x)) same on.claimed;
        not_final = not_T (bit C.finals r) parts.0;
      }

  -- where it goes on to a state that is not final, that is in the image
  carried_in : (u : Vertex) (due : ℕ → Bool) (q : ℕ) → q < C.states → T (due q) → (¬ T (bit C.finals (carry m f k c is u q))) → T (carried m f k c is u due (carry m f k c is u q))
  carried_in u due q fits t n =
      let r : ℕ = carry m f k c is u q in
      T_and (not (bit C.finals r)) (some_below C.states (λ q. due q && eqb (carry m f k c is u q) r)) (T_not (bit C.finals r) n)
      (some_in C.states (λ q. due q && eqb (carry m f k c is u q) r) q fits (T_and (due q) (eqb r r) t (eqb_refl r)))

  module _ (S : Vertex → Bool) where
    -- the image of a set of obligations along a walk is one of obligations at its end
    pub along_obligation : {v w : Vertex} {vs : List Vertex} → ProductWalk m f S v vs w → (due : ℕ → Bool) → ((r : ℕ) → T (due r) → Obligation m f v k c r) →
        (r : ℕ) → T (carry_along m f k c is vs due r) → Obligation m f w k c r
    along_obligation (stop s) due wait r t = wait r t
    along_obligation (leave {u = u} {v = v} s edge a) due wait r t =
        along_obligation a (carried m f k c is u due) (carried_obligation u v edge due wait) r t

    -- each obligation comes to a final state along the walk, or to one of the image at its end
    pub along_due : {v w : Vertex} {vs : List Vertex} → ProductWalk m f S v vs w → (due : ℕ → Bool) → ((r : ℕ) → T (due r) → Obligation m f v k c r) →
        (q : ℕ) → T (due q) → FulfilledAlong m f c is q vs ⊎ ((r : ℕ) × T (carry_along m f k c is vs due r) × Runs m f c is q vs r)
    along_due (stop s) due wait q t = inr (q, t, halt)
    along_due (leave {u = u} {v = v} {w = w} {vs = vs} s edge a) due wait q t =
        go (T_dec (bit C.finals (carry m f k c is u q)))
        (λ t. along_due a (carried m f k c is u due) (carried_obligation u v edge due wait) (carry m f k c is u q) t)
      where
        on : CarriedOn u v q
        on = carry_on u v edge q (wait q t)

        Rest : List Vertex → (ℕ → Bool) → ℕ → Type 0
        Rest vs due q = FulfilledAlong m f c is q vs ⊎ ((r : ℕ) × T (carry_along m f k c is vs due r) × Runs m f c is q vs r)

        join : Rest vs (carried m f k c is u due) (carry m f k c is u q) → Rest (u ∷ vs) due q
        join (inl d) = inl (moved on.letter (carry m f k c is u q) on.may on.operand d)
        join (inr r) = inr (r.0, r.1, more on.letter (carry m f k c is u q) on.may on.operand r.2)

        go : T (bit C.finals (carry m f k c is u q)) ⊎ (¬ T (bit C.finals (carry m f k c is u q))) →
            (T (carried m f k c is u due (carry m f k c is u q)) → Rest vs (carried m f k c is u due) (carry m f k c is u q)) → Rest (u ∷ vs) due q
        go (inl t) ih = inl (moved on.letter (carry m f k c is u q) on.may on.operand (ended t))
        go (inr n) ih = join (ih (carried_in u due q (wait q t).fits t n))

  -- the image has no more members
  pub along_count : (vs : List Vertex) (due : ℕ → Bool) → count C.states (carry_along m f k c is vs due) ≤ count C.states due
  along_count [] due = omega arith
  along_count (u ∷ vs) due =
      let rest : count C.states (carry_along m f k c is vs (carried m f k c is u due)) ≤ count C.states (carried m f k c is u due) = along_count vs (carried m f k c is u due) in
      let less : count C.states (carried m f k c is u due) ≤ count C.states (λ r. some_below C.states (λ q. due q && eqb (carry m f k c is u q) r)) =
      count_le C.states (carried m f k c is u due) (λ r. some_below C.states (λ q. due q && eqb (carry m f k c is u q) r))
      (λ r t. (and_T (not (bit C.finals r)) (some_below C.states (λ q. due q && eqb (carry m f k c is u q) r)) t).1) in
      let image : count C.states (λ r. some_below C.states (λ q. due q && eqb (carry m f k c is u q) r)) ≤ count C.states due =
      count_image C.states C.states due (carry m f k c is u) in
      omega arith

  -- what is pending at a connective node
  pending_is : (v : Vertex) (q : ℕ) → pending m f v k q ≡ ltb q C.states && (claimed_at m f v k q && not (bit C.finals q))
  pending_is v q = ap (λ x. pending_node m f v k x q) e

  -- what is pending is an obligation
  pub pending_obligation : (v : Vertex) (q : ℕ) → T (pending m f v k q) → Obligation m f v k c q
  pending_obligation v q t =
      let parts = and_T (ltb q C.states) (claimed_at m f v k q && not (bit C.finals q)) (subst T (pending_is v q) t) in
      let rest = and_T (claimed_at m f v k q) (not (bit C.finals q)) parts.1 in
      record { fits = ltb→lt q C.states parts.0; claimed = rest.0; not_final = not_T (bit C.finals q) rest.1 }

  -- and back
  pub obligation_pending : (v : Vertex) (q : ℕ) → Obligation m f v k c q → T (pending m f v k q)
  obligation_pending v q w =
      subst T (sym (pending_is v q)) (T_and (ltb q C.states) (claimed_at m f v k q && not (bit C.finals q)) (lt→ltb q C.states w.fits)
      (T_and (claimed_at m f v k q) (not (bit C.finals q)) w.claimed (T_not (bit C.finals q) w.not_final)))

  -- an obligation at the first vertex of a closed walk comes to a final state along it, or to an obligation there
  pub round_pending : (S : Vertex → Bool) (v : Vertex) (W : List Vertex) → ProductWalk m f S v W v → (q : ℕ) → Obligation m f v k c q →
      FulfilledAlong m f c is q W ⊎ ((r : ℕ) × T (pending m f v k r) × Runs m f c is q W r)
  round_pending S v W walk q w = go (along m f S k c is e walk q w.fits w.claimed)
    where
      Out : Type 0
      Out = FulfilledAlong m f c is q W ⊎ ((r : ℕ) × T (pending m f v k r) × Runs m f c is q W r)

      whole : FulfilledAlong m f c is q (W ++ []) → FulfilledAlong m f c is q W
      whole d = subst (FulfilledAlong m f c is q) (append-nil W) d

      sort : (r : ℕ) → r < C.states → T (claimed_at m f v k r) → Runs m f c is q W r → T (bit C.finals r) ⊎ (¬ T (bit C.finals r)) → Out
      sort r fits t x (inl final) = inl (whole (runs_done m f c is x (ended final)))
      sort r fits t x (inr n) = inr (r, obligation_pending v r (record { fits = fits; claimed = t; not_final = n }), x)

      go : FulfilledAlong m f c is q W ⊎ ((r : ℕ) × (r < C.states) × T (claimed_at m f v k r) × Runs m f c is q W r) → Out
      go (inl d) = inl d
      go (inr r) = sort r.0 r.1 r.2 r.3 (T_dec (bit C.finals r.0))

pub begins : Begins
begins m f S v s = record {
  walk = stop s;
  before = λ j c is lt. absurd (not-suc-le-zero lt);
  obligations = λ c is e r t. pending_obligation m f 0 c is e v r t;
  here = λ c is e q w. inr (q, obligation_pending m f 0 c is e v q w, halt);
}

pub next_node : NextNode
next_node m f S v k due W progress empty = record {
  walk = progress.walk;
  before = λ j c is lt e q w. go j c is lt e q w (eqb j k) refl;
  obligations = λ c is e r t. pending_obligation m f (suc k) c is e v r t;
  here = λ c is e q w. round_pending m f (suc k) c is e S v W progress.walk q w;
}
  where
    all : (c : ℕ) (is : List ℕ) (q : ℕ) → FulfilledAlong m f c is q W ⊎ ((r : ℕ) × T (due r) × Runs m f c is q W r) → FulfilledAlong m f c is q W
    all c is q (inl d) = d
    all c is q (inr r) = absurd (empty r.0 r.1)

    go : (j c : ℕ) (is : List ℕ) → j < suc k → node_at f j ≡ apply c is → (q : ℕ) → Obligation m f v j c q → (b : Bool) → eqb j k ≡ b → FulfilledAlong m f c is q W
    go j c is lt e q w true t =
        let same : j ≡ k = eqb→eq j k (subst T (sym t) tt) in
        all c is q (progress.here c is (subst (λ i. node_at f i ≡ apply c is) same e) q (subst (λ i. Obligation m f v i c q) same w))
    go j c is lt e q w false t =
        let other : ¬ (j ≡ k) = λ same. subst T (ap (eqb j) same ∙ t) (eqb_refl j) in
        progress.before j c is (omega arith) e q w

pub extends : Extends
extends m f S v k due W progress empty way walk = record {
  walk = walk_append m f S progress.walk walk;
  before = λ j c is lt e q w. done_append m f c is way (progress.before j c is lt e q w);
  obligations = progress.obligations;
  here = λ c is e q w. go c is q (progress.here c is e q w);
}
  where
    go : (c : ℕ) (is : List ℕ) (q : ℕ) → FulfilledAlong m f c is q W ⊎ ((r : ℕ) × T (due r) × Runs m f c is q W r) →
        FulfilledAlong m f c is q (W ++ way) ⊎ ((r : ℕ) × T (due r) × Runs m f c is q (W ++ way) r)
    go c is q (inl d) = inl (done_append m f c is way d)
    go c is q (inr r) = absurd (empty r.0 r.1)

-- a connective node has one connective and one list of operands
pub same_link : (f : Property) (k c d : ℕ) (is js : List ℕ) → node_at f k ≡ apply c is → node_at f k ≡ apply d js → (c ≡ d) × (is ≡ js)
same_link f k c d is js e g = (cc, cc)

pub round : Round
round m f S v k c is e due W progress q t way discharges = record { progress = again; fewer = fewer }
  where
    rest : ℕ → Bool
    rest = without q due

    rest_obligation : (r : ℕ) → T (rest r) → Obligation m f v k c r
    rest_obligation r s = progress.obligations c is e r (and_T (due r) (not (eqb r q)) s).0

    walk : ProductWalk m f S v way v
    walk = discharges_walk m f S k c is discharges

    Out : ℕ → ℕ → List ℕ → Type 0
    Out p d js = FulfilledAlong m f d js p (W ++ way) ⊎ ((r : ℕ) × T (carry_along m f k c is way rest r) × Runs m f d js p (W ++ way) r)

    on : (p r : ℕ) → Runs m f c is p W r → FulfilledAlong m f c is r way ⊎ ((s : ℕ) × T (carry_along m f k c is way rest s) × Runs m f c is r way s) → Out p c is
    on p r x (inl d) = inl (runs_done m f c is x d)
    on p r x (inr s) = inr (s.0, s.1, runs_append m f c is x s.2)

    member : (p r : ℕ) → T (due r) → Runs m f c is p W r → (b : Bool) → eqb r q ≡ b → Out p c is
    member p r s x true same =
        inl (runs_done m f c is (subst (λ i. Runs m f c is p W i) (eqb→eq r q (subst T (sym same) tt)) x) (discharges_done m f S k c is discharges))
    member p r s x false other =
        on p r x (along_due m f k c is e S walk rest rest_obligation r (T_and (due r) (not (eqb r q)) s (T_not (eqb r q) (λ y. subst T other y))))

    go : (p : ℕ) → FulfilledAlong m f c is p W ⊎ ((r : ℕ) × T (due r) × Runs m f c is p W r) → Out p c is
    go p (inl d) = inl (done_append m f c is way d)
    go p (inr r) = member p r.0 r.1 r.2 (eqb r.0 q) refl

    here_is : (d : ℕ) (js : List ℕ) → node_at f k ≡ apply d js → (p : ℕ) → Obligation m f v k d p → Out p d js
    here_is d js g p w =
        let same = same_link f k c d is js e g in
        subst (λ (x : ℕ). Out p x js) same.0 (subst (λ (ys : List ℕ). Out p c ys) same.1 (go p (progress.here c is e p (subst (λ (x : ℕ). Obligation m f v k x p) (sym same.0) w))))

    again : PartialLoop m f S v k (carry_along m f k c is way rest) (W ++ way)
    again = record {
      walk = walk_append m f S progress.walk walk;
      before = λ j d js lt g p w. done_append m f d js way (progress.before j d js lt g p w);
      obligations = λ d js g r s. subst (λ (x : ℕ). Obligation m f v k x r) (same_link f k c d is js e g).0 (along_obligation m f k c is e S walk rest rest_obligation r s);
      here = here_is;
    }

    fewer : count (connective_at f.connectives c).states (carry_along m f k c is way rest) < count (connective_at f.connectives c).states due
    fewer =
        let less : count (connective_at f.connectives c).states (carry_along m f k c is way rest) ≤ count (connective_at f.connectives c).states rest = along_count m f k c is e way rest in
        let gone : count (connective_at f.connectives c).states rest < count (connective_at f.connectives c).states due =
        count_without (connective_at f.connectives c).states due q (progress.obligations c is e q t).fits t in
        omega arith
