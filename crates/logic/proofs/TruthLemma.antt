-- On a fulfilled path of the product a vertex's nodes are those that are true of the line.
use Rattle.std.proofs.Common.{◌≡◌, ℕ, zero, suc, ◌<◌, Bool, T, ◌↔◌, List, length, get_or, sym, refl, ap, ◌∙◌, subst, not-suc-le-zero, add-zero, arith}
use mathlib.Core.Logic.Iff
use Rattle.frames.specs.Frames.{Node}
use Rattle.frames.specs.Frames.Node.{proposition, negation, next, both, either, apply, truth}
use Rattle.masks.specs.Masks.{bit}
use Rattle.language.specs.Properties.{Property, WellFormed, connective_at, node_width}
use Rattle.logic.specs.Truth.{Fulfilled, Holds, Line, Says, node_at}
use Rattle.logic.specs.Product.{claim_node, claim_of, sat, sat_node, start_of}
use Rattle.logic.specs.Paths.{SatIsTruth, sat_at}
use Rattle.logic.specs.Laws.{TruthLemma}
use Rattle.logic.proofs.Fits.{NodeFits, fits_at, operand_below, start_fits}
use Rattle.logic.proofs.Bools.{iff_not, iff_and, iff_or, along_T}
use Rattle.logic.proofs.Sat.{fulfil_map, holds_unfold, sat_unfold}
use Rattle.logic.proofs.Claims.{claim_is, claim_run, edge_back}

-- truth is as at the vertices, at the nodes below k
abbrev pub TrueBelow : Property → Line → (ℕ → Bool) → (ℕ → ℕ) → ℕ → Type 0
TrueBelow f l D mask k = (j : ℕ) → j < k → (i : ℕ) → T (D i) → T (sat_at f l mask j i) ↔ Holds f l j i

-- the bit of a `next` node says that its operand is true one step later
abbrev pub Nexts : Property → Line → (ℕ → Bool) → (ℕ → ℕ) → Type 0
Nexts f l D mask = (k : ℕ) → k < length f.nodes → TrueBelow f l D mask k → (j : ℕ) → node_at f k ≡ next j → j < k →
    (i : ℕ) → T (D i) → T (bit (mask i) (start_of f k)) ↔ Holds f l j (l.after i)

-- the start state of an `apply` node is claimed exactly where its connective is fulfilled from it
abbrev pub Applies : Property → Line → (ℕ → Bool) → (ℕ → ℕ) → Type 0
Applies f l D mask = (k : ℕ) → k < length f.nodes → TrueBelow f l D mask k → (c : ℕ) (is : List ℕ) → node_at f k ≡ apply c is →
    NodeFits f k (apply c is) → (i : ℕ) → T (D i) →
    T (claim_of (connective_at f.connectives c) (λ a. sat_at f l mask (get_or is a 0) i) (mask i) (start_of f k) (connective_at f.connectives c).start)
    ↔ Fulfilled (connective_at f.connectives c) (λ a j. Holds f l (get_or is a 0) j) l (connective_at f.connectives c).start i

-- the induction over the nodes
module _ (f : Property) (wf : WellFormed f) (l : Line) (D : ℕ → Bool) (mask : ℕ → ℕ) (nexts : Nexts f l D mask) (applies : Applies f l D mask) where
  node_truth : (k : ℕ) → k < length f.nodes → TrueBelow f l D mask k → (x : Node) → node_at f k ≡ x → NodeFits f k x → (i : ℕ) → T (D i) →
      T (sat_node f (l.label i) (mask i) (sat f (l.label i) (mask i)) (start_of f k) x) ↔ Says f l (Holds f l) x i
  node_truth k lt ih (proposition p) e fits i d = (λ u. u, λ u. u)
  node_truth k lt ih (negation j) e fits i d = iff_not (sat_at f l mask j i) (ih j fits i d)
  node_truth k lt ih (next j) e fits i d = nexts k lt ih j e fits i d
  node_truth k lt ih (both j m) e fits i d = iff_and (sat_at f l mask j i) (sat_at f l mask m i) (ih j fits.0 i d) (ih m fits.1 i d)
  node_truth k lt ih (either j m) e fits i d = iff_or (sat_at f l mask j i) (sat_at f l mask m i) (ih j fits.0 i d) (ih m fits.1 i d)
  node_truth k lt ih (apply c is) e fits i d = applies k lt ih c is e fits i d
  node_truth k lt ih truth e fits i d = (λ u. u, λ u. u)

  truth_below : (n k : ℕ) → k < n → k < length f.nodes → (i : ℕ) → T (D i) → T (sat_at f l mask k i) ↔ Holds f l k i
  truth_below zero k h lt i d = absurd (not-suc-le-zero h)
  truth_below (suc n) k h lt i d =
      let fits : NodeFits f k (node_at f k) = fits_at f wf k lt in
      Iff.trans (along_T (sat_unfold f (l.label i) (mask i) k fits))
      (Iff.trans (node_truth k lt (λ j lower i d. truth_below n j (omega arith) (omega arith) i d) (node_at f k) refl fits i d)
      (Iff.symm (holds_unfold f l wf k lt i)))

  pub by_nodes : SatIsTruth f l D mask
  by_nodes k lt i d = truth_below (suc k) k (omega arith) lt i d

pub truth_lemma : TruthLemma
truth_lemma f wf l D stays mask path fulfils = by_nodes f wf l D mask nexts applies
  where
    nexts : Nexts f l D mask
    nexts k lt ih j e lower i d =
        let w : 0 < node_width f.connectives (node_at f k) = subst (λ x. 0 < node_width f.connectives x) (sym e) (omega arith) in
        Iff.trans
        (along_T (ap (bit (mask i)) (sym (add-zero (start_of f k))) ∙ edge_back f (mask i) (l.label (l.after i)) (mask (l.after i)) (path i d) k lt 0 w
        ∙ ap (λ x. claim_node f (l.label (l.after i)) (mask (l.after i)) (start_of f k) x 0) e))
        (ih j lower (l.after i) (stays i d))

    applies : Applies f l D mask
    applies k lt ih c is e fits i d =
        let start : ℕ = (connective_at f.connectives c).start in
        let S : ℕ → ℕ → Type 0 = λ a j. T (sat_at f l mask (get_or is a 0) j) in
        let H : ℕ → ℕ → Type 0 = λ a j. Holds f l (get_or is a 0) j in (
          λ t. fulfil_map (connective_at f.connectives c) S H l (λ j. T (D j)) stays
              (λ a j lt d s. (ih (get_or is a 0) (operand_below f k c is fits a lt) j d).0 s) start i d
              (fulfils i d k lt c is e start (start_fits f wf c fits.0) (subst T (sym (claim_is f k c is lt e (l.label i) (mask i) start)) t)),
          λ h. let t : Fulfilled (connective_at f.connectives c) S l start i =
              fulfil_map (connective_at f.connectives c) H S l (λ j. T (D j)) stays
              (λ a j lt d s. (ih (get_or is a 0) (operand_below f k c is fits a lt) j d).1 s) start i d h in
              claim_run f k c is lt e l D mask path stays t.word start i t.run d t.accepts t.operands,
        )
