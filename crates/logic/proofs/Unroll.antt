-- A lasso's truth is that of the infinite word that it stands for.
use Rattle.std.proofs.Common.{◌≡◌, ℕ, zero, suc, Bool, true, false, T, eqb, ◌↔◌, get_or, sym, refl, ap, ◌∙◌, subst}
use mathlib.Core.Logic.Iff
use Rattle.std.proofs.Math.Logic.{⊎_map}
use Rattle.frames.specs.Frames.{Node}
use Rattle.frames.specs.Frames.Node.{proposition, negation, next, both, either, apply, truth}
use Rattle.kripke.specs.Models.{Kripke}
use Rattle.kripke.specs.Lassos.{Lasso, at, position}
use Rattle.masks.specs.Masks.{bit}
use Rattle.language.specs.Properties.{Property}
use Rattle.logic.specs.Truth.{Holds, HoldsBelow, Line, Says, later, node_at, root, word_line}
use Rattle.logic.specs.OnLassos.{lasso_line, unrolled}
use Rattle.logic.specs.Laws.{LassosUnroll}
use Rattle.logic.proofs.Followers.{periodic, position_first}

-- h maps the times of `far` to those of `near`, with the labels and what comes after
module _ (far near : Line) (h : ℕ → ℕ)
    (labels : (i : ℕ) → near.label (h i) ≡ far.label i)
    (afters : (i : ℕ) → near.after (h i) ≡ h (far.after i)) where
  laters : (j i : ℕ) → later near j (h i) ≡ h (later far j i)
  laters zero i = refl
  laters (suc j) i = ap (later near j) (afters i) ∙ laters j (far.after i)

  says : (f : Property) (P Q : ℕ → ℕ → Type 0) → ((k i : ℕ) → P k (h i) ↔ Q k i) → (x : Node) (i : ℕ) → Says f near P x (h i) ↔ Says f far Q x i
  says f P Q same (proposition p) i = (λ t. subst (λ v. T (bit v p)) (labels i) t, λ t. subst (λ v. T (bit v p)) (sym (labels i)) t)
  says f P Q same (negation k) i = Iff.not (same k i)
  says f P Q same (next k) i = (λ t. (same k (far.after i)).0 (subst (P k) (afters i) t), λ t. subst (P k) (sym (afters i)) ((same k (far.after i)).1 t))
  says f P Q same (both k m) i = Iff.and (same k i) (same m i)
  says f P Q same (either k m) i = (⊎_map (same k i).0 (same m i).0, ⊎_map (same k i).1 (same m i).1)
  says f P Q same (apply c is) i = (
    λ t. record { word = t.word; run = t.run; accepts = t.accepts; operands = λ j lt. (same _ _).0 (subst (P (get_or is (get_or t.word j 0) 0)) (laters j i) (t.operands j lt)) },
    λ t. record { word = t.word; run = t.run; accepts = t.accepts; operands = λ j lt. subst (P (get_or is (get_or t.word j 0) 0)) (sym (laters j i)) ((same _ _).1 (t.operands j lt)) },
  )
  says f P Q same truth i = (λ u. u, λ u. u)

  -- truth at a time of `far` is truth at the time of `near` that h maps it to
  pub holds_same : (f : Property) (n k i : ℕ) → HoldsBelow f near n k (h i) ↔ HoldsBelow f far n k i
  holds_same f zero k i = (λ e. e, λ e. e)
  holds_same f (suc n) k i = go (eqb k n) (λ k i. holds_same f n k i)
    where
      go : (b : Bool) → ((k i : ℕ) → HoldsBelow f near n k (h i) ↔ HoldsBelow f far n k i) → (elim b as (λ _. Type 0) [ true ↦ Says f near (HoldsBelow f near n) (node_at f n) (h i) | false ↦ HoldsBelow f near n k (h i) ]) ↔ (elim b as (λ _. Type 0) [ true ↦ Says f far (HoldsBelow f far n) (node_at f n) i | false ↦ HoldsBelow f far n k i ])
      go true ih = says f (HoldsBelow f near n) (HoldsBelow f far n) ih (node_at f n) i
      go false ih = ih k i

-- a node at the position reached at time i, and of the infinite word at time i
nodes_unroll : (m : Kripke) (f : Property) (p : Lasso) (k i : ℕ) → Holds f (lasso_line m p) k (position p i) ↔ Holds f (word_line (unrolled m p)) k i
nodes_unroll m f p k i = holds_same (word_line (unrolled m p)) (lasso_line m p) (position p) (λ i. refl) (λ i. refl) f (suc k) k i

pub lassos_unroll : LassosUnroll
lassos_unroll = record {
  nodes = nodes_unroll;
  falsifies = λ m f p. Iff.not (nodes_unroll m f p (root f) 0);
  begins = position_first;
  repeats = λ m p loops j. (periodic p loops j, ap (λ i. m.label (at p i)) (periodic p loops j));
}
