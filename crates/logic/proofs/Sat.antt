-- A node's truth, at a vertex and on a line, from that of its operands.
use Rattle.std.proofs.Common.{◌≡◌, ℕ, zero, suc, ◌+◌, ◌<◌, Bool, true, false, not, ◌&&◌, ◌||◌, eqb, ◌↔◌, length, get_or, sym, refl, ap, ◌∙◌, subst, ap₂, not-suc-le-zero, arith}
use mathlib.Core.Logic.Iff
use Rattle.std.proofs.Math.Logic.{⊎_map}
use Rattle.std.proofs.lemmas.Bool.{eq-eqb, eqb-false, eqb-true}
use Rattle.frames.specs.Frames.{Node}
use Rattle.frames.specs.Frames.Node.{proposition, negation, next, both, either, apply, truth}
use Rattle.masks.specs.Masks.{bit}
use Rattle.language.specs.Properties.{Connective, Property, WellFormed, connective_at}
use Rattle.logic.specs.Truth.{Fulfilled, Holds, HoldsBelow, Line, Says, later, node_at}
use Rattle.logic.specs.Product.{claim_of, sat, sat_below, sat_node, some_below, start_of}
use Rattle.logic.proofs.Fits.{NodeFits, fits_at, operand_below}
use Rattle.logic.proofs.Bools.{some_same}
use Rattle.logic.proofs.Unfold.{holds_is, holds_stays}

-- a node's truth at a vertex is worked out once: nodes after it do not change it
pub sat_stays : (f : Property) (lab K n k : ℕ) → k < n → sat_below f lab K n k ≡ sat f lab K k
sat_stays f lab K zero k h = absurd (not-suc-le-zero h)
sat_stays f lab K (suc n) k h = go (eqb k n) refl (sat_stays f lab K n k)
  where
    go : (b : Bool) → eqb k n ≡ b → (k < n → sat_below f lab K n k ≡ sat f lab K k) → sat_below f lab K (suc n) k ≡ sat f lab K k
    go true e ih = let same : k ≡ n = eqb-true k n e in ap (λ m. sat_below f lab K (suc m) k) (sym same)
    go false e ih =
        let other : ¬ (k ≡ n) = eqb-false k n e in
        let lower : k < n = omega arith in
        ap (λ (b : Bool). elim b as (λ _. Bool) [ true ↦ sat_node f lab K (sat_below f lab K n) (start_of f n) (node_at f n) | false ↦ sat_below f lab K n k ]) e ∙ ih lower

-- operands that agree make the same claim
pub claim_same : (c : Connective) (g h : ℕ → Bool) (K o q : ℕ) → ((a : ℕ) → a < c.letters → g a ≡ h a) → claim_of c g K o q ≡ claim_of c h K o q
claim_same c g h K o q e =
    ap (λ x. bit c.finals q || x) (some_same c.letters _ _ (λ a lt. ap (λ x. x && some_below c.states (λ r. c.may q a r && bit K (o + r))) (e a lt)))

-- a node says the same of operands that agree
pub sat_node_same : (f : Property) (lab K o k : ℕ) (g h : ℕ → Bool) → ((j : ℕ) → j < k → g j ≡ h j) → (x : Node) → NodeFits f k x → sat_node f lab K g o x ≡ sat_node f lab K h o x
sat_node_same f lab K o k g h e (proposition p) fits = refl
sat_node_same f lab K o k g h e (negation j) fits = ap not (e j fits)
sat_node_same f lab K o k g h e (next j) fits = refl
sat_node_same f lab K o k g h e (both j m) fits = ap₂ ◌&&◌ (e j fits.0) (e m fits.1)
sat_node_same f lab K o k g h e (either j m) fits = ap₂ ◌||◌ (e j fits.0) (e m fits.1)
sat_node_same f lab K o k g h e (apply c is) fits =
    claim_same (connective_at f.connectives c) (λ a. g (get_or is a 0)) (λ a. h (get_or is a 0)) K o (connective_at f.connectives c).start
    (λ a lt. e (get_or is a 0) (operand_below f k c is fits a lt))
sat_node_same f lab K o k g h e truth fits = refl

-- a node's truth at a vertex, from that of all nodes
pub sat_unfold : (f : Property) (lab K k : ℕ) → NodeFits f k (node_at f k) → sat f lab K k ≡ sat_node f lab K (sat f lab K) (start_of f k) (node_at f k)
sat_unfold f lab K k fits =
    ap (λ (b : Bool). elim b as (λ _. Bool) [ true ↦ sat_node f lab K (sat_below f lab K k) (start_of f k) (node_at f k) | false ↦ sat_below f lab K k k ]) (eq-eqb k k refl)
    ∙ sat_node_same f lab K (start_of f k) k (sat_below f lab K k) (sat f lab K) (λ j lt. sat_stays f lab K k j lt) (node_at f k) fits

-- fulfilment with other operands: only the connective's letters are asked for
pub fulfil_map : (c : Connective) (P Q : ℕ → ℕ → Type 0) (l : Line) (D : ℕ → Type 0) → ((i : ℕ) → D i → D (l.after i)) →
    ((a j : ℕ) → a < c.letters → D j → P a j → Q a j) → (q i : ℕ) → D i → Fulfilled c P l q i → Fulfilled c Q l q i
fulfil_map c P Q l D stays map q i d t = record {
  word = t.word;
  run = t.run;
  accepts = t.accepts;
  operands = λ j lt. map (get_or t.word j 0) (later l j i) (t.accepts.letters j lt) (laters j i d) (t.operands j lt);
}
  where
    laters : (j i : ℕ) → D i → D (later l j i)
    laters zero i d = d
    laters (suc j) i d = laters j (l.after i) (stays i d)

module _ (f : Property) (l : Line) (k : ℕ) (P Q : ℕ → ℕ → Type 0) (same : (j i : ℕ) → j < k → P j i ↔ Q j i) where
  -- on a line too
  says_same : (x : Node) → NodeFits f k x → (i : ℕ) → Says f l P x i ↔ Says f l Q x i
  says_same (proposition p) fits i = (λ u. u, λ u. u)
  says_same (negation j) fits i = Iff.not (same j i fits)
  says_same (next j) fits i = same j (l.after i) fits
  says_same (both j m) fits i = Iff.and (same j i fits.0) (same m i fits.1)
  says_same (either j m) fits i = (⊎_map (same j i fits.0).0 (same m i fits.1).0, ⊎_map (same j i fits.0).1 (same m i fits.1).1)
  says_same (apply c is) fits i = (
    fulfil_map (connective_at f.connectives c) (λ a j. P (get_or is a 0) j) (λ a j. Q (get_or is a 0) j) l (λ _. Unit {0}) (λ _ _. tt)
        (λ a j lt _ p. (same (get_or is a 0) j (operand_below f k c is fits a lt)).0 p) (connective_at f.connectives c).start i tt,
    fulfil_map (connective_at f.connectives c) (λ a j. Q (get_or is a 0) j) (λ a j. P (get_or is a 0) j) l (λ _. Unit {0}) (λ _ _. tt)
        (λ a j lt _ p. (same (get_or is a 0) j (operand_below f k c is fits a lt)).1 p) (connective_at f.connectives c).start i tt,
  )
  says_same truth fits i = (λ u. u, λ u. u)

-- equal statements are true together
pub along : {A B : Type 0} → ◌≡◌ {A = Type 0} A B → A ↔ B
along e = (λ a. subst (λ (X : Type 0). X) e a, λ b. subst (λ (X : Type 0). X) (sym e) b)

-- a node's truth on a line, from that of all nodes
pub holds_unfold : (f : Property) (l : Line) → WellFormed f → (k : ℕ) → k < length f.nodes → (i : ℕ) → Holds f l k i ↔ Says f l (Holds f l) (node_at f k) i
holds_unfold f l wf k lt i =
    Iff.trans (along (holds_is f l k i))
    (says_same f l k (HoldsBelow f l k) (Holds f l) (λ j i lower. along (holds_stays f l k j i lower)) (node_at f k) (fits_at f wf k lt) i)
