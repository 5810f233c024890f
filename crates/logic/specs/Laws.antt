-- The laws of truth, and those of the product that decides it.
use Rattle.std.specs.Prelude.{◌≡◌, ℕ, ◌+◌, ◌^◌, ◌<◌, ◌≤◌, Bool, T, ◌⊎◌, ◌↔◌, List, length, slice_index}
use Rattle.frames.specs.Frames.Node.{apply}
use Rattle.kripke.specs.Models.{Kripke, OneMeaning}
use Rattle.kripke.specs.Lassos.{Lasso, position}
use Rattle.masks.specs.Masks.{bit}
use Rattle.language.specs.Properties.{Connective, Property, WellFormed, connective_at, width}
use Rattle.logic.specs.Truth.{Line, Fulfilled, Holds, TrueOf, later, node_at, root, word_line}
use Rattle.logic.specs.OnLassos.{Counterexample, Falsifies, lasso_line, unrolled}
use Rattle.logic.specs.Product.{back_mask, claim, mask_width}
use Rattle.logic.specs.Paths.{Carried, Closed, Crosses, Decided, Fulfils, FulfilsAt, Goes_on, LassoDecided, MaskEdge, ProductPath, SatIsTruth, Shadow, claim_at, in_lasso, sat_at}

-- Truth on a lasso, by positions and followers, is truth of the infinite word that it unrolls to.
pub record LassosUnroll : Type 0 where
  -- each node is true at the position reached at time i exactly where it is true of the word at time i
  pub nodes : (m : Kripke) (f : Property) (p : Lasso) (k i : ℕ) → Holds f (lasso_line m p) k (position p i) ↔ Holds f (word_line (unrolled m p)) k i
  -- so a lasso falsifies a property exactly where the word does
  pub falsifies : (m : Kripke) (f : Property) (p : Lasso) → Falsifies m f p ↔ (¬ TrueOf f (unrolled m p))
  -- the first positions are reached in their order
  pub begins : (p : Lasso) (i : ℕ) → i < p.stem + p.loop → position p i ≡ i
  -- from the end of the stem on, the word repeats its loop
  pub repeats : (m : Kripke) (p : Lasso) → 1 ≤ p.loop → (j : ℕ) →
      (position p (p.stem + p.loop + j) ≡ position p (p.stem + j)) × (unrolled m p (p.stem + p.loop + j) ≡ unrolled m p (p.stem + j))

-- A connective node whose connective starts at a final state is true everywhere: the empty word will do.
abbrev pub FinalStartIsTrue : Type 0
FinalStartIsTrue = (f : Property) (l : Line) (k c : ℕ) (is : List ℕ) → node_at f k ≡ apply c is →
    (connective_at f.connectives c).start < (connective_at f.connectives c).states →
    T (bit (connective_at f.connectives c).finals (connective_at f.connectives c).start) → (i : ℕ) → Holds f l k i

-- A letter whose operand is true at time i leads from q to a state from which the connective is fulfilled at the time after.
pub record Steps (c : Connective) (operand : ℕ → ℕ → Type 0) (l : Line) (q i : ℕ) : Type 0 where
  pub letter : ℕ
  pub to : ℕ
  pub letter_fits : letter < c.letters
  pub from_fits : q < c.states
  pub may : T (c.may q letter to)
  pub holds : operand letter i
  pub rest : Fulfilled c operand l to (l.after i)

-- The unfolding of a connective: it is fulfilled from q at time i exactly if q is a final state or it steps on.
abbrev pub ConnectivesUnfold : Type 0
ConnectivesUnfold = (f : Property) (l : Line) (c : Connective) (is : List ℕ) (q i : ℕ) →
    Fulfilled c (λ a j. Holds f l (slice_index is a) j) l q i
    ↔ (((q < c.states) × T (bit c.finals q)) ⊎ Steps c (λ a j. Holds f l (slice_index is a) j) l q i)

-- Truth on a lasso depends on the model's meaning alone.
pub record MeaningDecides : Type 0 where
  pub falsifies : (m n : Kripke) → OneMeaning m n → (f : Property) (p : Lasso) → Falsifies m f p ↔ Falsifies n f p
  pub counterexamples : (m n : Kripke) → OneMeaning m n → (f : Property) (p : Lasso) → Counterexample m f p ↔ Counterexample n f p

-- A claimed state is final, or goes on to a state that is claimed at the vertex after: over an edge, and along a line.
pub record Persists : Type 0 where
  pub edge : (f : Property) (k c : ℕ) (is : List ℕ) → k < length f.nodes → node_at f k ≡ apply c is →
      (here J there K : ℕ) → MaskEdge f J there K → (q : ℕ) → T (claim f here J k q) →
      T (bit (connective_at f.connectives c).finals q) ⊎ Crosses f here J there K k c is q
  pub line : (f : Property) (l : Line) (D : ℕ → Bool) (mask : ℕ → ℕ) → ProductPath f l D mask →
      (k c : ℕ) (is : List ℕ) → k < length f.nodes → node_at f k ≡ apply c is →
      (q i : ℕ) → T (D i) → T (claim_at f l mask k q i) →
      T (bit (connective_at f.connectives c).finals q) ⊎ Goes_on f l mask k c is q i

-- On a fulfilled path of the product the nodes that a vertex has true are those that are true on the line.
abbrev pub TruthLemma : Type 0
TruthLemma = (f : Property) → WellFormed f → (l : Line) (D : ℕ → Bool) → Closed l D → (mask : ℕ → ℕ) →
    ProductPath f l D mask → Fulfils f l D mask → SatIsTruth f l D mask

-- Each line on which the bits are decided has a shadow.
abbrev pub ShadowLemma : Type 0
ShadowLemma = (f : Property) → WellFormed f → (l : Line) (D : ℕ → Bool) → Closed l D → Decided f l D →
    (mask : ℕ → ℕ) × Shadow f l D mask

-- A mask has as many bits as the property is wide, and a path of masks of that many bits is one where each is the back mask of the vertex after.
pub record BackMasks : Type 0 where
  pub widths : (f : Property) → mask_width f ≡ width f.connectives f.nodes
  pub steps : (f : Property) (l : Line) (D : ℕ → Bool) (mask : ℕ → ℕ) → ((i : ℕ) → mask i < 2 ^ mask_width f) →
      ProductPath f l D mask ↔ ((i : ℕ) → T (D i) → mask i ≡ back_mask f (l.label (l.after i)) (mask (l.after i)))

-- Along j steps of a path a claim is fulfilled, or has led to a claim whose fulfilment fulfils it.
abbrev pub PersistsAlong : Type 0
PersistsAlong = (f : Property) (l : Line) (D : ℕ → Bool) (mask : ℕ → ℕ) → ProductPath f l D mask →
    (k c : ℕ) (is : List ℕ) → k < length f.nodes → node_at f k ≡ apply c is →
    (j q i : ℕ) → ((n : ℕ) → n < j → T (D (later l n i))) → q < (connective_at f.connectives c).states → T (claim_at f l mask k q i) →
    Fulfilled (connective_at f.connectives c) (λ a j. T (sat_at f l mask (slice_index is a) j)) l q i ⊎ Carried f l mask k c is j q i

-- A path is fulfilled if it is so at one time that each time comes to; on a lasso, at its first loop position.
pub record OneTime : Type 0 where
  pub line : (f : Property) (l : Line) (D : ℕ → Bool) → Closed l D → (mask : ℕ → ℕ) → ProductPath f l D mask →
      (t : ℕ) → ((i : ℕ) → T (D i) → (j : ℕ) × (later l j i ≡ t)) → FulfilsAt f l mask t → Fulfils f l D mask
  pub lasso : (m : Kripke) (f : Property) (p : Lasso) → 1 ≤ p.loop → (mask : ℕ → ℕ) →
      ProductPath f (lasso_line m p) (in_lasso p) mask → FulfilsAt f (lasso_line m p) mask p.stem →
      Fulfils f (lasso_line m p) (in_lasso p) mask

-- To refute something of a lasso one may take all of its bits as decided: that they are not is absurd.
abbrev pub MayDecide : Type 0
MayDecide = (m : Kripke) (f : Property) (p : Lasso) → (¬ LassoDecided m f p) → ⊥

-- A fulfilled lasso of the product whose first vertex has the root false falsifies the property.
abbrev pub ProductFalsifies : Type 0
ProductFalsifies = (m : Kripke) (f : Property) (p : Lasso) (mask : ℕ → ℕ) → WellFormed f → 1 ≤ p.loop →
    ProductPath f (lasso_line m p) (in_lasso p) mask → Fulfils f (lasso_line m p) (in_lasso p) mask →
    (¬ T (sat_at f (lasso_line m p) mask (root f) 0)) → Falsifies m f p

-- A lasso over which the product has no shadow with a first vertex that has the root false does not falsify the property.
abbrev pub NoneInProduct : Type 0
NoneInProduct = (m : Kripke) (f : Property) (p : Lasso) → WellFormed f → 1 ≤ p.loop →
    ((mask : ℕ → ℕ) → Shadow f (lasso_line m p) (in_lasso p) mask → (¬ T (sat_at f (lasso_line m p) mask (root f) 0)) → ⊥) →
    ¬ Falsifies m f p
