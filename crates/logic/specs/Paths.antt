-- Paths of the product over a line: a mask for each time. All is said of the times that pass a test `D`, which what comes after passes too:
-- every time of an infinite word, or the positions of a lasso.
use Rattle.std.specs.Prelude.{◌≡◌, ℕ, ◌+◌, ◌^◌, ◌<◌, Bool, T, ◌⊎◌, ◌↔◌, List, length, nat_lt, slice_index}
use Rattle.frames.specs.Frames.{Node}
use Rattle.frames.specs.Frames.Node.{proposition, negation, next, both, either, apply, truth}
use Rattle.kripke.specs.Models.{Kripke}
use Rattle.kripke.specs.Lassos.{Lasso}
use Rattle.masks.specs.Masks.{bit}
use Rattle.language.specs.Properties.{Property, connective_at, node_width}
use Rattle.logic.specs.Truth.{Line, Fulfilled, Holds, later, node_at}
use Rattle.logic.specs.OnLassos.{lasso_line}
use Rattle.logic.specs.Product.{mask_width, sat, claim, back}

-- what comes after a time that passes the test passes it too
abbrev pub Closed : Line → (ℕ → Bool) → Type 0
Closed l D = (i : ℕ) → T (D i) → T (D (l.after i))

-- node k is true at the vertex of time i
abbrev pub sat_at : Property → Line → (ℕ → ℕ) → ℕ → ℕ → Bool
sat_at f l mask k i = sat f (l.label i) (mask i) k

-- bit number q of node k is claimed at the vertex of time i
abbrev pub claim_at : Property → Line → (ℕ → ℕ) → ℕ → ℕ → ℕ → Bool
claim_at f l mask k q i = claim f (l.label i) (mask i) k q

-- the masks of an edge: the first, J, is what the second vertex, with the label `lab` and the mask K, asks for
abbrev pub MaskEdge : Property → ℕ → ℕ → ℕ → Type 0
MaskEdge f J lab K = (b : ℕ) → b < mask_width f → bit J b ≡ back f lab K b

-- each mask is what the vertex after asks for
abbrev pub ProductPath : Property → Line → (ℕ → Bool) → (ℕ → ℕ) → Type 0
ProductPath f l D mask = (i : ℕ) → T (D i) → MaskEdge f (mask i) (l.label (l.after i)) (mask (l.after i))

-- each state of a connective that is claimed at time i comes to a final state by letters whose operands are true at the vertices
abbrev pub FulfilsAt : Property → Line → (ℕ → ℕ) → ℕ → Type 0
FulfilsAt f l mask i =
    (k : ℕ) → k < length f.nodes → (c : ℕ) (is : List ℕ) → node_at f k ≡ apply c is →
    (q : ℕ) → q < (connective_at f.connectives c).states → T (claim_at f l mask k q i) →
    Fulfilled (connective_at f.connectives c) (λ a j. T (sat_at f l mask (slice_index is a) j)) l q i

-- the same at each time
abbrev pub Fulfils : Property → Line → (ℕ → Bool) → (ℕ → ℕ) → Type 0
Fulfils f l D mask = (i : ℕ) → T (D i) → FulfilsAt f l mask i

-- A claimed state goes on over an edge: a letter whose operand is true leads to a state that is claimed at the vertex after.
-- `here` and J are the label and the mask of the vertex, `there` and K those of the vertex after.
pub record Crosses (f : Property) (here J there K k c : ℕ) (is : List ℕ) (q : ℕ) : Type 0 where
  pub letter : ℕ
  pub to : ℕ
  pub letter_fits : letter < (connective_at f.connectives c).letters
  pub to_fits : to < (connective_at f.connectives c).states
  pub may : T ((connective_at f.connectives c).may q letter to)
  pub operand : T (sat f here J (slice_index is letter))
  pub claimed : T (claim f there K k to)

-- the same over the edge from time i to the time after
abbrev pub Goes_on : Property → Line → (ℕ → ℕ) → ℕ → ℕ → List ℕ → ℕ → ℕ → Type 0
Goes_on f l mask k c is q i = Crosses f (l.label i) (mask i) (l.label (l.after i)) (mask (l.after i)) k c is q

-- A claim at time i has led to a claim j followers later whose fulfilment fulfils it.
pub record Carried (f : Property) (l : Line) (mask : ℕ → ℕ) (k c : ℕ) (is : List ℕ) (j q i : ℕ) : Type 0 where
  pub to : ℕ
  pub to_fits : to < (connective_at f.connectives c).states
  pub claimed : T (claim_at f l mask k to (later l j i))
  pub joins :
      Fulfilled (connective_at f.connectives c) (λ a j. T (sat_at f l mask (slice_index is a) j)) l to (later l j i) →
      Fulfilled (connective_at f.connectives c) (λ a j. T (sat_at f l mask (slice_index is a) j)) l q i

-- the nodes that a vertex has true are those that are true on the line
abbrev pub SatIsTruth : Property → Line → (ℕ → Bool) → (ℕ → ℕ) → Type 0
SatIsTruth f l D mask = (k : ℕ) → k < length f.nodes → (i : ℕ) → T (D i) → T (sat_at f l mask k i) ↔ Holds f l k i

-- what bit number q of a node says of a line at time i
abbrev pub AsksNode : Property → Line → Node → ℕ → ℕ → Type 0
AsksNode f l (proposition p) q i = ⊥
AsksNode f l (negation k) q i = ⊥
AsksNode f l (next k) q i = Holds f l k i
AsksNode f l (both k m) q i = ⊥
AsksNode f l (either k m) q i = ⊥
AsksNode f l (apply c is) q i = Fulfilled (connective_at f.connectives c) (λ a j. Holds f l (slice_index is a) j) l q i
AsksNode f l truth q i = ⊥

-- the same of node k
abbrev pub Asks : Property → Line → ℕ → ℕ → ℕ → Type 0
Asks f l k q i = AsksNode f l (node_at f k) q i

-- whether what each bit says is true is known at each time
abbrev pub Decided : Property → Line → (ℕ → Bool) → Type 0
Decided f l D =
    (k q i : ℕ) → k < length f.nodes → q < node_width f.connectives (node_at f k) → T (D i) → Asks f l k q i ⊎ (¬ Asks f l k q i)

-- Masks that say what is true one step later: a fulfilled path of the product, on which a vertex has those nodes true that are true on the line.
pub record Shadow (f : Property) (l : Line) (D : ℕ → Bool) (mask : ℕ → ℕ) : Type 0 where
  pub fits : (i : ℕ) → mask i < 2 ^ mask_width f
  pub path : ProductPath f l D mask
  pub fulfils : Fulfils f l D mask
  pub sat_is_truth : SatIsTruth f l D mask

-- the positions of a lasso
abbrev pub in_lasso : Lasso → ℕ → Bool
in_lasso p i = nat_lt i (p.stem + p.loop)

-- whether what each bit says is true is known at each position of a lasso
abbrev pub LassoDecided : Kripke → Property → Lasso → Type 0
LassoDecided m f p = Decided f (lasso_line m p) (in_lasso p)
