-- The nodes and connectives of a stored property, by its rows.
use Rattle.std.proofs.Common.{◌≡◌, ℕ, suc, ◌+◌, ◌<◌, ◌≤◌, Bool, List, length, get_or, take, sym, ap, ◌∙◌, subst, arith}
use Rattle.std.proofs.lemmas.List.{get_or-map, get_or-take, length-take, length-take-le}
use Rattle.frames.specs.Frames.{Node}
use Rattle.frames.specs.Frames.Node.{apply, truth}
use Rattle.masks.specs.Masks.{bit}
use Rattle.language.specs.Properties.{Connective, Property, connective_at, node_width}
use Rattle.properties.specs.declared.property.Property.{Property as Stored}
use Rattle.properties.specs.declared.rows.Connective.{Connective as ConnectiveRow}
use Rattle.properties.specs.declared.rows.Node.{Node as NodeRow}
use Rattle.properties.specs.declared.rows.Node.TheVariants.{True, Apply}
use Rattle.properties.specs.Meaning.{meaning}
use Rattle.properties.specs.Views.{connective_of, no_row, node_of}
use Rattle.properties.proofs.Formed.{formed}
use Rattle.properties.proofs.Verdicts.{connective_in, length_connectives, length_nodes}
use Rattle.logic.specs.Truth.{node_at}
use Rattle.logic.specs.Product.{claim_of, mask_of, sat, sat_node, start_of}
use Rattle.logic.proofs.Fits.{NodeFits, fits_at, start_fits}
use Rattle.logic.proofs.Masks.{mask_bit}
use Rattle.logic.proofs.Sat.{claim_same, sat_node_same, sat_unfold}
use Rattle.logic.proofs.Spread.{start_mono, widths}
use Rattle.product.specs.Onward.{claimed_node, onward_node, onward_of}
use Rattle.product.proofs.Same.{onward_same}

module _ (p : Stored) where
  abbrev f : Property
  f = meaning p

  abbrev row : ℕ → NodeRow
  row k = get_or p.rows.nodes k True

  abbrev connective : ℕ → ConnectiveRow
  connective c = get_or p.rows.connectives c no_row

  pub node_in : (k : ℕ) → k < p.rows.count → k < length f.nodes
  node_in k lt = subst (λ n. k < n) (sym (length_nodes p.rows)) lt

  pub some_node : 0 < p.rows.count
  some_node = subst (λ n. 0 < n) (length_nodes p.rows) (formed p).rooted

  pub node_is : (k : ℕ) → k < p.rows.count → (x : NodeRow) → row k ≡ x → node_at f k ≡ node_of x
  node_is k lt x e =
      let few : p.rows.count ≤ 32 = p.rows.few_nodes in
      let long : length p.rows.nodes ≡ 32 = p.rows.many in
      let n : length (take p.rows.count p.rows.nodes) ≡ p.rows.count = length-take-le p.rows.count p.rows.nodes (omega arith) in
      get_or-map node_of (take p.rows.count p.rows.nodes) k True truth (omega arith) ∙ ap node_of (get_or-take p.rows.count p.rows.nodes k True lt ∙ e)

  pub node_fit : (k : ℕ) → k < p.rows.count → NodeFits f k (node_at f k)
  node_fit k lt = fits_at f (formed p) k (node_in k lt)

  pub row_fit : (k : ℕ) → k < p.rows.count → (x : NodeRow) → row k ≡ x → NodeFits f k (node_of x)
  row_fit k lt x e = subst (λ (y : Node). NodeFits f k y) (node_is k lt x e) (node_fit k lt)

  -- the mask has room for the bits of each node
  pub narrow_at : (k : ℕ) → k < p.rows.count → start_of f k + node_width f.connectives (node_at f k) ≤ 12
  narrow_at k lt =
      let top : start_of f (suc k) ≤ start_of f (length f.nodes) = start_mono f (suc k) (length f.nodes) (node_in k lt) in
      let w = widths f in
      let n = (formed p).narrow in
      omega arith

  -- a connective node
  module _ (k : ℕ) (lt : k < p.rows.count) (c arity : ℕ) (is : List ℕ) (e : row k ≡ Apply c arity is) where
    fit : NodeFits f k (apply c (take arity is))
    fit = row_fit k lt (Apply c arity is) e

    pub connective_used : c < p.rows.used
    connective_used = subst (λ n. c < n) (length_connectives p.rows) fit.0

    pub connective_is : connective_at f.connectives c ≡ connective_of (connective c)
    connective_is = connective_in p.rows c connective_used

    letters_are : length (take arity is) ≡ (connective c).letters
    letters_are = fit.1 ∙ ap (λ (x : Connective). x.letters) connective_is

    operand_is : (a : ℕ) → a < (connective c).letters → get_or is a 0 ≡ get_or (take arity is) a 0
    operand_is a la = let n = letters_are in let m = length-take arity is in sym (get_or-take arity is a 0 (omega arith))

    pub start_state : (connective c).start < (connective c).states
    start_state = subst (λ (x : Connective). x.start < x.states) connective_is (start_fits f (formed p) c fit.0)

    pub width_is : node_width f.connectives (node_at f k) ≡ (connective c).states
    width_is = ap (node_width f.connectives) (node_is k lt (Apply c arity is) e) ∙ ap (λ (x : Connective). x.states) connective_is

    pub room : start_of f k + (connective c).states ≤ 12
    room = let w = width_is in let n = narrow_at k lt in omega arith

    -- its claims, by the rows
    pub claims_are : (truths K o q : ℕ) → claim_of (connective_of (connective c)) (λ a. bit truths (get_or is a 0)) K o q ≡ claimed_node f (bit truths) K o (apply c (take arity is)) q
    claims_are truths K o q =
        claim_same (connective_of (connective c)) (λ a. bit truths (get_or is a 0)) (λ a. bit truths (get_or (take arity is) a 0)) K o q (λ a la. ap (bit truths) (operand_is a la))
        ∙ ap (λ (x : Connective). claim_of x (λ a. bit truths (get_or (take arity is) a 0)) K o q) (sym connective_is)

    pub onward_is : (truths K o q : ℕ) → onward_of (connective_of (connective c)) (λ a. bit truths (get_or is a 0)) K o q ≡ onward_node f (bit truths) K o (apply c (take arity is)) q
    onward_is truths K o q =
        onward_same (connective_of (connective c)) (λ a. bit truths (get_or is a 0)) (λ a. bit truths (get_or (take arity is) a 0)) K o q (λ a la. ap (bit truths) (operand_is a la))
        ∙ ap (λ (x : Connective). onward_of x (λ a. bit truths (get_or (take arity is) a 0)) K o q) (sym connective_is)

    pub start_claimed : (lab truths K o : ℕ) → claim_of (connective_of (connective c)) (λ a. bit truths (get_or is a 0)) K o (connective c).start ≡ sat_node f lab K (bit truths) o (apply c (take arity is))
    start_claimed lab truths K o =
        claims_are truths K o (connective c).start
        ∙ ap (claim_of (connective_at f.connectives c) (λ a. bit truths (get_or (take arity is) a 0)) K o) (sym (ap (λ (x : Connective). x.start) connective_is))

  -- one more node of those that are true
  pub truths_more : (lab K n : ℕ) → n < p.rows.count → (b : Bool) → b ≡ sat_node f lab K (bit (mask_of n (sat f lab K))) (start_of f n) (node_at f n) → b ≡ sat f lab K n
  truths_more lab K n lt b e =
      e
      ∙ sat_node_same f lab K (start_of f n) n (bit (mask_of n (sat f lab K))) (sat f lab K) (λ j lo. mask_bit n (sat f lab K) j lo) (node_at f n) (node_fit n lt)
      ∙ sym (sat_unfold f lab K n (node_fit n lt))
