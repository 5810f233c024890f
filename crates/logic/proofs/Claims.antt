-- What a claim is, and how it goes on along a path of the product.
use Rattle.std.proofs.Common.{◌≡◌, ℕ, suc, ◌+◌, ◌<◌, ◌≤◌, Bool, ◌&&◌, T, ◌⊎◌, List, [], ◌∷◌, length, get_or, sym, ap, ◌∙◌, subst, inl, inr, suc-le-suc, zero-le, arith}
use Rattle.frames.specs.Frames.Node.{apply}
use Rattle.masks.specs.Masks.{bit}
use Rattle.language.specs.Properties.{Connective, Property, connective_at, node_width}
use Rattle.logic.specs.Truth.{Accepts, Line, later, node_at}
use Rattle.logic.specs.Product.{claim, claim_node, claim_of, sat, some_below, start_of}
use Rattle.logic.specs.Paths.{Closed, Crosses, Goes_on, MaskEdge, ProductPath, claim_at, sat_at}
use Rattle.logic.proofs.Bools.{T_and, and_T, T_or_left, T_or_right, or_T, some_in, some_out}
use Rattle.logic.proofs.Spread.{spread_at, start_mono}
use Rattle.logic.proofs.Unfold.{rest_accepts}

-- the letter and the state by which a claim goes on
pub record Step (c : Connective) (operand : ℕ → Bool) (K o q : ℕ) : Type 0 where
  pub letter : ℕ
  pub to : ℕ
  pub letter_fits : letter < c.letters
  pub to_fits : to < c.states
  pub may : T (c.may q letter to)
  pub holds : T (operand letter)
  pub marked : T (bit K (o + to))

module _ (c : Connective) (operand : ℕ → Bool) (K o q : ℕ) where
  -- the letter a leads from q to the state r, whose bit is set
  abbrev leads : ℕ → ℕ → Bool
  leads a r = c.may q a r && bit K (o + r)

  -- the operand of the letter a is true, and it leads to a state whose bit is set
  abbrev goes : ℕ → Bool
  goes a = operand a && some_below c.states (leads a)

  pub claim_final : T (bit c.finals q) → T (claim_of c operand K o q)
  claim_final t = T_or_left (bit c.finals q) (some_below c.letters goes) t

  pub claim_step : Step c operand K o q → T (claim_of c operand K o q)
  claim_step s =
      T_or_right (bit c.finals q) (some_below c.letters goes)
      (some_in c.letters goes s.letter s.letter_fits
      (T_and (operand s.letter) (some_below c.states (leads s.letter)) s.holds
      (some_in c.states (leads s.letter) s.to s.to_fits
      (T_and (c.may q s.letter s.to) (bit K (o + s.to)) s.may s.marked))))

  pub claim_out : T (claim_of c operand K o q) → T (bit c.finals q) ⊎ Step c operand K o q
  claim_out t = go (or_T (bit c.finals q) (some_below c.letters goes) t)
    where
      go : T (bit c.finals q) ⊎ T (some_below c.letters goes) → T (bit c.finals q) ⊎ Step c operand K o q
      go (inl s) = inl s
      go (inr s) =
          let a = some_out c.letters goes s in
          let both = and_T (operand a.0) (some_below c.states (leads a.0)) a.2 in
          let r = some_out c.states (leads a.0) both.1 in
          let ends = and_T (c.may q a.0 r.0) (bit K (o + r.0)) r.2 in
          inr (record { letter = a.0; to = r.0; letter_fits = a.1; to_fits = r.1; may = ends.0; holds = both.0; marked = ends.1 })

-- a bit of a mask is the claim at the vertex after
pub edge_back : (f : Property) (J lab K : ℕ) → MaskEdge f J lab K → (k : ℕ) → k < length f.nodes → (q : ℕ) → q < node_width f.connectives (node_at f k) →
    bit J (start_of f k + q) ≡ claim f lab K k q
edge_back f J lab K edge k lt q w =
    let top : start_of f (suc k) ≤ start_of f (length f.nodes) = start_mono f (suc k) (length f.nodes) lt in
    edge (start_of f k + q) (omega arith) ∙ spread_at f (claim f lab K) (length f.nodes) k q lt w

module _ (f : Property) (k c : ℕ) (is : List ℕ) (lt : k < length f.nodes) (e : node_at f k ≡ apply c is) where
  -- the claim of a state of a connective node
  abbrev pub claims : ℕ → ℕ → ℕ → Bool
  claims lab K q = claim_of (connective_at f.connectives c) (λ a. sat f lab K (get_or is a 0)) K (start_of f k) q

  pub claim_is : (lab K q : ℕ) → claim f lab K k q ≡ claims lab K q
  claim_is lab K q = ap (λ x. claim_node f lab K (start_of f k) x q) e

  pub apply_back : (J lab K : ℕ) → MaskEdge f J lab K → (q : ℕ) → q < (connective_at f.connectives c).states → bit J (start_of f k + q) ≡ claims lab K q
  apply_back J lab K edge q w = edge_back f J lab K edge k lt q (subst (λ x. q < node_width f.connectives x) (sym e) w) ∙ claim_is lab K q

  -- over an edge, a claimed state is final or goes on
  pub persist_edge : (here J there K : ℕ) → MaskEdge f J there K → (q : ℕ) → T (claim f here J k q) →
      T (bit (connective_at f.connectives c).finals q) ⊎ Crosses f here J there K k c is q
  persist_edge here J there K edge q t =
      go (claim_out (connective_at f.connectives c) (λ a. sat f here J (get_or is a 0)) J (start_of f k) q (subst T (claim_is here J q) t))
    where
      go : T (bit (connective_at f.connectives c).finals q) ⊎ Step (connective_at f.connectives c) (λ a. sat f here J (get_or is a 0)) J (start_of f k) q →
          T (bit (connective_at f.connectives c).finals q) ⊎ Crosses f here J there K k c is q
      go (inl s) = inl s
      go (inr s) = inr (record {
        letter = s.letter;
        to = s.to;
        letter_fits = s.letter_fits;
        to_fits = s.to_fits;
        may = s.may;
        operand = s.holds;
        claimed = subst T (apply_back J there K edge s.to s.to_fits ∙ sym (claim_is there K s.to)) s.marked;
      })

  -- a run that comes to a final state by operands that are true makes its first state claimed
  pub claim_run : (l : Line) (D : ℕ → Bool) (mask : ℕ → ℕ) → ProductPath f l D mask → Closed l D →
      (word : List ℕ) (q i : ℕ) (run : ℕ → ℕ) → T (D i) → Accepts (connective_at f.connectives c) q word run →
      ((j : ℕ) → j < length word → T (sat_at f l mask (get_or is (get_or word j 0) 0) (later l j i))) → T (claims (l.label i) (mask i) q)
  claim_run l D mask path stays [] q i run d a o =
      claim_final (connective_at f.connectives c) (λ a. sat_at f l mask (get_or is a 0) i) (mask i) (start_of f k) q
      (subst (λ p. T (bit (connective_at f.connectives c).finals p)) a.starts a.ends)
  claim_run l D mask path stays (x ∷ w) q i run d a o =
      let to_fits : run 1 < (connective_at f.connectives c).states = a.states 1 (suc-le-suc zero-le) in
      let later-claim : T (claims (l.label (l.after i)) (mask (l.after i)) (run 1)) =
      claim_run l D mask path stays w (run 1) (l.after i) (λ j. run (suc j)) (stays i d) (rest_accepts (connective_at f.connectives c) q x w run a)
      (λ j h. o (suc j) (suc-le-suc h)) in
      claim_step (connective_at f.connectives c) (λ a. sat_at f l mask (get_or is a 0) i) (mask i) (start_of f k) q (record {
        letter = x;
        to = run 1;
        letter_fits = a.letters 0 (suc-le-suc zero-le);
        to_fits = to_fits;
        may = subst (λ p. T ((connective_at f.connectives c).may p x (run 1))) a.starts (a.moves 0 (suc-le-suc zero-le));
        holds = o 0 (suc-le-suc zero-le);
        marked = subst T (sym (apply_back (mask i) (l.label (l.after i)) (mask (l.after i)) (path i d) (run 1) to_fits)) later-claim;
      })

-- the same along a line
pub persist : (f : Property) (l : Line) (D : ℕ → Bool) (mask : ℕ → ℕ) → ProductPath f l D mask →
    (k c : ℕ) (is : List ℕ) → k < length f.nodes → node_at f k ≡ apply c is →
    (q i : ℕ) → T (D i) → T (claim_at f l mask k q i) → T (bit (connective_at f.connectives c).finals q) ⊎ Goes_on f l mask k c is q i
persist f l D mask path k c is lt e q i d t =
    persist_edge f k c is lt e (l.label i) (mask i) (l.label (l.after i)) (mask (l.after i)) (path i d) q t
