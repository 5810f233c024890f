-- A line on which the bits are decided has masks that say what is true one step later: its shadow in the product.
use Rattle.std.proofs.Common.{◌≡◌, ℕ, suc, ◌+◌, ◌<◌, ◌≤◌, Bool, true, false, ◌&&◌, T, ltb, ◌⊎◌, ◌↔◌, List, length, get_or, sym, refl, ap, ◌∙◌, subst, inl, inr, add-zero, arith, ltb→lt, lt→ltb}
use mathlib.Core.Logic.Iff
use Rattle.frames.specs.Frames.{Node}
use Rattle.frames.specs.Frames.Node.{proposition, negation, next, both, either, apply, truth}
use Rattle.masks.specs.Masks.{bit}
use Rattle.language.specs.Properties.{Connective, Property, WellFormed, connective_at, node_width}
use Rattle.logic.specs.Truth.{Fulfilled, Holds, Line, node_at}
use Rattle.logic.specs.Product.{claim_node, claim_of, mask_of, mask_width, spread, start_of}
use Rattle.logic.specs.Paths.{Asks, AsksNode, Closed, Decided, Fulfils, ProductPath, SatIsTruth, Shadow, claim_at, sat_at}
use Rattle.logic.specs.Laws.{Steps}
use Rattle.logic.proofs.Bools.{T_and, and_T, T_same, along_T}
use Rattle.logic.proofs.Masks.{mask_fits, mask_bit}
use Rattle.logic.proofs.Fits.{NodeFits, fits_at, operand_below, start_fits}
use Rattle.logic.proofs.Spread.{start_mono, spread_at, spread_same}
use Rattle.logic.proofs.Unfold.{from_fits, unfolds}
use Rattle.logic.proofs.Sat.{fulfil_map}
use Rattle.logic.proofs.Claims.{Step, claim_final, claim_step, claim_out}
use Rattle.logic.proofs.TruthLemma.{TrueBelow, Nexts, Applies, by_nodes}

-- the answer to a question that is decided
abbrev answer : (P : Type 0) → P ⊎ (¬ P) → Bool
answer P (inl p) = true
answer P (inr n) = false

answer_iff : (P : Type 0) (d : P ⊎ (¬ P)) → T (answer P d) ↔ P
answer_iff P (inl p) = (λ t. p, λ p. tt)
answer_iff P (inr n) = (λ t. absurd t, λ p. n p)

-- a question that is decided where a test passes; no where it fails
abbrev answer_if : (b : Bool) (P : Type 0) → (T b → P ⊎ (¬ P)) → Bool
answer_if true P d = answer P (d tt)
answer_if false P d = false

answer_if_iff : (b : Bool) (P : Type 0) (d : T b → P ⊎ (¬ P)) → T b → T (answer_if b P d) ↔ P
answer_if_iff true P d t = answer_iff P (d tt)
answer_if_iff false P d t = absurd t

module _ (f : Property) (wf : WellFormed f) (l : Line) (D : ℕ → Bool) (stays : Closed l D) (dec : Decided f l D) where
  -- how many nodes there are
  abbrev count : ℕ
  count = length f.nodes

  -- node k has a bit q, and i is a time that passes the test
  abbrev asked : ℕ → ℕ → ℕ → Bool
  asked k q i = ltb k count && (ltb q (node_width f.connectives (node_at f k)) && D i)

  decided : (k q i : ℕ) → T (asked k q i) → Asks f l k q i ⊎ (¬ Asks f l k q i)
  decided k q i t =
      let first = and_T (ltb k count) (ltb q (node_width f.connectives (node_at f k)) && D i) t in
      let second = and_T (ltb q (node_width f.connectives (node_at f k))) (D i) first.1 in
      dec k q i (ltb→lt k count first.0) (ltb→lt q (node_width f.connectives (node_at f k)) second.0) second.1

  -- whether bit q of node k is true at time i
  abbrev true_bit : ℕ → ℕ → ℕ → Bool
  true_bit i k q = answer_if (asked k q i) (Asks f l k q i) (decided k q i)

  true_bit_iff : (k q i : ℕ) → k < count → q < node_width f.connectives (node_at f k) → T (D i) → T (true_bit i k q) ↔ Asks f l k q i
  true_bit_iff k q i lt w d =
      answer_if_iff (asked k q i) (Asks f l k q i) (decided k q i)
      (T_and (ltb k count) (ltb q (node_width f.connectives (node_at f k)) && D i) (lt→ltb k count lt)
      (T_and (ltb q (node_width f.connectives (node_at f k))) (D i) (lt→ltb q (node_width f.connectives (node_at f k)) w) d))

  -- the bits that are true one step after i
  abbrev mask : ℕ → ℕ
  mask i = mask_of (mask_width f) (spread f (true_bit (l.after i)) count)

  bit_truth : (k q i : ℕ) → k < count → q < node_width f.connectives (node_at f k) → T (D i) → T (bit (mask i) (start_of f k + q)) ↔ Asks f l k q (l.after i)
  bit_truth k q i lt w d =
      let top : start_of f (suc k) ≤ start_of f count = start_mono f (suc k) count lt in
      Iff.trans
      (along_T (mask_bit (mask_width f) (spread f (true_bit (l.after i)) count) (start_of f k + q) (omega arith)
      ∙ spread_at f (true_bit (l.after i)) count k q lt w))
      (true_bit_iff k q (l.after i) lt w (stays i d))

  -- a state is claimed exactly where the connective is fulfilled from it
  claim_truth : (k : ℕ) → k < count → (c : ℕ) (is : List ℕ) → node_at f k ≡ apply c is → NodeFits f k (apply c is) → TrueBelow f l D mask k →
      (q i : ℕ) → q < (connective_at f.connectives c).states → T (D i) →
      T (claim_of (connective_at f.connectives c) (λ a. sat_at f l mask (get_or is a 0) i) (mask i) (start_of f k) q)
      ↔ Fulfilled (connective_at f.connectives c) (λ a j. Holds f l (get_or is a 0) j) l q i
  claim_truth k lt c is e fits ih q i w d =
      (λ t. (unfolds C H l q i).1 (forth (claim_out C S (mask i) o q t)), λ h. over ((unfolds C H l q i).0 h))
    where
      C : Connective
      C = connective_at f.connectives c

      H : ℕ → ℕ → Type 0
      H a j = Holds f l (get_or is a 0) j

      S : ℕ → Bool
      S a = sat_at f l mask (get_or is a 0) i

      o : ℕ
      o = start_of f k

      bit_is : (r : ℕ) → r < C.states → T (bit (mask i) (o + r)) ↔ Fulfilled C H l r (l.after i)
      bit_is r w =
          let iff : T (bit (mask i) (o + r)) ↔ AsksNode f l (node_at f k) r (l.after i) = bit_truth k r i lt (subst (λ x. r < node_width f.connectives x) (sym e) w) d in
          subst (λ x. T (bit (mask i) (o + r)) ↔ AsksNode f l x r (l.after i)) e iff

      operand_is : (a : ℕ) → a < C.letters → T (S a) ↔ H a i
      operand_is a w = ih (get_or is a 0) (operand_below f k c is fits a w) i d

      forth : T (bit C.finals q) ⊎ Step C S (mask i) o q → ((q < C.states) × T (bit C.finals q)) ⊎ Steps C H l q i
      forth (inl t) = inl (w, t)
      forth (inr s) = inr (record {
        letter = s.letter;
        to = s.to;
        letter_fits = s.letter_fits;
        from_fits = w;
        may = s.may;
        holds = (operand_is s.letter s.letter_fits).0 s.holds;
        rest = (bit_is s.to s.to_fits).0 s.marked;
      })

      over : ((q < C.states) × T (bit C.finals q)) ⊎ Steps C H l q i → T (claim_of C S (mask i) o q)
      over (inl t) = claim_final C S (mask i) o q t.1
      over (inr s) =
          let to_fits : s.to < C.states = from_fits C H l s.to (l.after i) s.rest in
          claim_step C S (mask i) o q (record {
            letter = s.letter;
            to = s.to;
            letter_fits = s.letter_fits;
            to_fits = to_fits;
            may = s.may;
            holds = (operand_is s.letter s.letter_fits).1 s.holds;
            marked = (bit_is s.to to_fits).1 s.rest;
          })

  nexts : Nexts f l D mask
  nexts k lt ih j e lower i d =
      let w : 0 < node_width f.connectives (node_at f k) = subst (λ x. 0 < node_width f.connectives x) (sym e) (omega arith) in
      let iff : T (bit (mask i) (start_of f k + 0)) ↔ AsksNode f l (node_at f k) 0 (l.after i) = bit_truth k 0 i lt w d in
      Iff.trans (along_T (ap (bit (mask i)) (sym (add-zero (start_of f k)))))
      (subst (λ x. T (bit (mask i) (start_of f k + 0)) ↔ AsksNode f l x 0 (l.after i)) e iff)

  applies : Applies f l D mask
  applies k lt ih c is e fits i d = claim_truth k lt c is e fits ih (connective_at f.connectives c).start i (start_fits f wf c fits.0) d

  sat_truth : SatIsTruth f l D mask
  sat_truth = by_nodes f wf l D mask nexts applies

  all_below : (k : ℕ) → k < count → TrueBelow f l D mask k
  all_below k lt j lower i d = sat_truth j (omega arith) i d

  -- a bit is claimed exactly where what it says is true
  node_claim : (k : ℕ) → k < count → (q i : ℕ) → T (D i) → (x : Node) → node_at f k ≡ x → NodeFits f k x → q < node_width f.connectives x →
      T (claim_node f (l.label i) (mask i) (start_of f k) x q) ↔ AsksNode f l x q i
  node_claim k lt q i d (proposition p) e fits w = (λ t. t, λ t. t)
  node_claim k lt q i d (negation j) e fits w = (λ t. t, λ t. t)
  node_claim k lt q i d (next j) e fits w = sat_truth j (omega arith) i d
  node_claim k lt q i d (both j m) e fits w = (λ t. t, λ t. t)
  node_claim k lt q i d (either j m) e fits w = (λ t. t, λ t. t)
  node_claim k lt q i d (apply c is) e fits w = claim_truth k lt c is e fits (all_below k lt) q i w d
  node_claim k lt q i d truth e fits w = (λ t. t, λ t. t)

  claim_asks : (k : ℕ) → k < count → (q i : ℕ) → T (D i) → q < node_width f.connectives (node_at f k) → T (claim_at f l mask k q i) ↔ Asks f l k q i
  claim_asks k lt q i d w = node_claim k lt q i d (node_at f k) refl (fits_at f wf k lt) w

  -- each mask is what the vertex after asks for
  path : ProductPath f l D mask
  path i d b w =
      mask_bit (mask_width f) (spread f (true_bit (l.after i)) count) b w
      ∙ spread_same f (true_bit (l.after i)) (λ k q. claim_at f l mask k q (l.after i)) count b
      (λ k q lt fit.
      let t = true_bit_iff k q (l.after i) lt fit (stays i d) in
      let s = claim_asks k lt q (l.after i) (stays i d) fit in
      T_same (true_bit (l.after i) k q) (claim_at f l mask k q (l.after i)) (λ x. s.1 (t.0 x)) (λ x. t.1 (s.0 x)))
      w

  -- each claim is fulfilled
  fulfils : Fulfils f l D mask
  fulfils i d k lt c is e q w t =
      let fits : NodeFits f k (apply c is) = subst (NodeFits f k) e (fits_at f wf k lt) in
      let fit : q < node_width f.connectives (node_at f k) = subst (λ x. q < node_width f.connectives x) (sym e) w in
      let asks : Fulfilled (connective_at f.connectives c) (λ a j. Holds f l (get_or is a 0) j) l q i =
      subst (λ x. AsksNode f l x q i) e ((claim_asks k lt q i d fit).0 t) in
      fulfil_map (connective_at f.connectives c) (λ a j. Holds f l (get_or is a 0) j) (λ a j. T (sat_at f l mask (get_or is a 0) j)) l (λ j. T (D j)) stays
      (λ a j below d h. (all_below k lt (get_or is a 0) (operand_below f k c is fits a below) j d).1 h) q i d asks

  -- the masks are a shadow
  pub shadow : (mask : ℕ → ℕ) × Shadow f l D mask
  shadow = (
    mask,
    record {
      fits = λ i. mask_fits (mask_width f) (spread f (true_bit (l.after i)) count);
      path = path;
      fulfils = fulfils;
      sat_is_truth = sat_truth;
    },
  )
