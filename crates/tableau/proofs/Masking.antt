-- The rounds with the set of due obligations as a mask.
use mathlib.Core.Path.{◌≡◌, refl, sym, ap, subst, ◌∙◌}
use mathlib.Core.Bool.{Bool, true, false, cond, not, ◌&&◌}
use mathlib.Core.List.{List, [], ◌∷◌, ◌++◌}
use mathlib.Core.Logic.{◌⊎◌, inl, inr, ◌↔◌}
use Prim.Native.Nat.{ℕ, zero, suc, ◌+◌, ◌-◌, ◌*◌, ◌/◌, ◌%◌, ◌^◌, ◌<◌, ◌≤◌}
use native.Mathlib.Nat.{not-suc-le-zero, div-eq_of_lt, one-mul, zero-mul}
use native.Mathlib.Omega.{arith}
use lib.Dec.{T, eqb, eqb→eq, eqb_refl, ltb, ltb→lt, lt→ltb}
use lib.Pow.{pow_mono}
use Rattle.frames.specs.Frames.{Node}
use Rattle.frames.specs.Frames.Node.{proposition, truth, negation, next, both, either, apply}
use Rattle.kripke.specs.Models.{Kripke}
use Rattle.masks.specs.Masks.{bit}
use Rattle.language.specs.Properties.{Connective, Property, WellFormed, connective_at, node_width}
use Rattle.logic.specs.Truth.{node_at}
use Rattle.logic.specs.Product.{mask_of, some_below}
use Rattle.logic.proofs.Bools.{T_and, T_true, and_T, some_in, some_out}
use Rattle.logic.proofs.Fits.{NodeFits, fits_at, start_fits}
use Rattle.logic.proofs.Masks.{mask_fits, mask_bit, mask_same, mask_whole}
use Rattle.tableau.specs.Walks.{Vertex, ProductWalk, Discharges, Obligation, DischargedAt, claimed_at}
use Rattle.tableau.specs.Walks.ProductWalk.{stop, leave}
use Rattle.tableau.specs.Walks.Discharges.{discharged, goes}
use Rattle.tableau.specs.Rounds.{FulfilledAlong, Runs, PartialLoop, Rounded, count, carry, carried, carry_along, without, pending, pending_node}
use Rattle.tableau.specs.Masked.{pending_mask, carried_mask, carried_along, MaskRounded, Masked}
use Rattle.tableau.proofs.Tests.{T_dec}
use Rattle.tableau.proofs.Counts.{count_le, count_misses}
use Rattle.tableau.proofs.Walking.{apply_in}
use Rattle.tableau.proofs.Walking.{discharges_walk}
use Rattle.tableau.proofs.Rounding.{carried_obligation, pending_obligation, obligation_pending, begins, round, next_node, extends}

-- a number below 2 ^ n has no bit at n or above
pub bit_high : (n K r : ℕ) → K < 2 ^ n → T (bit K r) → r < n
bit_high n K r h t = go (ltb r n) refl
  where
    go : (b : Bool) → ltb r n ≡ b → r < n
    go true e = ltb→lt r n (subst T (sym e) tt)
    go false e =
        let above : ¬ (r < n) = λ lt. subst T e (lt→ltb r n lt) in
        let n-low : n ≤ r = omega arith in
        let small : 2 ^ n ≤ 2 ^ r = pow_mono n-low in
        let none : K / 2 ^ r ≡ 0 = div-eq_of_lt (let z : K < 2 ^ r = omega arith in z) in
        absurd (subst (λ x. T (eqb (x % 2) 1)) none t)

-- a mask and a test have the same members
abbrev Same : ℕ → (ℕ → Bool) → Type 0
Same M due = (r : ℕ) → T (bit M r) ↔ T (due r)

-- a mask has the members of the test that it is made of
pub mask_members : (n : ℕ) (due : ℕ → Bool) → ((r : ℕ) → T (due r) → r < n) → Same (mask_of n due) due
mask_members n due below r = (
  λ t. let lt : r < n = bit_high n (mask_of n due) r (mask_fits n due) t in subst T (mask_bit n due r lt) t,
  λ t. subst T (sym (mask_bit n due r (below r t))) t,
)

-- what is known of a set is known of another with the same members
pub progress_same : (m : Kripke) (f : Property) (S : Vertex → Bool) (v : Vertex) (k : ℕ) (due other : ℕ → Bool) (W : List Vertex) →
    ((r : ℕ) → T (due r) ↔ T (other r)) → PartialLoop m f S v k due W → PartialLoop m f S v k other W
progress_same m f S v k due other W same progress = record {
  walk = progress.walk;
  before = progress.before;
  obligations = λ c is e r t. progress.obligations c is e r ((same r).1 t);
  here = λ c is e q w. go c is q (progress.here c is e q w);
}
  where
    go : (c : ℕ) (is : List ℕ) (q : ℕ) → FulfilledAlong m f c is q W ⊎ ((r : ℕ) × T (due r) × Runs m f c is q W r) →
        FulfilledAlong m f c is q W ⊎ ((r : ℕ) × T (other r) × Runs m f c is q W r)
    go c is q (inl d) = inl d
    go c is q (inr r) = inr (r.0, (same r.0).0 r.1, r.2)

-- a bit that is set is taken away
pub mask_without : (n : ℕ) (p : ℕ → Bool) (q : ℕ) → q < n → T (p q) → mask_of n p ≡ mask_of n (without q p) + 2 ^ q
mask_without zero p q h t = absurd (not-suc-le-zero h)
mask_without (suc n) p q h t = go (eqb q n) refl (λ lt. mask_without n p q lt t)
  where
    other_if : (i : ℕ) → (¬ (i ≡ q)) → without q p i ≡ p i
    other_if i ne = keep (p i) (eqb i q) (λ s. ne (eqb→eq i q s))
      where
        keep : (a b : Bool) → (¬ T b) → a && not b ≡ a
        keep true true n = absurd (n tt)
        keep true false n = refl
        keep false b n = refl

    go : (b : Bool) → eqb q n ≡ b → (q < n → mask_of n p ≡ mask_of n (without q p) + 2 ^ q) →
        mask_of (suc n) p ≡ cond (without q p n) 1 0 * 2 ^ n + mask_of n (without q p) + 2 ^ q
    go true e ih =
        let same : q ≡ n = eqb→eq q n (subst T (sym e) tt) in
        let set : p n ≡ true = T_true (p n) (subst (λ i. T (p i)) same t) in
        let clear : without q p n ≡ false = gone (p n) (eqb n q) (subst (λ i. T (eqb n i)) (sym same) (eqb_refl n)) in
        let rest : mask_of n p ≡ mask_of n (without q p) = sym (mask_same n (without q p) p (λ i lt. other_if i (λ x. let z : i ≡ q = x in omega arith))) in
        let pow : 2 ^ q ≡ 2 ^ n = ap (λ i. 2 ^ i) same in
        ap (λ (b : Bool). cond b 1 0 * 2 ^ n + mask_of n p) set
        ∙ (let z : 1 * 2 ^ n + mask_of n p ≡ 0 * 2 ^ n + mask_of n (without q p) + 2 ^ q = omega (arith, one-mul (2 ^ n), zero-mul (2 ^ n)) in z)
        ∙ ap (λ (b : Bool). cond b 1 0 * 2 ^ n + mask_of n (without q p) + 2 ^ q) (sym clear)
      where
        gone : (a b : Bool) → T b → a && not b ≡ false
        gone true true t = refl
        gone true false t = absurd t
        gone false b t = refl
    go false e ih =
        let other : ¬ (q ≡ n) = λ same. subst T (ap (eqb q) same ∙ e) (eqb_refl q) in
        let rest : mask_of n p ≡ mask_of n (without q p) + 2 ^ q = ih (omega arith) in
        ap (λ (b : Bool). cond b 1 0 * 2 ^ n + mask_of n p) (sym (other_if n (λ same. other (sym same))))
        ∙ (let z : cond (without q p n) 1 0 * 2 ^ n + mask_of n p ≡ cond (without q p n) 1 0 * 2 ^ n + mask_of n (without q p) + 2 ^ q = omega arith in z)

module _ (m : Kripke) (f : Property) (k c : ℕ) (is : List ℕ) (e : node_at f k ≡ apply c is) where
  -- the connective of node k
  abbrev C : Connective
  C = connective_at f.connectives c

  -- more obligations are carried to more
  carried_map : (u : Vertex) (due other : ℕ → Bool) → ((r : ℕ) → T (due r) → T (other r)) → (r : ℕ) → T (carried m f k c is u due r) → T (carried m f k c is u other r)
  carried_map u due other map r t =
      let parts = and_T (not (bit C.finals r)) (some_below C.states (λ q. due q && eqb (carry m f k c is u q) r)) t in
      let q = some_out C.states (λ q. due q && eqb (carry m f k c is u q) r) parts.1 in
      let both = and_T (due q.0) (eqb (carry m f k c is u q.0) r) q.2 in
      T_and (not (bit C.finals r)) (some_below C.states (λ q. other q && eqb (carry m f k c is u q) r)) parts.0
      (some_in C.states (λ q. other q && eqb (carry m f k c is u q) r) q.0 q.1
      (T_and (other q.0) (eqb (carry m f k c is u q.0) r) (map q.0 both.0) both.1))

  -- along a walk the mask has the members of the set
  along_same : (S : Vertex → Bool) {v w : Vertex} {vs : List Vertex} → ProductWalk m f S v vs w → (M : ℕ) (due : ℕ → Bool) → ((r : ℕ) → T (due r) → Obligation m f v k c r) →
      Same M due → Same (carried_along m f k c is vs M) (carry_along m f k c is vs due)
  along_same S (stop s) M due wait same = same
  along_same S (leave {u = u} {v = v} s edge a) M due wait same =
      along_same S a (carried_mask m f k c is u M) (carried m f k c is u due) (carried_obligation m f k c is e u v edge due wait) one
    where
      marked : Same (carried_mask m f k c is u M) (carried m f k c is u (bit M))
      marked =
          mask_members C.states (carried m f k c is u (bit M))
          (λ r t. (carried_obligation m f k c is e u v edge due wait r (carried_map u (bit M) due (λ r t. (same r).0 t) r t)).fits)

      one : Same (carried_mask m f k c is u M) (carried m f k c is u due)
      one r = (
        λ t. carried_map u (bit M) due (λ r t. (same r).0 t) r ((marked r).0 t),
        λ t. (marked r).1 (carried_map u due (bit M) (λ r t. (same r).1 t) r t),
      )

  -- the image along a walk has no bits past the states
  along_fits : (vs : List Vertex) (M : ℕ) → M < 2 ^ C.states → carried_along m f k c is vs M < 2 ^ C.states
  along_fits [] M h = h
  along_fits (u ∷ vs) M h = along_fits vs (carried_mask m f k c is u M) (mask_fits C.states (carried m f k c is u (bit M)))

  -- a round
  pub mask_round : (S : Vertex → Bool) (v : Vertex) (M : ℕ) → M < 2 ^ C.states → (W : List Vertex) → PartialLoop m f S v k (bit M) W →
      (q : ℕ) → T (bit M q) → (way : List Vertex) → Discharges m f S k c is v q way v → MaskRounded m f S v k c is M W q way
  mask_round S v M h W progress q t way discharges = record {
    fits = along_fits way (M - 2 ^ q) (omega arith);
    progress = progress_same m f S v k (carry_along m f k c is way (without q (bit M))) (bit M') (W ++ way) (λ r. ((same r).1, (same r).0)) r.progress;
    fewer = less;
  }
    where
      M' : ℕ
      M' = carried_along m f k c is way (M - 2 ^ q)

      r : Rounded m f S v k c is (bit M) W q way
      r = round m f S v k c is e (bit M) W progress q t way discharges

      taken : mask_of C.states (without q (bit M)) ≡ M - 2 ^ q
      taken =
          let whole : mask_of C.states (bit M) ≡ M = mask_whole C.states M h in
          let part : mask_of C.states (bit M) ≡ mask_of C.states (without q (bit M)) + 2 ^ q =
          mask_without C.states (bit M) q (bit_high C.states M q h t) t in
          omega arith

      rest_obligation : (r : ℕ) → T (without q (bit M) r) → Obligation m f v k c r
      rest_obligation r s = progress.obligations c is e r (and_T (bit M r) (not (eqb r q)) s).0

      first : Same (M - 2 ^ q) (without q (bit M))
      first = subst (λ x. Same x (without q (bit M))) taken (mask_members C.states (without q (bit M)) (λ r s. (rest_obligation r s).fits))

      same : Same M' (carry_along m f k c is way (without q (bit M)))
      same = along_same S (discharges_walk m f S k c is discharges) (M - 2 ^ q) (without q (bit M)) rest_obligation first

      less : count C.states (bit M') < count C.states (bit M)
      less =
          let fewer : count C.states (carry_along m f k c is way (without q (bit M))) < count C.states (bit M) = r.fewer in
          let members : count C.states (bit M') ≤ count C.states (carry_along m f k c is way (without q (bit M))) =
          count_le C.states (bit M') (carry_along m f k c is way (without q (bit M))) (λ r t. (same r).0 t) in
          omega arith

-- the obligations of a node are among its bits
pending_below : (m : Kripke) (f : Property) (v : Vertex) (k q : ℕ) → T (pending m f v k q) → q < node_width f.connectives (node_at f k)
pending_below m f v k q t = go (node_at f k) t
  where
    go : (x : Node) → T (pending_node m f v k x q) → q < node_width f.connectives x
    go (proposition i) t = absurd t
    go (negation i) t = absurd t
    go (next i) t = absurd t
    go (both i j) t = absurd t
    go (either i j) t = absurd t
    go (apply c is) t = ltb→lt q (connective_at f.connectives c).states (and_T (ltb q (connective_at f.connectives c).states) (claimed_at m f v k q && not (bit (connective_at f.connectives c).finals q)) t).0
    go truth t = absurd t

-- the bits of the mask are the pending obligations
pub pending_same : (m : Kripke) (f : Property) (v : Vertex) (k r : ℕ) → T (pending m f v k r) ↔ T (bit (pending_mask m f v k) r)
pending_same m f v k r =
    let s = mask_members (node_width f.connectives (node_at f k)) (pending m f v k) (λ q t. pending_below m f v k q t) r in (s.1, s.0)

-- the mask 0 has no members
no_bit : (q : ℕ) → T (bit 0 q) → ⊥
no_bit q t = let z : q < 0 = bit_high 0 0 q (omega arith) t in omega arith

-- a walk that discharges an obligation comes to a final state
discharges_final : (m : Kripke) (f : Property) (S : Vertex → Bool) (k c : ℕ) (is : List ℕ) {v w : Vertex} {q : ℕ} {us : List Vertex} → Discharges m f S k c is v q us w →
    q < (connective_at f.connectives c).states → (r : ℕ) × (r < (connective_at f.connectives c).states) × T (bit (connective_at f.connectives c).finals r)
discharges_final m f S k c is (discharged {q = q} t a) fits = (q, fits, t)
discharges_final m f S k c is (goes s e x a) fits = discharges_final m f S k c is a x.to_fits

-- some state of a connective is no obligation: a final one if an obligation can be discharged, or else the start
pub mask_few : (m : Kripke) (f : Property) → WellFormed f → (S : Vertex → Bool) (v : Vertex) → DischargedAt m f S v → (k c : ℕ) (is : List ℕ) → node_at f k ≡ apply c is →
    count (connective_at f.connectives c).states (bit (pending_mask m f v k)) < (connective_at f.connectives c).states
mask_few m f wf S v discharges k c is e = go (T_dec (some_below C₀.states (bit (pending_mask m f v k))))
  where
    C₀ : Connective
    C₀ = connective_at f.connectives c

    obligations : (q : ℕ) → T (bit (pending_mask m f v k) q) → Obligation m f v k c q
    obligations q t = pending_obligation m f k c is e v q ((pending_same m f v k q).1 t)

    go : T (some_below C₀.states (bit (pending_mask m f v k))) ⊎ (¬ T (some_below C₀.states (bit (pending_mask m f v k)))) →
        count C₀.states (bit (pending_mask m f v k)) < C₀.states
    go (inl t) =
        let q = some_out C₀.states (bit (pending_mask m f v k)) t in
        let way = discharges k c is e q.0 (obligations q.0 q.2) in
        let r = discharges_final m f S k c is way.1 q.1 in
        count_misses C₀.states (bit (pending_mask m f v k)) r.0 r.1 (λ s. (obligations r.0 s).not_final r.2)
    go (inr n) =
        let first : C₀.start < C₀.states = start_fits f wf c (subst (NodeFits f k) e (fits_at f wf k (apply_in f k c is e))).0 in
        count_misses C₀.states (bit (pending_mask m f v k)) C₀.start first (λ s. n (some_in C₀.states (bit (pending_mask m f v k)) C₀.start first s))

pub masked : Masked
masked = record {
  obligations = λ m f v k c is e q. (
    λ t. pending_obligation m f k c is e v q ((pending_same m f v k q).1 t),
    λ w. (pending_same m f v k q).0 (obligation_pending m f k c is e v q w),
  );
  few = mask_few;
  fits = λ m f v k. mask_fits (node_width f.connectives (node_at f k)) (pending m f v k);
  begins = λ m f S v s. progress_same m f S v 0 (pending m f v 0) (bit (pending_mask m f v 0)) [] (pending_same m f v 0) (begins m f S v s);
  round = λ m f S v k c is e M h W progress q t way discharges. mask_round m f k c is e S v M h W progress q t way discharges;
  next = λ m f S v k W progress. progress_same m f S v (suc k) (pending m f v (suc k)) (bit (pending_mask m f v (suc k))) W (pending_same m f v (suc k)) (next_node m f S v k (bit 0) W progress no_bit);
  append = λ m f S v k W progress way walk. extends m f S v k (bit 0) W progress no_bit way walk;
}
