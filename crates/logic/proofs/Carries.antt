-- A claim is carried along a path until it is fulfilled.
use Rattle.std.proofs.Common.{◌≡◌, ℕ, zero, suc, ◌<◌, Bool, T, ◌⊎◌, List, length, get_or, sym, subst, inl, inr, suc-le-suc, zero-le}
use Rattle.frames.specs.Frames.Node.{apply}
use Rattle.masks.specs.Masks.{bit}
use Rattle.language.specs.Properties.{Connective, Property, connective_at}
use Rattle.logic.specs.Truth.{Fulfilled, Line, later, node_at}
use Rattle.logic.specs.Paths.{Carried, Closed, Fulfils, FulfilsAt, Goes_on, ProductPath, claim_at, sat_at}
use Rattle.logic.proofs.Claims.{persist}
use Rattle.logic.proofs.Unfold.{fold_final, fold_step}

module _ (f : Property) (l : Line) (D : ℕ → Bool) (mask : ℕ → ℕ) (path : ProductPath f l D mask)
    (k c : ℕ) (is : List ℕ) (lt : k < length f.nodes) (e : node_at f k ≡ apply c is) where
  -- the connective of node k
  abbrev C : Connective
  C = connective_at f.connectives c

  -- the operand of the letter a is true at the vertex of time j
  abbrev S : ℕ → ℕ → Type 0
  S a j = T (sat_at f l mask (get_or is a 0) j)

  -- a first step, and fulfilment from there
  first_step : (q i : ℕ) → q < C.states → (s : Goes_on f l mask k c is q i) → Fulfilled C S l s.to (l.after i) → Fulfilled C S l q i
  first_step q i w s rest =
      fold_step C S l q i (record { letter = s.letter; to = s.to; letter_fits = s.letter_fits; from_fits = w; may = s.may; holds = s.operand; rest = rest })

  -- j steps on, a claim is fulfilled or has led to another
  pub carry : (j q i : ℕ) → ((n : ℕ) → n < j → T (D (later l n i))) → q < C.states → T (claim_at f l mask k q i) → Fulfilled C S l q i ⊎ Carried f l mask k c is j q i
  carry zero q i d w t = inr (record { to = q; to_fits = w; claimed = t; joins = λ x. x })
  carry (suc j) q i d w t = go (persist f l D mask path k c is lt e q i (d 0 (suc-le-suc zero-le)) t) (λ r w t. carry j r (l.after i) (λ n h. d (suc n) (suc-le-suc h)) w t)
    where
      join : (s : Goes_on f l mask k c is q i) → Fulfilled C S l s.to (l.after i) ⊎ Carried f l mask k c is j s.to (l.after i) →
          Fulfilled C S l q i ⊎ Carried f l mask k c is (suc j) q i
      join s (inl done) = inl (first_step q i w s done)
      join s (inr r) = inr (record { to = r.to; to_fits = r.to_fits; claimed = r.claimed; joins = λ x. first_step q i w s (r.joins x) })

      go : T (bit C.finals q) ⊎ Goes_on f l mask k c is q i →
          ((r : ℕ) → r < C.states → T (claim_at f l mask k r (l.after i)) → Fulfilled C S l r (l.after i) ⊎ Carried f l mask k c is j r (l.after i)) →
          Fulfilled C S l q i ⊎ Carried f l mask k c is (suc j) q i
      go (inl final) ih = inl (fold_final C S l q i w final)
      go (inr s) ih = join s (ih s.to s.to_fits s.claimed)

-- fulfilment at one time that each time comes to is enough
pub one_time : (f : Property) (l : Line) (D : ℕ → Bool) → Closed l D → (mask : ℕ → ℕ) → ProductPath f l D mask →
    (t : ℕ) → ((i : ℕ) → T (D i) → (j : ℕ) × (later l j i ≡ t)) → FulfilsAt f l mask t → Fulfils f l D mask
one_time f l D stays mask path t comes there i d k lt c is e q w claimed =
    go (carry f l D mask path k c is lt e (comes i d).0 q i (λ n _. laters n i d) w claimed)
  where
    laters : (n i : ℕ) → T (D i) → T (D (later l n i))
    laters zero i d = d
    laters (suc n) i d = laters n (l.after i) (stays i d)

    go : Fulfilled (connective_at f.connectives c) (λ a j. T (sat_at f l mask (get_or is a 0) j)) l q i ⊎ Carried f l mask k c is (comes i d).0 q i →
        Fulfilled (connective_at f.connectives c) (λ a j. T (sat_at f l mask (get_or is a 0) j)) l q i
    go (inl done) = done
    go (inr r) = r.joins (subst (FulfilsAt f l mask) (sym (comes i d).1) there k lt c is e r.to r.to_fits r.claimed)
