-- The unfolding of a connective: it is fulfilled from a state at i where the state is final, or some letter's operand holds at i
-- and the connective is fulfilled from a state that the letter leads to, one step later.
use Rattle.std.proofs.Common.{◌≡◌, ℕ, zero, suc, ◌<◌, ◌≤◌, Bool, true, false, T, eqb, ◌⊎◌, ◌↔◌, List, [], ◌∷◌, length, get_or, sym, refl, ap, ◌∙◌, subst, inl, inr, suc-le-suc, zero-le, le_of_suc-le-suc, not-suc-le-zero, arith}
use Rattle.std.proofs.lemmas.Bool.{eq-eqb, eqb-false, eqb-true}
use Rattle.frames.specs.Frames.{Node}
use Rattle.frames.specs.Frames.Node.{apply}
use Rattle.masks.specs.Masks.{bit}
use Rattle.language.specs.Properties.{Connective, Property, connective_at}
use Rattle.logic.specs.Truth.{Line, Accepts, Fulfilled, Says, HoldsBelow, Holds, later, node_at}
use Rattle.logic.specs.Laws.{Steps, FinalStartIsTrue}

-- the run that begins at p and goes on as `run` does
abbrev then_run : ℕ → (ℕ → ℕ) → ℕ → ℕ
then_run p run zero = p
then_run p run (suc j) = run j

-- an accepting run after its first letter
pub rest_accepts : (c : Connective) (from x : ℕ) (w : List ℕ) (run : ℕ → ℕ) → Accepts c from (x ∷ w) run → Accepts c (run 1) w (λ j. run (suc j))
rest_accepts c from x w run a = record {
  letters = λ j h. a.letters (suc j) (suc-le-suc h);
  states = λ j h. a.states (suc j) (suc-le-suc h);
  starts = refl;
  moves = λ j h. a.moves (suc j) (suc-le-suc h);
  ends = a.ends;
}

module _ (c : Connective) (operand : ℕ → ℕ → Type 0) (l : Line) where
  -- the connective is fulfilled only from its states
  pub from_fits : (from i : ℕ) → Fulfilled c operand l from i → from < c.states
  from_fits from i t = subst (λ q. q < c.states) t.accepts.starts (t.accepts.states 0 zero-le)

  pub fold_final : (from i : ℕ) → from < c.states → T (bit c.finals from) → Fulfilled c operand l from i
  fold_final from i w f = record {
    word = [];
    run = λ j. from;
    accepts = record {
      letters = λ j h. absurd (not-suc-le-zero h);
      states = λ j h. w;
      starts = refl;
      moves = λ j h. absurd (not-suc-le-zero h);
      ends = f;
    };
    operands = λ j h. absurd (not-suc-le-zero h);
  }

  pub fold_step : (from i : ℕ) → Steps c operand l from i → Fulfilled c operand l from i
  fold_step from i s = record {
    word = s.letter ∷ s.rest.word;
    run = then_run from s.rest.run;
    accepts = record { letters = letters; states = states; starts = refl; moves = moves; ends = s.rest.accepts.ends };
    operands = operands;
  }
    where
      letters : (j : ℕ) → j < suc (length s.rest.word) → get_or (s.letter ∷ s.rest.word) j 0 < c.letters
      letters zero h = s.letter_fits
      letters (suc j) h = s.rest.accepts.letters j (le_of_suc-le-suc h)

      states : (j : ℕ) → j ≤ suc (length s.rest.word) → then_run from s.rest.run j < c.states
      states zero h = s.from_fits
      states (suc j) h = s.rest.accepts.states j (le_of_suc-le-suc h)

      moves : (j : ℕ) → j < suc (length s.rest.word) → T (c.may (then_run from s.rest.run j) (get_or (s.letter ∷ s.rest.word) j 0) (s.rest.run j))
      moves zero h = subst (λ r. T (c.may from s.letter r)) (sym s.rest.accepts.starts) s.may
      moves (suc j) h = s.rest.accepts.moves j (le_of_suc-le-suc h)

      operands : (j : ℕ) → j < suc (length s.rest.word) → operand (get_or (s.letter ∷ s.rest.word) j 0) (later l j i)
      operands zero h = s.holds
      operands (suc j) h = s.rest.operands j (le_of_suc-le-suc h)

  unfold_at : (from i : ℕ) (word : List ℕ) (run : ℕ → ℕ) → from < c.states → Accepts c from word run →
      ((j : ℕ) → j < length word → operand (get_or word j 0) (later l j i)) → ((from < c.states) × T (bit c.finals from)) ⊎ Steps c operand l from i
  unfold_at from i [] run w a o = inl (w, subst (λ p. T (bit c.finals p)) a.starts a.ends)
  unfold_at from i (x ∷ word) run w a o = inr (record {
    letter = x;
    to = run 1;
    letter_fits = a.letters 0 (suc-le-suc zero-le);
    from_fits = w;
    may = subst (λ p. T (c.may p x (run 1))) a.starts (a.moves 0 (suc-le-suc zero-le));
    holds = o 0 (suc-le-suc zero-le);
    rest = record { word = word; run = λ j. run (suc j); accepts = rest_accepts c from x word run a; operands = λ j h. o (suc j) (suc-le-suc h) };
  })

  pub unfolds : (from i : ℕ) → Fulfilled c operand l from i ↔ (((from < c.states) × T (bit c.finals from)) ⊎ Steps c operand l from i)
  unfolds from i = (λ f. unfold_at from i f.word f.run (from_fits from i f) f.accepts f.operands, over)
    where
      over : ((from < c.states) × T (bit c.finals from)) ⊎ Steps c operand l from i → Fulfilled c operand l from i
      over (inl f) = fold_final from i f.0 f.1
      over (inr s) = fold_step from i s

-- a node's truth is worked out once: nodes after it do not change it
pub holds_stays : (f : Property) (l : Line) (n k i : ℕ) → k < n → ◌≡◌ {A = Type 0} (HoldsBelow f l n k i) (Holds f l k i)
holds_stays f l zero k i h = absurd (not-suc-le-zero h)
holds_stays f l (suc n) k i h = go (eqb k n) refl (holds_stays f l n k i)
  where
    go : (b : Bool) → eqb k n ≡ b → (k < n → ◌≡◌ {A = Type 0} (HoldsBelow f l n k i) (Holds f l k i)) → ◌≡◌ {A = Type 0} (HoldsBelow f l (suc n) k i) (Holds f l k i)
    go true e ih = let same : k ≡ n = eqb-true k n e in ap (λ m. HoldsBelow f l (suc m) k i) (sym same)
    go false e ih =
        let other : ¬ (k ≡ n) = eqb-false k n e in
        let lower : k < n = omega arith in
        ap (λ (b : Bool). elim b as (λ _. Type 0) [ true ↦ Says f l (HoldsBelow f l n) (node_at f n) i | false ↦ HoldsBelow f l n k i ]) e ∙ ih lower

-- a node's truth, from that of the nodes before it
pub holds_is : (f : Property) (l : Line) (k i : ℕ) → ◌≡◌ {A = Type 0} (Holds f l k i) (Says f l (HoldsBelow f l k) (node_at f k) i)
holds_is f l k i =
    ap (λ (b : Bool). elim b as (λ _. Type 0) [ true ↦ Says f l (HoldsBelow f l k) (node_at f k) i | false ↦ HoldsBelow f l k k i ]) (eq-eqb k k refl)

-- from a final start state the empty word will do
pub final_start : FinalStartIsTrue
final_start f l k c is e w t i =
    let C : Connective = connective_at f.connectives c in
    let says : Says f l (HoldsBelow f l k) (apply c is) i = fold_final C (λ a j. HoldsBelow f l k (get_or is a 0) j) l C.start i w t in
    subst (λ (X : Type 0). X) (sym (holds_is f l k i)) (subst (λ (x : Node). Says f l (HoldsBelow f l k) x i) (sym e) says)
