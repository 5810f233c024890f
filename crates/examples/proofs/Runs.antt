-- How a connective is fulfilled letter by letter, and what keeps it from being fulfilled.
use Rattle.std.proofs.Common.{ℕ, suc, ◌<◌, T, List, [], ◌∷◌, length, get_or, subst, suc-le-suc, zero-le}
use Rattle.masks.specs.Masks.{bit}
use Rattle.language.specs.Properties.{Connective}
use Rattle.logic.specs.Truth.{Line, Accepts, Fulfilled, later}
use Rattle.logic.proofs.Unfold.{fold_step, rest_accepts}

-- a letter whose operand is true now leads to a state from which the connective is fulfilled one step later
pub by_letter : (c : Connective) (operand : ℕ → ℕ → Type 0) (l : Line) (q i letter to : ℕ) → letter < c.letters → q < c.states →
    T (c.may q letter to) → operand letter i → Fulfilled c operand l to (l.after i) → Fulfilled c operand l q i
by_letter c operand l q i letter to letter_fits from_fits may holds rest =
    fold_step c operand l q i (record { letter = letter; to = to; letter_fits = letter_fits; from_fits = from_fits; may = may; holds = holds; rest = rest })

-- `Keeps q i` is kept by each letter whose operand is true, and is so of no final state: then no run from there comes to one
module _ (c : Connective) (operand : ℕ → ℕ → Type 0) (l : Line) (Keeps : ℕ → ℕ → Type 0)
    (not_final : (q i : ℕ) → Keeps q i → ¬ T (bit c.finals q))
    (kept : (q i x r : ℕ) → Keeps q i → T (c.may q x r) → operand x i → Keeps r (l.after i)) where
  along : (word : List ℕ) (run : ℕ → ℕ) (q i : ℕ) → Keeps q i → Accepts c q word run →
      ((j : ℕ) → j < length word → operand (get_or word j 0) (later l j i)) → ⊥
  along [] run q i k a o = not_final q i k (subst (λ s. T (bit c.finals s)) a.starts a.ends)
  along (x ∷ word) run q i k a o =
      let may : T (c.may q x (run 1)) = subst (λ s. T (c.may s x (run 1))) a.starts (a.moves 0 (suc-le-suc zero-le)) in
      along word (λ j. run (suc j)) (run 1) (l.after i) (kept q i x (run 1) k may (o 0 (suc-le-suc zero-le)))
      (rest_accepts c q x word run a) (λ j h. o (suc j) (suc-le-suc h))

  pub never_fulfilled : (q i : ℕ) → Keeps q i → ¬ Fulfilled c operand l q i
  never_fulfilled q i k f = along f.word f.run q i k f.accepts f.operands
