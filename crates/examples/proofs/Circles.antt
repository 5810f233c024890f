-- Lassos without a stem, of one word and of two.
use Rattle.std.proofs.Common.{◌≡◌, ℕ, ◌<◌, T, [], ◌∷◌, refl, arith, lit≤}
use Rattle.kripke.specs.Models.{Kripke}
use Rattle.kripke.specs.Lassos.{Fair, Lasso, LassoOf, at, follower}
use Rattle.examples.specs.Small.{circle}
use Rattle.examples.proofs.Tests.{only_zero, zero_or_one}

-- a start state that may come after itself
pub circle_of_one : (m : Kripke) (a : ℕ) → a < m.states → T (m.start a) → T (m.edge a a) → LassoOf m (circle (a ∷ []))
circle_of_one m a fits start stays = record {
  loops = lit≤ tt;
  words = refl;
  states = only_zero (λ i. at (circle (a ∷ [])) i < m.states) fits;
  starts = start;
  steps = only_zero (λ i. T (m.edge (at (circle (a ∷ [])) i) (at (circle (a ∷ [])) (follower (circle (a ∷ [])) i)))) stays;
}

-- a start state and another, each of which may come after the other
pub circle_of_two : (m : Kripke) (a b : ℕ) → a < m.states → b < m.states → T (m.start a) → T (m.edge a b) → T (m.edge b a) →
    LassoOf m (circle (a ∷ b ∷ []))
circle_of_two m a b fits fits' start on back = record {
  loops = lit≤ tt;
  words = refl;
  states = zero_or_one (λ i. at (circle (a ∷ b ∷ [])) i < m.states) fits fits';
  starts = start;
  steps = zero_or_one (λ i. T (m.edge (at (circle (a ∷ b ∷ [])) i) (at (circle (a ∷ b ∷ [])) (follower (circle (a ∷ b ∷ [])) i)))) on back;
}

-- where there are no fair sets, every lasso is fair
pub fair_to_none : (m : Kripke) (p : Lasso) → m.sets ≡ 0 → Fair m p
fair_to_none m p none j h = absurd (omega arith)
