-- The rounds, the visits and the way back, joined to a loop.
use Rattle.std.proofs.Common.{◌≡◌, ℕ, ◌+◌, ◌*◌, ◌<◌, ◌≤◌, Bool, T, List, take, drop, sym, ◌∙◌, subst, arith}
use Rattle.kripke.specs.Models.{Kripke}
use Rattle.language.specs.Properties.{Property, WellFormed}
use Rattle.logic.specs.OnLassos.{Counterexample}
use Rattle.logic.specs.Product.{mask_width}
use Rattle.tableau.specs.Built.{states_on, written_lasso}
use Rattle.tableau.specs.Numbers.{vertices}
use Rattle.tableau.proofs.Loops.{builds}
use Rattle.loops.specs.Lassos.{LoopBuilt}
use Rattle.loops.specs.Visiting.{Closed, Visited}
use Rattle.loops.specs.declared.progress.Standing.{Standing}
use Rattle.loops.proofs.Places.{later}

-- the words were `was`, after the rounds `first`, after the visits `second`, and after the way back `words`
pub joins : (m : Kripke) (f : Property) → WellFormed f → (G : ℕ → Bool) (x : ℕ) → x < vertices m f → T (G x) → (at r : ℕ) (stands : Standing) (was first second words : List ℕ) →
    at ≤ mask_width f * mask_width f * vertices m f → drop (at + 1) first ≡ drop (at + 1) was →
    Visited m f G x m.sets stands second → at ≤ stands.at → stands.at ≤ at + m.sets * vertices m f → drop stands.at second ≡ drop stands.at first →
    Closed m f G x stands second words r → LoopBuilt m f x was words r
joins m f formed G x low in-x at r stands was first second words few rounds visited further longer visits closed =
    record {
      counterexample = λ u u-low starts false_root stem leads.
          subst (λ l. Counterexample m f (written_lasso (states_on m f stem) l)) (sym closed.written)
          (builds.closes m f formed G x stands.vertex closed.next (take stands.at second) visited.open_loop low closed.next_vertex visited.inside in-x closed.edge closed.walk closed.back
          u u-low starts false_root stem leads);
      longer = longest (mask_width f * mask_width f * vertices m f) (m.sets * vertices m f) (vertices m f) at stands.at r few longer closed.longer;
      rest = closed.rest ∙ later stands.at r second first (weaker stands.at r closed.further) visits ∙ later (at + 1) r first was (past at stands.at r further closed.further) rounds;
    }
  where
    longest : (a b c at here r : ℕ) → at ≤ a → here ≤ at + b → r ≤ here + c → r ≤ a + b + c
    longest a b c at here r p q s = omega arith

    weaker : (a b : ℕ) → a < b → a ≤ b
    weaker a b p = omega arith

    past : (a b c : ℕ) → a ≤ b → b < c → a + 1 ≤ c
    past a b c p q = omega arith
