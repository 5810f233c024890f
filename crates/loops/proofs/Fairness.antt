-- A walk to a vertex of the next fair set.
use Rattle.std.proofs.Common.{◌≡◌, ℕ, ◌+◌, ◌<◌, Bool, true, false, List, ◌++◌, take, sym, subst, add-one}
use Rattle.std.proofs.lemmas.Bool.{both_ways}
use Rattle.graphs.specs.Walks.{Walk}
use Rattle.kripke.specs.Models.{Kripke}
use Rattle.language.specs.Properties.{Property}
use Rattle.logic.proofs.Bools.{T_true, true_T}
use Rattle.tableau.specs.Built.{OpenLoop, states_on}
use Rattle.tableau.specs.Numbers.{inner_edge, vertex_of, vertices}
use Rattle.tableau.specs.Verdicts.{Tested}
use Rattle.tableau.proofs.Loops.{builds}
use Rattle.tableau.proofs.Obliging.{obligation_graph}
use Rattle.loops.specs.Visiting.{Visited}
use Rattle.loops.specs.declared.progress.Standing.{Standing}
use Rattle.loops.proofs.Places.{Copied}

-- a set that passed the test meets each fair set
pub some_fair : (m : Kripke) (f : Property) (G : ℕ → Bool) (x j : ℕ) → Tested m f G x → j < m.sets →
    ((y : ℕ) → G y ≡ true → m.fair j (vertex_of f y).state ≡ false) → ⊥
some_fair m f G x j tested low none =
    let met = tested.fair j low in
    both_ways (m.fair j (vertex_of f met.0).state) (none met.0 (T_true _ met.1)) (T_true _ met.2)

-- the loop goes on by the walk
pub visits : (m : Kripke) (f : Property) (G : ℕ → Bool) (x j : ℕ) (stands : Standing) (z end : ℕ) (walk was words : List ℕ) → Visited m f G x j stands was →
    z < vertices m f → G z ≡ true → m.fair j (vertex_of f z).state ≡ true → Walk (inner_edge m f G) stands.vertex z walk →
    Copied m f walk was words stands.at end → Visited m f G x (j + 1) (record { at = end; vertex = z }) words
visits m f G x j stands z end walk was words visited low in-z fair leads copied =
    record {
      open_loop =
          subst (OpenLoop m f G x z (j + 1)) (sym copied.written)
          (subst (λ n. OpenLoop m f G x z n (take stands.at was ++ states_on m f walk)) (sym (add-one j))
          (builds.fair m f G x stands.vertex z j (take stands.at was) visited.open_loop visited.vertex low (true_T _ in-z) (true_T _ fair) walk (obligation_graph.lower m f G stands.vertex z walk leads)));
      vertex = low;
      inside = true_T _ in-z;
    }
