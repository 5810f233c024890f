-- One more edge, and the way back.
use Rattle.std.proofs.Common.{◌≡◌, ℕ, ◌+◌, ◌/◌, ◌^◌, ◌<◌, ◌≤◌, Bool, true, List, [], ◌∷◌, ◌++◌, length, take, set, ap, ◌∙◌, append_assoc}
use Rattle.std.proofs.lemmas.List.{drop-set-lt, take_more_set}
use Rattle.graphs.specs.Walks.{Walk}
use Rattle.kripke.specs.Models.{Kripke}
use Rattle.language.specs.Properties.{Property}
use Rattle.logic.specs.Product.{mask_width}
use Rattle.tableau.specs.Built.{states_on}
use Rattle.tableau.specs.Numbers.{inner_edge, vertices}
use Rattle.tableau.proofs.Obliging.{obligation_graph}
use Rattle.loops.specs.Visiting.{Closed}
use Rattle.loops.specs.declared.progress.Standing.{Standing}
use Rattle.loops.proofs.Inner.{inner_parts}
use Rattle.loops.proofs.Places.{Copied}

-- the state of the vertex where the loop stands is written, and after it a walk from a successor back to x
pub closes : (m : Kripke) (f : Property) (G : ℕ → Bool) (x : ℕ) (stands : Standing) (masks next r : ℕ) (walk was words : List ℕ) → masks ≡ 2 ^ mask_width f →
    stands.at < length was → next < vertices m f → inner_edge m f G stands.vertex next ≡ true → Walk (inner_edge m f G) next x walk →
    Copied m f walk (set was stands.at (stands.vertex / masks)) words (stands.at + 1) r → stands.at < r → r ≤ stands.at + vertices m f →
    Closed m f G x stands was words r
closes m f G x stands masks next r walk was words masks-is fits low edge back copied further longer =
    let v : ℕ = stands.vertex / masks in
    record {
      next = next;
      walk = walk;
      next_vertex = low;
      edge = (inner_parts m f G stands.vertex next edge).0;
      back = obligation_graph.lower m f G next x walk back;
      written =
          copied.written ∙ ap (λ l. l ++ states_on m f walk) (take_more_set was stands.at v fits) ∙ append_assoc (take stands.at was) (v ∷ []) (states_on m f walk)
          ∙ ap (λ n. take stands.at was ++ (stands.vertex / n ∷ states_on m f walk)) masks-is;
      further = further;
      longer = longer;
      rest = copied.rest ∙ drop-set-lt r was stands.at v further;
    }
