-- The obligations of a node at a vertex, and where they are carried, by the vertex's label and mask.
use Rattle.std.specs.Prelude.{◌≡◌, ℕ, ◌%◌, List, map}
use Rattle.frames.specs.Frames.Node.{apply}
use Rattle.kripke.specs.Models.{Kripke}
use Rattle.language.specs.Properties.{Property}
use Rattle.logic.specs.Truth.{node_at}
use Rattle.tableau.specs.Masked.{carried_mask, pending_mask}
use Rattle.tableau.specs.Numbers.{vertex_of, vertices}
use Rattle.tableau.specs.Walks.{Vertex}

-- r has the obligations of node k at each vertex with the label `lab` and the mask K
abbrev pub PendingOf : Property → (lab K k r : ℕ) → Type 0
PendingOf f lab K k r = (m : Kripke) (u : Vertex) → m.label u.state ≡ lab → u.mask ≡ K → r ≡ pending_mask m f u k

-- r has the obligations to which those of D are carried on leaving each vertex with the label `lab` and the mask K, if node k is a connective node
abbrev pub CarriedOf : Property → (lab K k D r : ℕ) → Type 0
CarriedOf f lab K k D r =
    (m : Kripke) (u : Vertex) → m.label u.state ≡ lab → u.mask ≡ K → (c : ℕ) (is : List ℕ) → node_at f k ≡ apply c is → r ≡ carried_mask m f k c is u D

-- the vertices of the product at the numbers of the obligation graph
abbrev pub vertices_from : Kripke → Property → List ℕ → List Vertex
vertices_from m f l = map (λ n. vertex_of f (n % vertices m f)) l
