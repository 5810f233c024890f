-- The rows that are written one by one.
use Rattle.std.proofs.Common.{◌≡◌, ℕ, suc, ◌+◌, ◌<◌, min, ⊎_elim, List, [], ◌∷◌, ◌++◌, map, length, get_or, take, sym, refl, ap, ◌∙◌, arith}
use Rattle.std.specs.List.{flat_map}
use Rattle.std.proofs.lemmas.List.{get_or-take, length-take, flat_map_more, map_more, map_push, take_all}
use Rattle.std.proofs.lemmas.Bool.{cases_lt}
use Rattle.language.specs.Canonical.{connective_lines, node_line}
use Rattle.properties.specs.declared.rows.Connective.{Connective as ConnectiveRow}
use Rattle.properties.specs.declared.rows.Node.{Node as NodeRow}
use Rattle.properties.specs.declared.rows.Node.TheVariants.{True}
use Rattle.properties.specs.Views.{connective_of, connectives_of, node_of, nodes_of}

-- the lines of one connective more, of those in use
pub connectives_more : (rows : List ConnectiveRow) (used c : ℕ) (row : ConnectiveRow) → row ≡ get_or (take used rows) c row → c < length (take used rows) → flat_map connective_lines (connectives_of rows c) ++ connective_lines (connective_of row) ≡ flat_map connective_lines (connectives_of rows (c + 1))
connectives_more rows used c row is lt =
    let n = length-take used rows in
    ap (λ x. flat_map connective_lines (connectives_of rows c) ++ connective_lines (connective_of x)) (is ∙ get_or-take used rows c row (omega arith))
    ∙ flat_map_more connective_lines [] (connectives_of rows c) (connective_of (get_or rows c row))
    ∙ ap (flat_map connective_lines) (sym (map_more connective_of rows c row (omega arith)))

-- the line of one node more, of those in use
pub nodes_more : (rows : List NodeRow) (count k : ℕ) → k < length (take count rows) → map node_line (nodes_of rows k) ++ node_line (node_of (get_or (take count rows) k True)) ∷ [] ≡ map node_line (nodes_of rows (k + 1))
nodes_more rows count k lt =
    let n = length-take count rows in
    ap (λ x. map node_line (nodes_of rows k) ++ node_line (node_of x) ∷ []) (get_or-take count rows k True (omega arith))
    ∙ sym (ap (map node_line) (map_more node_of rows k True (omega arith)) ∙ map_push node_line (nodes_of rows k) (node_of (get_or rows k True)))

four : (os : List ℕ) → length os ≡ 4 → get_or os 0 0 ∷ get_or os 1 0 ∷ get_or os 2 0 ∷ get_or os 3 0 ∷ [] ≡ os
four [] h = absurd (omega arith)
four (x ∷ []) h = absurd (omega arith)
four (x ∷ y ∷ []) h = absurd (omega arith)
four (x ∷ y ∷ z ∷ []) h = absurd (omega arith)
four (x ∷ y ∷ z ∷ w ∷ []) h = refl
four (x ∷ y ∷ z ∷ w ∷ v ∷ os) h = absurd (omega arith)

as_many : (os : List ℕ) (size arity : ℕ) → length os ≡ 4 → size ≡ min arity 4 → take size os ≡ take arity os
as_many os size arity h e = ⊎_elim
    (λ lt. let f : size ≡ arity = omega arith in ap (λ n. take n os) f)
    (λ ge. let f : size ≡ 4 = omega arith in take_all size os (omega arith) ∙ sym (take_all arity os (omega arith)))
    (cases_lt arity 4)

-- the bytes of a connective node, from the front of all that it can have
pub applied : (b c size arity : ℕ) (os : List ℕ) → length os ≡ 4 → size ≡ min arity 4 → take (size + 2) (b ∷ c ∷ get_or os 0 0 ∷ get_or os 1 0 ∷ get_or os 2 0 ∷ get_or os 3 0 ∷ []) ≡ b ∷ c ∷ take arity os
applied b c size arity os h way =
    let s : size + 2 ≡ suc (suc size) = omega arith in
    ap (λ k. take k (b ∷ c ∷ get_or os 0 0 ∷ get_or os 1 0 ∷ get_or os 2 0 ∷ get_or os 3 0 ∷ [])) s
    ∙ ap (λ (t : List ℕ). b ∷ c ∷ take size t) (four os h)
    ∙ ap (λ (t : List ℕ). b ∷ c ∷ t) (as_many os size arity h way)
