-- The canonical text of a well-formed property reads back as that property.
use Rattle.std.proofs.Common.{◌≡◌, ◌<◌, ◌≤◌, true, not, List, [], ◌∷◌, ◌++◌, map, length, refl, arith}
use Rattle.std.specs.List.{flat_map}
use Rattle.std.proofs.lemmas.List.{length-append, length-map}
use Rattle.frames.specs.Frames.Frame.{end}
use Rattle.language.specs.Properties.{Property, WellFormed}
use Rattle.language.specs.Reading.{is_empty}
use Rattle.language.specs.Canonical.{connective_lines, node_line, property_lines}
use Rattle.language.specs.Laws.{CanonicalReadsBack}
use Rattle.language.proofs.Goes.{Good, goes_append, goes_one, read_goes}
use Rattle.language.proofs.Heads.{connectives_go, length_connectives}
use Rattle.language.proofs.Nodes.{noded, nodes_go}

has_some : {A : Type 0} (xs : List A) → 0 < length xs → not (is_empty xs) ≡ true
has_some [] h = absurd (omega arith)
has_some (x ∷ xs) h = refl

lines_few : (p : Property) → WellFormed p → length (property_lines p) ≤ 5000
lines_few p w =
    let a = length_connectives p.connectives w.connectives_fit in
    let b = length-append (flat_map connective_lines p.connectives) (map node_line p.nodes ++ (0x2f ∷ []) ∷ []) in
    let c = length-append (map node_line p.nodes) ((0x2f ∷ []) ∷ []) in
    let d = length-map p.nodes node_line in
    let e = w.few_connectives in
    let f = w.few_nodes in
    omega arith

pub reads_back : CanonicalReadsBack
reads_back p w =
    let few = w.few_connectives in
    let short = w.few_nodes in
    let narrow = w.narrow in
    let heads = connectives_go [] p.connectives (omega arith) w.connectives_fit w.moves_fit in
    let nodes = nodes_go p.connectives [] p.nodes few w.connectives_fit (omega arith) w.operands_lower (omega arith) in
    let good : Good (0x2f ∷ []) = record { bytes = refl; some = omega arith; short = omega arith } in
    let last = goes_one (noded p.connectives p.nodes) end (0x2f ∷ []) good (λ n. refl) (has_some p.nodes w.rooted) refl refl in
    read_goes (property_lines p) (goes_append heads (goes_append nodes last)) refl (lines_few p w)
