use Rattle.std.proofs.Common.{[], ◌∷◌, ◌++◌, map, refl}
use Rattle.std.specs.List.{flat_map}
use Rattle.language.specs.Canonical.{connective_lines, node_line, property_lines}
use Rattle.properties.specs.Meaning.{of_rows}
use Rattle.properties.proofs.Texts.{writes_lines}
use Rattle.properties.proofs.writing.put_property.Goals as goal

pub returns : goal.returns
returns c =
    let p = of_rows c.args.rows.now in
    let nodes = map node_line p.nodes in
    let end = writes_lines nodes ((0x2f ∷ []) ∷ []) (nodes ++ (0x2f ∷ []) ∷ []) refl c.put_nodes.ensures.lines c.put_line.ensures.line in
    writes_lines (flat_map connective_lines p.connectives) (nodes ++ (0x2f ∷ []) ∷ []) (property_lines p) refl c.put_connectives.ensures.lines end
