use Rattle.std.proofs.Common.{◌+◌, [], ◌∷◌, map, get_or, take, arith}
use Rattle.language.specs.Canonical.{node_line}
use Rattle.properties.specs.declared.rows.Node.TheVariants.{True}
use Rattle.properties.specs.Views.{node_of, nodes_of}
use Rattle.properties.proofs.Shown.{nodes_more}
use Rattle.properties.proofs.Texts.{writes_lines}
use Rattle.properties.proofs.writing.put_nodes.Goals as goal

pub loop-node-preserved : goal.loop-node-preserved
loop-node-preserved c =
    let s = c.args.rows.now in
    let k = c.loop-node.node-index in
    record {
      wrote = writes_lines (map node_line (nodes_of s.nodes k)) (node_line (node_of (get_or (take s.count s.nodes) k True)) ∷ []) (map node_line (nodes_of s.nodes (k + 1))) (nodes_more s.nodes s.count k c.loop-node-test.true) c.loop-node.invariant.wrote c.put_node.ensures.line;
      near = omega (arith, c.loop-node.invariant.near, c.put_node.ensures.near);
    }
