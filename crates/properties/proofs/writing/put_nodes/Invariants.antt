use Rattle.std.proofs.Common.{◌+◌, ◌*◌, ◌≤◌, map}
use Rattle.frames.specs.Writers.{Writes}
use Rattle.language.specs.Canonical.{node_line, text_of}
use Rattle.properties.specs.Views.{nodes_of}
use Rattle.properties.proofs.writing.put_nodes.Given as goal

abbrev pub invariant-loop-node : goal.invariant-loop-node
invariant-loop-node l = record { wrote : Writes l.initial.to l.to (text_of (map node_line (nodes_of l.rows.nodes l.node-index))); near : l.to.at ≤ l.initial.to.at + 13 * l.node-index }
