use Rattle.std.proofs.Common.{◌+◌, ◌<◌, length, sym, ap, ◌∙◌, arith}
use Rattle.language.specs.Properties.{node_width, width}
use Rattle.std.proofs.lemmas.List.{length-set}
use Rattle.properties.specs.Views.{connectives_of, node_of, nodes_of}
use Rattle.properties.proofs.Growing.{rows_push, width_push}
use Rattle.properties.proofs.arrays.Rows.add_node.Goals as goal

pub invariant_of-self : goal.invariant_of-self
invariant_of-self c =
    let s = c.args.self.now in
    let cs = connectives_of s.connectives s.used in
    let ns = nodes_of s.nodes s.count in
    let room : s.count < length s.nodes = omega (arith, s.many, c.requires.room) in
    let grown = ap (width cs) (rows_push node_of s.nodes s.count c.args.row room) ∙ width_push cs ns (node_of c.args.row) in
    record {
      four = s.four;
      many = length-set s.nodes s.count c.args.row ∙ s.many;
      few_connectives = s.few_connectives;
      few_nodes = omega (arith, c.requires.room);
      wide = c.requires.wide.0 ∙ ap (λ w. w + node_width cs (node_of c.args.row)) s.wide ∙ sym grown;
      narrow = c.requires.wide.1;
    }

pub returns : goal.returns
returns c =
    let s = c.args.self.now in
    let room : s.count < length s.nodes = omega (arith, s.many, c.requires.room) in
    ap (λ ns. record { connectives = connectives_of s.connectives s.used; nodes = ns }) (rows_push node_of s.nodes s.count c.args.row room)
