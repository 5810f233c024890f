use Rattle.std.proofs.Common.{◌+◌, set, ap, ◌∙◌, arith}
use Rattle.std.proofs.lemmas.List.{length-set}
use Rattle.properties.specs.Views.{connective_of, nodes_of}
use Rattle.properties.proofs.Growing.{no_width, rows_push}
use Rattle.properties.proofs.arrays.Rows.add_connective.Goals as goal

pub invariant_of-self : goal.invariant_of-self
invariant_of-self c =
    let s = c.args.self.now in
    record {
      four = length-set s.connectives s.used c.args.row ∙ s.four;
      many = s.many;
      few_connectives = omega arith;
      few_nodes = s.few_nodes;
      wide = no_width s.connectives (set s.connectives s.used c.args.row) s.used (s.used + 1) s.nodes s.count s.width c.requires.room.1 s.wide;
      narrow = s.narrow;
    }

pub returns : goal.returns
returns c =
    let s = c.args.self.now in
    ap (λ cs. record { connectives = cs; nodes = nodes_of s.nodes s.count }) (rows_push connective_of s.connectives s.used c.args.row (omega (arith, s.four)))
