use Rattle.std.proofs.Common.{◌-◌, ◌<◌, length, set, ap, ◌∙◌, arith}
use Rattle.std.proofs.lemmas.List.{get_or_default, length-set}
use Rattle.language.specs.Reading.{moving}
use Rattle.properties.specs.Views.{connective_of, no_row, nodes_of}
use Rattle.properties.proofs.Growing.{no_width}
use Rattle.properties.proofs.Moves.{latest_with}
use Rattle.properties.proofs.arrays.Rows.add_move.Goals as goal

pub invariant_of-self : goal.invariant_of-self
invariant_of-self c =
    let s = c.args.self.now in
    let row = c.with_bit.result in
    record {
      four = length-set s.connectives (s.used - 1) row ∙ s.four;
      many = s.many;
      few_connectives = s.few_connectives;
      few_nodes = s.few_nodes;
      wide = no_width s.connectives (set s.connectives (s.used - 1) row) s.used s.used s.nodes s.count s.width c.requires.room.1 s.wide;
      narrow = s.narrow;
    }

pub returns : goal.returns
returns c =
    let s = c.args.self.now in
    let within : s.used - 1 < length s.connectives = omega (arith, s.four, s.few_connectives, c.requires.room.0) in
    let latest = get_or_default s.connectives (s.used - 1) _ no_row within in
    ap (λ cs. record { connectives = cs; nodes = nodes_of s.nodes s.count })
    (latest_with s.connectives s.used c.args.p c.args.a c.args.r c.with_bit.result c.requires.room.0 (omega (arith, s.four)) (c.with_bit.ensures.moves ∙ ap (λ row. moving c.args.p c.args.a c.args.r (connective_of row)) latest))
