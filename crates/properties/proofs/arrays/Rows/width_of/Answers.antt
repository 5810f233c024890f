use Rattle.std.proofs.Common.{get_or, sym, ap, ◌∙◌, arith}
use Rattle.language.specs.Properties.{Connective, node_width}
use Rattle.properties.specs.Meaning.{of_rows}
use Rattle.properties.specs.Views.{node_of}
use Rattle.properties.proofs.Verdicts.{connective_out, connective_read}
use Rattle.properties.proofs.arrays.Rows.width_of.Goals as goal

pub returns-in-Apply : goal.returns-in-Apply
returns-in-Apply c =
    let s = c.args.self.now in
    let row = c.index-self-c.result in
    record {
      is = sym (ap (λ node. node_width (of_rows s).connectives (node_of node)) c.in-Apply.is ∙ ap (λ (x : Connective). x.states) (connective_read s c.in-Apply.c row c.if-c-self.true));
      small = (get_or s.connectives c.in-Apply.c row).few_states;
    }

pub returns-in_default : goal.returns-in_default
returns-in_default c =
    let s = c.args.self.now in
    record {
      is = sym (ap (λ node. node_width (of_rows s).connectives (node_of node)) c.in-Apply.is ∙ ap (λ (x : Connective). x.states) (connective_out s c.in-Apply.c c.if-c-self.false));
      small = omega arith;
    }
