use Rattle.std.proofs.Common.{◌+◌, arith}
use Rattle.std.specs.List.{flat_map}
use Rattle.language.specs.Canonical.{connective_lines}
use Rattle.properties.specs.Views.{connective_of, connectives_of}
use Rattle.properties.proofs.Shown.{connectives_more}
use Rattle.properties.proofs.Texts.{writes_lines}
use Rattle.properties.proofs.writing.put_connectives.Goals as goal

pub loop-row-preserved : goal.loop-row-preserved
loop-row-preserved c =
    let s = c.args.rows.now in
    let k = c.loop-row.row-index in
    let row = c.row-item.result in
    record {
      wrote = writes_lines (flat_map connective_lines (connectives_of s.connectives k)) (connective_lines (connective_of row)) (flat_map connective_lines (connectives_of s.connectives (k + 1))) (connectives_more s.connectives s.used k row c.row-item.is c.loop-row-test.true) c.loop-row.invariant.wrote c.put_connective.ensures.lines;
      near = omega (arith, c.loop-row.invariant.near, c.put_connective.ensures.near);
    }
