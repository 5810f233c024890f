use Rattle.std.proofs.Common.{ℕ, ◌+◌, List, arith}
use Rattle.language.specs.Canonical.{each, transition_line}
use Rattle.properties.specs.Views.{connective_of}
use Rattle.properties.proofs.Texts.{each_more, writes_lines}
use Rattle.properties.proofs.writing.put_letters.Goals as goal

pub loop-a-preserved : goal.loop-a-preserved
loop-a-preserved c =
    let row = c.args.row in
    let a = c.loop-a.a in
    let f : ℕ → List (List ℕ) = λ b. each row.states (λ r. transition_line (connective_of row) c.args.p b r) in
    record {
      wrote = writes_lines (each a f) (f a) (each (a + 1) f) (each_more a f) c.loop-a.invariant.wrote c.put_targets.ensures.lines;
      near = omega (arith, c.loop-a.invariant.near, c.put_targets.ensures.near);
    }
