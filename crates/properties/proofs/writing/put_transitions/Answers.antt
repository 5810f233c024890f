use Rattle.std.proofs.Common.{ℕ, ◌+◌, List, arith}
use Rattle.language.specs.Canonical.{each, transition_line}
use Rattle.properties.specs.Views.{connective_of}
use Rattle.properties.proofs.Texts.{each_more, writes_lines}
use Rattle.properties.proofs.writing.put_transitions.Goals as goal

pub loop-p-preserved : goal.loop-p-preserved
loop-p-preserved c =
    let row = c.args.row in
    let p = c.loop-p.p in
    let f : ℕ → List (List ℕ) = λ q. each row.letters (λ a. each row.states (λ r. transition_line (connective_of row) q a r)) in
    record {
      wrote = writes_lines (each p f) (f p) (each (p + 1) f) (each_more p f) c.loop-p.invariant.wrote c.put_letters.ensures.lines;
      near = omega (arith, c.loop-p.invariant.near, c.put_letters.ensures.near);
    }
