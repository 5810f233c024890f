use Rattle.std.proofs.Common.{ℕ, ◌+◌, List, [], ◌∷◌, ◌++◌, sym, ap, ◌∙◌, arith}
use Rattle.frames.proofs.Written.{writes_none}
use Rattle.language.specs.Canonical.{each, transition_line}
use Rattle.properties.specs.Views.{connective_of}
use Rattle.properties.proofs.Texts.{each_more, transition_goes, transition_stays, writes_lines}
use Rattle.properties.proofs.writing.put_targets.Goals as goal
use Rattle.properties.proofs.writing.put_targets.Goals.{then-word-r-eq1, else-word-r-eq1}

pub loop-r-preserved : goal.loop-r-preserved
loop-r-preserved c =
    let row = c.args.row in
    let p = c.args.p in
    let a = c.args.a in
    let r = c.loop-r.r in
    let f : ℕ → List (List ℕ) = λ x. transition_line (connective_of row) p a x in
    let before = c.loop-r.invariant.wrote in
    let near = c.loop-r.invariant.near in
    let one : List (List ℕ) = (0x11 ∷ p ∷ a ∷ r ∷ []) ∷ [] in
    let range = c.requires.range in
    elim c.if-word-r-eq1.branch [
      | then-word-r-eq1 w ↦
          (let step = ap (λ (t : List (List ℕ)). each r f ++ t) (sym (transition_goes row p a r range.0 range.1 c.loop-r-test.true w.if-word-r-eq1.true)) ∙ each_more r f in
          rw w.to-is (record { wrote = writes_lines (each r f) one (each (r + 1) f) step before w.put_line.ensures.line; near = omega (arith, near, w.put_line.ensures.near) }))
      | else-word-r-eq1 w ↦
          (let step = ap (λ (t : List (List ℕ)). each r f ++ t) (sym (transition_stays row p a r range.0 range.1 c.loop-r-test.true w.if-word-r-eq1.false)) ∙ each_more r f in
          rw w.to-is (record { wrote = writes_lines (each r f) [] (each (r + 1) f) step before (writes_none c.loop-r.to); near = omega (arith, near) }))
    ]
