use Rattle.std.proofs.Common.{ℕ, List, ◌∷◌, [], ◌++◌, length, get_or, take, ap, ◌∙◌, arith, rules}
use Rattle.std.proofs.lemmas.List.{length-append, take_all}
use Rattle.frames.specs.Areas.{written}
use Rattle.frames.specs.Digits.{hexadecimal}
use Rattle.frames.proofs.Written.{written_both}
use Rattle.language.specs.Canonical.{spelled}
use Rattle.properties.proofs.Texts.{spelled_more}
use Rattle.properties.proofs.writing.put_line.Goals as goal

pub loop-b-preserved : goal.loop-b-preserved
loop-b-preserved c =
    let i = c.loop-b.invariant in
    let e = c.put_number-at.ensures in
    let more = spelled_more c.args.bytes.now c.loop-b.b-index c.loop-b-test.true in
    let sizes = length-append (spelled (take c.loop-b.b-index c.args.bytes.now)) (hexadecimal 2 (get_or c.args.bytes.now c.loop-b.b-index 0)) in
    let longer = ap length more in
    record {
      area = written_both _ _ _ _ i.area i.place e.area ∙ ap (written c.args.to.now.area.now c.args.to.now.at) more;
      place = omega (arith, i.place, e.next, sizes, longer);
      near = omega (arith, i.near, e.next);
    }

pub returns-clause-line : goal.returns-clause-line
returns-clause-line c =
    let i = c.loop-b.invariant in
    let e = c.put-to.ensures in
    let all = ap (λ (t : List ℕ). spelled t ++ 10 ∷ []) (take_all c.loop-b.b-index c.args.bytes.now c.loop-b-test.false) in
    let sizes = length-append (spelled (take c.loop-b.b-index c.args.bytes.now)) (10 ∷ []) in
    let whole = ap length all in
    record {
      same_area = search rules;
      area = search rules ∙ (written_both _ _ _ _ i.area i.place e.area ∙ ap (written c.args.to.now.area.now c.args.to.now.at) all);
      place = omega (arith, i.place, e.next, sizes, whole);
    }
