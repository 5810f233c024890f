use Rattle.std.proofs.Common.{false, refl}
use Rattle.frames.specs.Frames.Frame.{node}
use Rattle.frames.specs.Frames.Node.{apply}
use Rattle.frames.specs.Lines.{spelt}
use Rattle.properties.specs.Meaning.{of_draft}
use Rattle.properties.specs.declared.drafts.Draft.TheVariants.{Open}
use Rattle.properties.proofs.Verdicts.{crowded, node_range, value_fault}
use Rattle.properties.proofs.arrays.Rows.apply.Goals as goal

pub returns-in-None-clause-takes : goal.returns-in-None-clause-takes
returns-in-None-clause-takes c =
    let r = c.args.self.now in
    let n = apply c.args.c (spelt c.args.digits.now) in
    value_fault c.args.line (of_draft (Open r)) (node n) refl
    (node_range r n false (crowded r c.args.c r.count (spelt c.args.digits.now) c.in-None.ensures))
