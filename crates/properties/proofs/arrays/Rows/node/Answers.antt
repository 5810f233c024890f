use Rattle.std.proofs.Common.{◌+◌, true, false, refl, sym, ap, ◌∙◌}
use Rattle.frames.specs.Frames.Frame.{node}
use Rattle.properties.specs.Meaning.{of_draft}
use Rattle.properties.specs.Views.{node_of}
use Rattle.properties.specs.declared.drafts.Draft.TheVariants.{Open}
use Rattle.properties.proofs.Verdicts.{accepted, draft_with, limit_fault, node_limits, node_range, value_fault}
use Rattle.properties.proofs.arrays.Rows.node.Goals as goal

pub returns-then-not-fits-clause-takes : goal.returns-then-not-fits-clause-takes
returns-then-not-fits-clause-takes c =
    let r = c.args.self.now in
    value_fault c.args.line (of_draft (Open r)) (node (node_of c.args.row)) refl (node_range r (node_of c.args.row) false c.if-not-fits.ensures)

pub returns-then-not-within_limits-clause-takes : goal.returns-then-not-within_limits-clause-takes
returns-then-not-within_limits-clause-takes c =
    let r = c.args.self.now in
    let w = node_limits r (node_of c.args.row) (r.width + c.width_of.result) (ap (λ v. r.width + v) c.width_of.ensures.is) in
    limit_fault c.args.line (of_draft (Open r)) (node (node_of c.args.row)) refl
    (node_range r (node_of c.args.row) true c.if-not-fits.ensures)
    (w ∙ sym c.if-not-within_limits.ensures)

pub returns-clause-takes : goal.returns-clause-takes
returns-clause-takes c =
    let r = c.args.self.now in
    let w = node_limits r (node_of c.args.row) (r.width + c.width_of.result) (ap (λ v. r.width + v) c.width_of.ensures.is) in
    accepted c.args.line (of_draft (Open r)) (node (node_of c.args.row)) _ refl
    (node_range r (node_of c.args.row) true c.if-not-fits.ensures)
    (w ∙ sym c.if-not-within_limits.ensures)
    (draft_with c.add_node.new.self _ c.add_node.ensures)
