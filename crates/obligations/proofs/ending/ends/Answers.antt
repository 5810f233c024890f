use Rattle.std.proofs.Common.{◌≡◌, false, sym, refl, ap, ◌∙◌}
use Rattle.frames.specs.Frames.{Node}
use Rattle.masks.specs.Masks.{bit}
use Rattle.properties.specs.Meaning.{meaning}
use Rattle.product.proofs.Nodes.{node_is}
use Rattle.product.proofs.Vertex.{applied_state, connective_listed, connective_low, connective_read}
use Rattle.obligations.specs.Layers.{ends_node}
use Rattle.product.proofs.Unapplied.{unapplied_at}
use Rattle.obligations.proofs.Ends.{ends_row}
use Rattle.obligations.proofs.ending.ends.Goals as goal

pub listed : goal.listed
listed c = connective_listed c.args.plan.now c.args.k c.requires.node _ _ _ c.in-Apply.is

pub bounds-plan-connective : goal.bounds-plan-connective
bounds-plan-connective c = connective_low c.args.plan.now c.args.k c.requires.node _ _ _ c.in-Apply.is

pub finish-requires : goal.finish-requires
finish-requires c =
    let x = c.args.plan.now in
    let read = connective_read x c.args.k c.requires.node _ _ _ c.in-Apply.is c.index-plan-connective.result in
    rw read (applied_state x c.args.k c.requires.node _ _ _ c.in-Apply.is c.args.q c.requires.state)

pub returns-in-Apply : goal.returns-in-Apply
returns-in-Apply c =
    let x = c.args.plan.now in
    let p = x.property in
    simp (connective_read x c.args.k c.requires.node _ _ _ c.in-Apply.is c.index-plan-connective.result) at c.finish.ensures
    ∙ ends_row p c.args.k c.requires.node _ _ _ c.in-Apply.is c.args.truths c.args.q
    ∙ sym (ap (λ (x : Node). ends_node (meaning p) (bit c.args.truths) x c.args.q) (node_is p c.args.k c.requires.node _ c.in-Apply.is))

pub returns-in_default : goal.returns-in_default
returns-in_default c =
    let p = c.args.plan.now.property in
    unapplied_at p c.args.k c.requires.node
    (λ (x : Node). false ≡ ends_node (meaning p) (bit c.args.truths) x c.args.q)
    refl (λ _. refl) (λ _. refl) (λ _ _. refl) (λ _ _. refl) (λ _ _. refl) c.in_default.not-Apply
