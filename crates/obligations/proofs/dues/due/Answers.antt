use Rattle.std.proofs.Common.{◌≡◌, false, refl, ◌∙◌, arith}
use Rattle.frames.specs.Frames.{Node}
use Rattle.properties.specs.Meaning.{meaning}
use Rattle.product.proofs.Nodes.{narrow_at, node_is}
use Rattle.tableau.specs.Rounds.{pending_node}
use Rattle.product.proofs.Unapplied.{unapplied_at}
use Rattle.obligations.proofs.Pending.{due_apply}
use Rattle.obligations.proofs.dues.due.Goals as goal

pub open-requires : goal.open-requires
open-requires c = let n = narrow_at c.args.plan.now.property c.args.k c.requires.node in let lt = c.requires.state in omega arith

pub returns-in-Apply : goal.returns-in-Apply
returns-in-Apply c m u el em =
    let p = c.args.plan.now.property in
    c.open.ensures
    ∙ due_apply m (meaning p) u c.args.k c.args.q c.args.label c.args.mask _ _ c.claims-claimed.result c.finals-finals.result
    (node_is p c.args.k c.requires.node _ c.in-Apply.is) c.requires.state c.claims-claimed.ensures c.finals-finals.ensures el em

pub returns-in_default : goal.returns-in_default
returns-in_default c m u el em =
    let p = c.args.plan.now.property in
    unapplied_at p c.args.k c.requires.node
    (λ (x : Node). false ≡ pending_node m (meaning p) u c.args.k x c.args.q)
    refl (λ _. refl) (λ _. refl) (λ _ _. refl) (λ _ _. refl) (λ _ _. refl) c.in_default.not-Apply
