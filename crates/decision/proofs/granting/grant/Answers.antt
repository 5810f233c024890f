use Rattle.std.proofs.Common.{◌^◌, sym, ap, ◌∙◌, inl, inr, ⊎_elim}
use Rattle.kripke.specs.Models.{Kripke}
use Rattle.models.specs.Markings.{structure}
use Rattle.obligations.proofs.Owned.{width_is}
use Rattle.properties.specs.Meaning.{meaning}
use Rattle.decision.proofs.Sizes.{granted_size, model_refused, refusal_as, scratch_refused, trace_refused}
use Rattle.decision.proofs.granting.grant.Goals as goal

pub returns-then-size-eq0 : goal.returns-then-size-eq0
returns-then-size-eq0 g c =
    let plan = c.args.plan.now in
    let w = width_is plan in
    refusal_as (meaning plan.property) _ _ _ _ plan.property.rows.width _ _ _ c.states.ensures.is c.fair_sets-sets.ensures.is w
    (model_refused c.states.result c.fair_sets-sets.result plan.property.rows.width c.size.result c.args.scratch c.args.trace (c.size.ensures.is ∙ ap (λ k. 2 ^ k) (sym w))
    (⊎_elim inl (λ p. inr p.1) c.then-size-eq0.either))

pub returns-then-scratch-size : goal.returns-then-scratch-size
returns-then-scratch-size g c =
    let plan = c.args.plan.now in
    let w = width_is plan in
    refusal_as (meaning plan.property) _ _ _ _ plan.property.rows.width _ _ _ c.states.ensures.is c.fair_sets-sets.ensures.is w
    (scratch_refused c.states.result c.fair_sets-sets.result plan.property.rows.width c.size.result c.args.scratch c.args.trace (c.size.ensures.is ∙ ap (λ k. 2 ^ k) (sym w))
    c.if-size-eq0.false c.if-size-gt1048576.false c.if-scratch-size.true)

pub returns-then-trace-size : goal.returns-then-trace-size
returns-then-trace-size g c =
    let plan = c.args.plan.now in
    let w = width_is plan in
    refusal_as (meaning plan.property) _ _ _ _ plan.property.rows.width _ _ _ c.states.ensures.is c.fair_sets-sets.ensures.is w
    (trace_refused c.states.result c.fair_sets-sets.result plan.property.rows.width c.size.result c.args.scratch c.args.trace (c.size.ensures.is ∙ ap (λ k. 2 ^ k) (sym w))
    c.if-size-eq0.false c.if-size-gt1048576.false c.if-scratch-size.false c.if-trace-size.true)

pub returns : goal.returns
returns g c =
    let model = c.args.model.now in
    let m : Kripke = structure (g.M.Graph.states model) (g.M.Graph.edge model) (g.M.Model.marking model) in
    let plan = c.args.plan.now in
    granted_size m (meaning plan.property) c.states.result c.fair_sets-sets.result plan.property.rows.width c.size.result c.args.scratch c.args.trace
    c.states.ensures.is c.fair_sets-sets.ensures.is (width_is plan) c.size.ensures.is plan.property.rows.narrow c.fair_sets-sets.ensures.few
    c.if-size-eq0.false c.if-size-gt1048576.false c.if-scratch-size.false c.if-trace-size.false
