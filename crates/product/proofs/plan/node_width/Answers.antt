use Rattle.std.proofs.Common.{◌≡◌, ◌<◌, ◌≤◌, get_or, length, sym, refl, ap, arith}
use Rattle.std.proofs.lemmas.List.{get_or_default}
use Rattle.frames.specs.Frames.{Node}
use Rattle.language.specs.Properties.{node_width}
use Rattle.properties.specs.Meaning.{meaning}
use Rattle.properties.specs.Views.{no_row}
use Rattle.product.proofs.Unapplied.{unapplied_at}
use Rattle.product.proofs.Nodes.{connective_used, node_is, width_is}
use Rattle.product.proofs.plan.node_width.Goals as goal

pub listed : goal.listed
listed c =
    let p = c.args.property.now in
    let four = p.rows.four in
    let lt : c.in-Apply.connective < p.rows.used = connective_used p c.args.k c.requires _ _ _ c.in-Apply.is in
    let few : p.rows.used ≤ 4 = p.rows.few_connectives in
    omega arith

pub returns-in-Next : goal.returns-in-Next
returns-in-Next c =
    let p = c.args.property.now in
    record { is = sym (ap (node_width (meaning p).connectives) (node_is p c.args.k c.requires _ c.in-Next.is)); small = omega arith }

pub returns-in-Apply : goal.returns-in-Apply
returns-in-Apply c =
    let p = c.args.property.now in
    let row = c.index-property-connective.result in
    let lt : c.in-Apply.connective < p.rows.used = connective_used p c.args.k c.requires _ _ _ c.in-Apply.is in
    let within : c.in-Apply.connective < length p.rows.connectives = omega (arith, p.rows.four, p.rows.few_connectives) in
    let same : get_or p.rows.connectives c.in-Apply.connective row ≡ get_or p.rows.connectives c.in-Apply.connective no_row = get_or_default p.rows.connectives c.in-Apply.connective row no_row within in
    record { is = rw same (sym (width_is p c.args.k c.requires _ _ _ c.in-Apply.is)); small = (get_or p.rows.connectives c.in-Apply.connective row).few_states }

pub bounds-property-connective : goal.bounds-property-connective
bounds-property-connective c _ = omega (arith, listed c, c.args.property.now.rows.four)

pub returns-in_default : goal.returns-in_default
returns-in_default c =
    let p = c.args.property.now in
    record {
      is = unapplied_at p c.args.k c.requires (λ (x : Node). 0 ≡ node_width (meaning p).connectives x)
          refl (λ _. refl) (λ _. refl) (λ i e. absurd (c.in_default.not-Next i e)) (λ _ _. refl) (λ _ _. refl) c.in_default.not-Apply;
      small = omega arith;
    }
