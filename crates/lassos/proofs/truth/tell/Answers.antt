use Rattle.std.proofs.Common.{length, get_or, sym, refl, arith}
use Rattle.properties.specs.declared.rows.Node.TheVariants.{True}
use Rattle.lassos.proofs.Nodes.{final_states, read_row, row_in, simple_from, tells_filled, tells_marked}
use Rattle.lassos.proofs.truth.tell.Goals as goal

pub bounds-property-connective : goal.bounds-property-connective
bounds-property-connective g c = row_in c.args.property.now c.args.k c.in-Apply.connective c.in-Apply.arity c.in-Apply.operands (omega arith) (sym c.in-Apply.is)

pub listed : goal.listed
listed g c = omega (arith, row_in c.args.property.now c.args.k c.in-Apply.connective c.in-Apply.arity c.in-Apply.operands (omega arith) (sym c.in-Apply.is), c.args.property.now.rows.four)

pub invariant_of-fulfil : goal.invariant_of-fulfil
invariant_of-fulfil g c =
    let same = read_row c.args.property.now c.args.k c.in-Apply.connective c.in-Apply.arity c.in-Apply.operands (omega arith) (sym c.in-Apply.is) c.index-property-connective.result in
    record { final_states = rw same (final_states c.args.property.now c.args.k c.in-Apply.connective c.in-Apply.arity c.in-Apply.operands (omega arith) (sym c.in-Apply.is)) }

pub returns-in-Apply : goal.returns-in-Apply
returns-in-Apply g c =
    let same = read_row c.args.property.now c.args.k c.in-Apply.connective c.in-Apply.arity c.in-Apply.operands (omega arith) (sym c.in-Apply.is) c.index-property-connective.result in
    rw same
    (tells_filled c.args.property.now c.args.k c.in-Apply.connective c.in-Apply.arity c.in-Apply.operands (omega arith) (sym c.in-Apply.is)
    (λ i. (g.M.Model.marking c.args.model.now).label (get_or c.args.rounds.now.list.now i 0)) (length c.args.rounds.now.list.now) c.args.rounds.now.stem c.args.bits.now (omega arith) (omega arith) c.requires.known
    c.fulfil.new.sets (rw same at c.fulfil.ensures))

pub returns-in_default : goal.returns-in_default
returns-in_default g c =
    tells_marked c.args.property.now (λ i. (g.M.Model.marking c.args.model.now).label (get_or c.args.rounds.now.list.now i 0)) (length c.args.rounds.now.list.now) c.args.rounds.now.stem c.args.k c.args.bits.now
    (get_or c.args.property.now.rows.nodes c.args.k True) (omega arith) refl (omega arith) c.requires.known (simple_from _ c.in_default.not-Apply) c.mark.new.sets c.mark.ensures
