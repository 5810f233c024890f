use Rattle.std.proofs.Common.{ℕ, ◌-◌, set, sym, refl, ap, ◌∙◌, inl, inr}
use Rattle.language.specs.Properties.{connective_at}
use Rattle.language.specs.Reading.{moving}
use Rattle.frames.specs.Frames.Frame.{transition}
use Rattle.properties.specs.Meaning.{of_draft, of_rows}
use Rattle.properties.specs.declared.drafts.Draft.TheVariants.{Open}
use Rattle.properties.proofs.Verdicts.{accepted, draft_with, latest_at, length_connectives, move_early, move_in, move_late, move_order, move_out, order_fault, value_fault}
use Rattle.properties.proofs.arrays.Rows.transition.Goals as goal
use Rattle.properties.proofs.arrays.Rows.transition.Goals.{then-self-gt0-via-then-self-gt0, then-self-gt0-via-else-self-gt0+then-self-eq0, then-p-latest-via-then-p-latest, then-p-latest-via-else-p-latest+then-a-latest, then-p-latest-via-else-p-latest+else-a-latest+then-r-latest}

pub returns-then-self-gt0-clause-takes : goal.returns-then-self-gt0-clause-takes
returns-then-self-gt0-clause-takes c = order_fault c.args.line (of_draft (Open c.args.self.now)) (transition c.args.p c.args.a c.args.r)
    (elim c.then-self-gt0.branch [
      | then-self-gt0-via-then-self-gt0 w ↦ move_late c.args.self.now w.if-self-gt0.true
      | then-self-gt0-via-else-self-gt0+then-self-eq0 w ↦ move_early c.args.self.now w.if-self-eq0.true
    ])

pub returns-then-p-latest-clause-takes : goal.returns-then-p-latest-clause-takes
returns-then-p-latest-clause-takes c =
    let r = c.args.self.now in
    let same = latest_at r c.index-self-self.result c.if-self-eq0.false in
    value_fault c.args.line (of_draft (Open r)) (transition c.args.p c.args.a c.args.r)
    (move_order r c.if-self-gt0.false c.if-self-eq0.false)
    (move_out r c.if-self-eq0.false c.args.p c.args.a c.args.r
    (elim c.then-p-latest.branch [
      | then-p-latest-via-then-p-latest w ↦ inl (rw same at w.if-p-latest.true)
      | then-p-latest-via-else-p-latest+then-a-latest w ↦ inr (inl (rw same at w.if-a-latest.true))
      | then-p-latest-via-else-p-latest+else-a-latest+then-r-latest w ↦ inr (inr (rw same at w.if-r-latest.true))
    ]))

pub returns-clause-takes : goal.returns-clause-takes
returns-clause-takes c =
    let r = c.args.self.now in
    let same = latest_at r c.index-self-self.result c.if-self-eq0.false in
    let grown = c.add_move.ensures ∙ ap (λ (k : ℕ). record { connectives = set (of_rows r).connectives (k - 1) (moving c.args.p c.args.a c.args.r (connective_at (of_rows r).connectives (k - 1))); nodes = (of_rows r).nodes }) (sym (length_connectives r)) in
    accepted c.args.line (of_draft (Open r)) (transition c.args.p c.args.a c.args.r) _
    (move_order r c.if-self-gt0.false c.if-self-eq0.false)
    (move_in r c.if-self-eq0.false c.args.p c.args.a c.args.r (rw same at c.if-p-latest.false) (rw same at c.if-a-latest.false) (rw same at c.if-r-latest.false))
    refl
    (draft_with c.add_move.new.self _ grown)
