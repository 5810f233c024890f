use Rattle.std.proofs.Common.{[], ◌∷◌, ◌++◌, sym, ap, ◌∙◌, arith}
use Rattle.std.proofs.lemmas.Bool.{lt-ltb}
use Rattle.language.specs.Properties.{Connective}
use Rattle.frames.specs.Frames.Frame.{connective}
use Rattle.properties.specs.Meaning.{of_draft, of_rows}
use Rattle.properties.specs.declared.drafts.Draft.TheVariants.{Open}
use Rattle.properties.proofs.Verdicts.{accepted, draft_with, idle_row, length_connectives, no_nodes}
use Rattle.properties.proofs.arrays.Rows.connective.Goals as goal

pub returns-clause-takes : goal.returns-clause-takes
returns-clause-takes c =
    let r = c.args.self.now in
    let n = length_connectives r in
    let grown = c.add_connective.ensures ∙ ap (λ (x : Connective). record { connectives = (of_rows r).connectives ++ x ∷ []; nodes = (of_rows r).nodes }) (idle_row c.args.m c.args.n c.args.q c.args.f) in
    accepted c.args.line (of_draft (Open r)) (connective c.args.m c.args.n c.args.q c.args.f) _
    (no_nodes r (omega arith))
    (sym c.if-not-in_range.ensures)
    (lt-ltb _ _ (omega (arith, c.if-self-ge4.false)))
    (draft_with c.add_connective.new.self _ grown)
