use Rattle.std.proofs.Common.{refl, arith}
use Rattle.std.proofs.lemmas.Bool.{not_from_false, not_from_true}
use Rattle.frames.specs.Frames.Frame.{end}
use Rattle.properties.specs.Meaning.{of_draft}
use Rattle.properties.specs.declared.drafts.Draft.TheVariants.{Open}
use Rattle.properties.proofs.Verdicts.{accepted, no_nodes, order_fault, some_nodes}
use Rattle.properties.proofs.arrays.Rows.end.Goals as goal

pub returns-then-self-eq0 : goal.returns-then-self-eq0
returns-then-self-eq0 c = order_fault c.args.line (of_draft (Open c.args.self.now)) end (not_from_true _ (no_nodes c.args.self.now c.if-self-eq0.true))

pub returns : goal.returns
returns c = accepted c.args.line (of_draft (Open c.args.self.now)) end _ (not_from_false _ (some_nodes c.args.self.now (omega arith))) refl refl refl
