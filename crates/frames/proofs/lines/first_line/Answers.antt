use Rattle.std.proofs.Common.{sym, ◌∙◌}
use Rattle.std.proofs.lemmas.Bool.{cond-false, cond-true}
use Rattle.frames.proofs.Cuts.{line_closed, line_open}
use Rattle.frames.proofs.lines.first_line.Goals as goal

pub returns-in_default : goal.returns-in_default
returns-in_default c = sym (line_open c.args.number c.args.text.now (sym c.in_default.ensures))

pub returns-then-is_proper : goal.returns-then-is_proper
returns-then-is_proper c = sym (line_closed c.args.number c.args.text.now c.in-Some.end (sym c.in-Some.ensures) ∙ cond-true _ _ _ (sym c.if-is_proper.ensures))

pub returns-else-is_proper : goal.returns-else-is_proper
returns-else-is_proper c = sym (line_closed c.args.number c.args.text.now c.in-Some.end (sym c.in-Some.ensures) ∙ cond-false _ _ _ (sym c.if-is_proper.ensures))
