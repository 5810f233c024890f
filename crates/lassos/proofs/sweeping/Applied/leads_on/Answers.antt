use Rattle.std.proofs.Common.{sym, ◌∙◌}
use Rattle.logic.proofs.Bools.{T_true, some_in}
use Rattle.lassos.specs.Sweeps.{letter_leads}
use Rattle.lassos.proofs.Words.{true_T}
use Rattle.lassos.proofs.sweeping.Applied.leads_on.Goals as goal

pub returns-then-letter_leads : goal.returns-then-letter_leads
returns-then-letter_leads c =
    sym (T_true _ (some_in c.args.self.now.row.letters (letter_leads c.args.self.now.row c.args.self.now.operands c.args.here c.args.there c.args.q) c.loop-a.a c.loop-a-test.true
    (true_T (sym c.letter_leads.ensures ∙ c.if-letter_leads.true))))
