use Rattle.std.proofs.Common.{◌≡◌, false}
use Rattle.logic.specs.Product.{some_below}
use Rattle.lassos.specs.Sweeps.{letter_leads}
use Rattle.lassos.proofs.sweeping.Applied.leads_on.Given as goal

abbrev pub invariant-loop-a : goal.invariant-loop-a
invariant-loop-a l = some_below l.a (letter_leads l.self.row l.self.operands l.here l.there l.q) ≡ false
