use Rattle.std.proofs.Common.{arith}
use Rattle.models.proofs.Lowest.{lowest_of}
use Rattle.models.proofs.tables.TableGraph.next.Goals as goal

pub returns-then-s-n-clause-lowest : goal.returns-then-s-n-clause-lowest
returns-then-s-n-clause-lowest c =
    let sizes = c.args.self.now.sealed.now.sizes in
    lowest_of sizes.states c.args.s c.args.t _ (omega (arith, sizes.most)) c.if-s-n.true _ (rw c.pairs.ensures at c.lowest.ensures)
