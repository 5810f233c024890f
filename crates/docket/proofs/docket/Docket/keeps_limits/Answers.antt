use Rattle.docket.proofs.Limits.{within_limits}
use Rattle.docket.proofs.docket.Docket.keeps_limits.Goals as goal

pub returns : goal.returns
returns c = within_limits c.args.self.now
