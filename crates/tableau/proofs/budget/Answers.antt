use Rattle.tableau.proofs.Budgeting.{budget}
use Rattle.tableau.proofs.budget.Goals as goal

pub returns : goal.returns
returns c = budget
