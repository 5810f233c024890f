use Rattle.models.proofs.Numbering.{number_below, number_left, number_of, number_right}
use Rattle.models.proofs.laws.pairs_number.Goals as goal

pub returns : goal.returns
returns c = record { below = number_below; left = number_left; right = number_right; whole = number_of }
