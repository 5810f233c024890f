use Rattle.models.proofs.Clamped.{edge_made, edge_parts, start_made, start_parts}
use Rattle.models.proofs.laws.clamps_admit.Goals as goal

pub returns : goal.returns
returns c = record {
  edges = λ mask value k s t. (edge_parts mask value k s t, edge_made mask value k s t);
  starts = λ mask value k s. (start_parts mask value k s, start_made mask value k s);
}
