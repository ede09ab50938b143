use Rattle.gm_prepared.proofs.Numbered.{lists_edges}
use Rattle.gm_prepared.proofs.laws.lists_each_edge.Goals as goal

pub returns : goal.returns
returns c = lists_edges
