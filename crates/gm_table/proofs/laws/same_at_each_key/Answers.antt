use Rattle.gm_table.proofs.RowMaps.{same_rows}
use Rattle.gm_table.proofs.laws.same_at_each_key.Goals as goal

pub returns : goal.returns
returns c = same_rows
