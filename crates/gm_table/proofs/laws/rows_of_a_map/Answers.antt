use Rattle.gm_table.proofs.RowMaps.{entries-rising, at_key-entries, rows_of_map}
use Rattle.gm_table.proofs.laws.rows_of_a_map.Goals as goal

pub returns-clause-rising : goal.returns-clause-rising
returns-clause-rising c = entries-rising

pub returns-clause-at : goal.returns-clause-at
returns-clause-at c = at_key-entries

pub returns-clause-same : goal.returns-clause-same
returns-clause-same c = rows_of_map
