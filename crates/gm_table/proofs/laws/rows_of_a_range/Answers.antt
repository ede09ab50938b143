use Rattle.gm_table.proofs.Between.{between-rising, at_key-between, between-entries}
use Rattle.gm_table.proofs.laws.rows_of_a_range.Goals as goal

pub returns-clause-rising : goal.returns-clause-rising
returns-clause-rising c = between-rising

pub returns-clause-at : goal.returns-clause-at
returns-clause-at c = at_key-between

pub returns-clause-of_a_map : goal.returns-clause-of_a_map
returns-clause-of_a_map c = between-entries
