use Rattle.std.proofs.Common.{length}
use Rattle.cases_of_tables.proofs.table.+are_keys_distinct.Given as goal

abbrev pub decreases-are_keys_distinct : goal.decreases-are_keys_distinct
decreases-are_keys_distinct l = length l.keys.now
