-- What a row is for those who see a table as pairs.
use Rattle.std.specs.Prelude.{ℕ, List}
use Rattle.gm_table.specs.declared.row.Row.{Row}

abbrev pub key_of : Row → List ℕ
key_of row = row.key
