-- How much a store holds.
use Rattle.std.specs.Prelude.{◌≤◌, ◌^◌, ℕ, Bool, nat_lt, length}
use Rattle.gm_script.specs.Suits.{most_types}
use Rattle.gm_engine_rows.specs.State.{State}
use Rattle.gm_engine_rows.specs.Rows.{rows_of}

-- the bytes at which a script is too long
abbrev pub script_limit : ℕ
script_limit = 2 ^ 40

abbrev pub most_rows : ℕ
most_rows = 2000000

-- at most 100 types, and at most 2,000,000 rows
pub record IsWithinLimits (s : State) : Type 0 where
  pub types : length s ≤ most_types
  pub rows : length (rows_of s) ≤ most_rows

abbrev pub has_too_many_rows : State → Bool
has_too_many_rows s = nat_lt most_rows (length (rows_of s))
