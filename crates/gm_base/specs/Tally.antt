-- What a tally shows.
use Rattle.std.specs.Prelude.{ℕ}
use Rattle.gm_base.specs.declared.tally.Tally.{Tally}

-- the number that a tally is at
abbrev pub tally_number : Tally → ℕ
tally_number tally = tally.number
