use Rattle.std.proofs.Common.{arith}
use Rattle.gm_calendar.proofs.BinStarts.{bin_start-week}
use Rattle.gm_calendar.proofs.bin_place.week_place.Goals as goal

pub returns : goal.returns
returns c = record { above = rw bin_start-week (omega arith); below = omega arith }
