use Rattle.std.proofs.Common.{arith}
use Rattle.gm_calendar.proofs.BinStarts.{bin_start-day}
use Rattle.gm_calendar.proofs.bin_place.day_place.Goals as goal

pub returns : goal.returns
returns c = record { above = rw bin_start-day (omega arith); below = omega arith }
