use Rattle.std.proofs.Common.{arith}
use Rattle.gm_calendar.proofs.BinStarts.{bin_start-day}
use Rattle.gm_calendar.proofs.extent.day_extent.Goals as goal

pub returns : goal.returns
returns c = record { first_is = rw bin_start-day (omega arith); days_is = omega arith }
