use Rattle.std.proofs.Common.{arith}
use Rattle.gm_calendar.proofs.BinStarts.{bin_start-week}
use Rattle.gm_calendar.proofs.extent.week_extent.Goals as goal

pub returns : goal.returns
returns c = record { first_is = rw bin_start-week (omega arith); days_is = omega arith }
