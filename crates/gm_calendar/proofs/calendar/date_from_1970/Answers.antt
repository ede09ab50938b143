use Rattle.std.proofs.Common.{arith}
use Rattle.jiff_core.proofs.SignedLemmas.{signed_casts}
use Rattle.gm_calendar.proofs.BinStarts.{year_from_1970}
use Rattle.gm_calendar.proofs.calendar.date_from_1970.Goals as goal

pub returns-clause-year : goal.returns-clause-year
returns-clause-year c = year_from_1970 c.date_of_day.result (omega (arith, signed_casts))
