use Rattle.std.proofs.Common.{arith}
use Rattle.jiff_core.proofs.SignedLemmas.{signed_casts}
use Rattle.gm_calendar.proofs.Prints.{year_from_zero}
use Rattle.gm_calendar.proofs.calendar.date_from_0000.Goals as goal

pub returns-clause-year : goal.returns-clause-year
returns-clause-year c = year_from_zero c.date_of_day.result c.args.day (omega (arith, signed_casts))
