-- The table of the periods.
use Rattle.std.specs.Prelude.{ℕ}
use Rattle.gm_calendar.specs.declared.period.Period.{Period}
use Rattle.gm_calendar.specs.declared.period.Period.TheVariants.{Day, Week, Month, Year}

-- the greatest number of a bin
abbrev pub last_of : Period → ℕ
last_of Day = 32_767
last_of Week = 32_767
last_of Month = 32_767
last_of Year = 8_029

-- the milliseconds in a unit of its offsets: a millisecond, a second, a second, a minute
abbrev pub unit_of : Period → ℕ
unit_of Day = 1
unit_of Week = 1_000
unit_of Month = 1_000
unit_of Year = 60_000

-- the length of its longest bin, in that unit
abbrev pub longest_of : Period → ℕ
longest_of Day = 86_400_000
longest_of Week = 604_800
longest_of Month = 2_678_400
longest_of Year = 527_040
