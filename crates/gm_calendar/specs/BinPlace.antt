-- The place of a millisecond since 1970 among the bins of a period.
use Rattle.std.specs.Prelude.{◌≡◌, ℕ, ◌+◌, ◌*◌, ◌<◌}
use Rattle.gm_calendar.specs.declared.period.Period.{Period}
use Rattle.gm_calendar.specs.declared.bin_place.BinPlace.{BinPlace}
use Rattle.gm_calendar.specs.Bin.{bin_start, days_of_bin}
use Rattle.gm_calendar.specs.Instant.{day_ms}

-- it lies that far above the start of the bin, and below the start of the next
pub record IsBinPlace (period : Period) (ms : ℕ) (place : BinPlace) : Type 0 where
  pub above : bin_start period place.number * day_ms + place.rest ≡ ms
  pub below : place.rest < days_of_bin period place.number * day_ms
