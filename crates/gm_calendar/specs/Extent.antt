-- The days of a bin.
use Rattle.std.specs.Prelude.{◌≡◌, ℕ}
use Rattle.gm_calendar.specs.declared.period.Period.{Period}
use Rattle.gm_calendar.specs.declared.extent.Extent.{Extent}
use Rattle.gm_calendar.specs.Bin.{bin_start, days_of_bin}

-- the day on which the bin starts, and its days
pub record IsExtent (period : Period) (bin_number : ℕ) (extent : Extent) : Type 0 where
  pub first_is : extent.first ≡ bin_start period bin_number
  pub days_is : extent.days ≡ days_of_bin period bin_number
