-- New values of the default date.
use Rattle.std.specs.Prelude.{ℕ, ◌||◌, ◌==◌, not, Bool, false, Option, Some, None}
use Rattle.gm_types.specs.Specification.{Specification, default_date_of, period_of}
use Rattle.gm_feature.specs.declared.value.Value.{Value}
use Rattle.gm_feature.specs.Feature.{has_time_index, has_bin}

abbrev pub is_place : ℕ → Option ℕ → Bool
is_place attribute None = false
is_place attribute (Some date) = date == attribute

-- where an index over time is enabled, a new value of the default date is null or has a bin
abbrev pub keeps_bins : Specification → ℕ → Value → Bool
keeps_bins t attribute value =
    not (has_time_index t)
    || (not (is_place attribute (default_date_of t)) || has_bin (period_of t) value)
