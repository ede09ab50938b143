-- Features, and which of them fit a type.
use Rattle.std.specs.Prelude.{◌≡◌, ℕ, Bool, true, false, ◌&&◌, ◌||◌, not, List, [], ◌∷◌, get_or}
use Rattle.std.specs.Prelude.{is_some, Option, Some, None}
use Rattle.gm_base.specs.Identifier.{is_identifier}
use Rattle.gm_calendar.specs.Bin.{bin_at}
use Rattle.gm_calendar.specs.declared.period.Period.{Period}
use Rattle.gm_types.specs.declared.index.IndexKind.TheVariants.{Z3, Xz3}
use Rattle.gm_types.specs.declared.kind.Kind.{Kind}
use Rattle.gm_types.specs.Index.{has_index}
use Rattle.gm_types.specs.Specification.{Specification, kinds_of, default_date_of, period_of}
use Rattle.gm_feature.specs.declared.feature.Feature.{Feature}
use Rattle.gm_feature.specs.declared.value.Value.{Value}
use Rattle.gm_feature.specs.declared.value.Value.TheVariants as value
use Rattle.gm_feature.specs.Value.{value_fits}

-- the value of the attribute with that number, and null where there is none
abbrev pub value_in : List Value → ℕ → Value
value_in values attribute = get_or values attribute value.Null

abbrev pub value_at : Feature → ℕ → Value
value_at feature attribute = value_in feature.values attribute

-- as many values as kinds, each one that its kind may hold
abbrev pub values_fit : List Kind → List Value → Bool
values_fit [] [] = true
values_fit (k ∷ kinds) (v ∷ values) = value_fits k v && values_fit kinds values
values_fit _ _ = false

-- a date has a bin of the period
abbrev pub has_bin : Period → Value → Bool
has_bin period (value.Date at) = is_some (bin_at period at)
has_bin period _ = true

-- the default date, where there is one, is null or has a bin
abbrev pub date_has_bin : Period → Option ℕ → List Value → Bool
date_has_bin period None values = true
date_has_bin period (Some attribute) values = has_bin period (value_in values attribute)

-- an index over time is enabled
abbrev pub has_time_index : Specification → Bool
has_time_index t = has_index t Z3 || has_index t Xz3

-- where that is so, the default date is null or has a bin
abbrev pub dates_fit : Specification → List Value → Bool
dates_fit t values = not (has_time_index t) || date_has_bin (period_of t) (default_date_of t) values

-- the feature fits the type, as a test
abbrev pub fits : Specification → Feature → Bool
fits t feature =
    is_identifier feature.id
    && (values_fit (kinds_of t) feature.values && dates_fit t feature.values)

-- the same as a fact
pub record Fits (t : Specification) (feature : Feature) : Type 0 where
  pub identifier : is_identifier feature.id ≡ true
  pub each : values_fit (kinds_of t) feature.values ≡ true
  pub date : dates_fit t feature.values ≡ true
