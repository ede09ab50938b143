-- How the default date is found.
use Rattle.std.specs.Prelude.{◌≡◌, ℕ, List, true, false, codes, Option, Some, None}
use Rattle.gm_types.specs.FeatureType.{is_met, is_date_name}
use Rattle.gm_types.specs.Specification.{Specification, default_date_of, place_of_name, setting_of}

-- the default date, or nothing where the setting names no Date
abbrev pub IsDateSetting : Specification → Option (Option ℕ) → Type 0
IsDateSetting t None = is_met (is_date_name t) (setting_of t (codes "geomesa.index.dtg")) ≡ false
IsDateSetting t (Some date) =
    (is_met (is_date_name t) (setting_of t (codes "geomesa.index.dtg")) ≡ true)
    × (date ≡ default_date_of t)

-- the Date of that name, or nothing where there is none
abbrev pub IsDateNamed : Specification → List ℕ → Option ℕ → Type 0
IsDateNamed t name None = is_date_name t name ≡ false
IsDateNamed t name (Some attribute) =
    (is_date_name t name ≡ true) × (Some attribute ≡ place_of_name t name)
