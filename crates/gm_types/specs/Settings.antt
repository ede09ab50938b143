-- How the settings of user data are read.
use Rattle.std.specs.Prelude.{◌≡◌, ℕ, true, false, List, min, Option, Some, None, option_map}
use Rattle.gm_types.specs.FeatureType.{is_read}
use Rattle.gm_types.specs.Specification.{setting_or}

-- the value that a key is given, where it is listed, or the standard where it is given none;
-- nothing where it is not listed
abbrev pub IsSetting : {A : Type 0} → (List ℕ → Option A) → Option (List ℕ) → A → Option A → Type 0
IsSetting reading value standard None = is_read reading value ≡ false
IsSetting reading value standard (Some x) =
    (is_read reading value ≡ true) × (x ≡ setting_or reading value standard)

-- no number that counts is more
abbrev pub number_cap : ℕ
number_cap = 1000

-- a number, or 1000 where it is more
abbrev pub capped : Option ℕ → Option ℕ
capped given = option_map (λ n. min n number_cap) given
