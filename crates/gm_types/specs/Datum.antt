-- User data: their keys and values.
use Rattle.std.specs.Prelude.{ℕ, Bool, ◌&&◌, List, map, find, Option, option_map}
use Rattle.gm_types.specs.declared.datum.Datum.{Datum}
use Rattle.gm_types.specs.Words.{same_text, is_key, is_quotable}

-- the value that is given to a key
unfoldable pub datum_value : List ℕ → List Datum → Option (List ℕ)
datum_value key given =
    option_map (λ datum. datum.value) (find (λ datum. same_text datum.key key) given)

abbrev pub is_datum : Datum → Bool
is_datum datum = is_key datum.key && is_quotable datum.value

abbrev pub datum_keys : List Datum → List (List ℕ)
datum_keys given = map (λ datum. datum.key) given
