-- The words between the name and the filter of a question: a hint `index=..`, and behind it a
-- target `target=..`.
use Rattle.std.specs.Prelude.{ℕ, ◌&&◌, nat_le, Bool, if◌then◌else◌, List, length, take, drop, codes}
use Rattle.std.specs.Prelude.{Option, Some, None, option_map}
use Rattle.std.specs.Char.{is_ascii_digit}
use Rattle.std.specs.List.{list_all}
use Rattle.std.specs.Str.Parse.{digits_value}
use Rattle.gm_types.specs.declared.index.IndexKind.{IndexKind}
use Rattle.gm_types.specs.Index.{index_of_name}
use Rattle.gm_types.specs.Specification.{Specification}
use Rattle.gm_types.specs.Words.{same_text}
use Rattle.gm_script.specs.Words.{word_of, behind_word}

-- the first word begins with the key
abbrev pub has_option : List ℕ → List ℕ → Bool
has_option key text = same_text (take (length key) (word_of text)) key

-- what stands behind the key in the first word
abbrev pub option_in : List ℕ → List ℕ → Option (List ℕ)
option_in key text = if has_option key text then Some (drop (length key) (word_of text)) else None

-- what follows the first word where it begins with the key
abbrev pub past_option : List ℕ → List ℕ → List ℕ
past_option key text = if has_option key text then behind_word text else text

abbrev pub hint_in : List ℕ → Option (List ℕ)
hint_in text = option_in (codes "index=") text

abbrev pub past_hint : List ℕ → List ℕ
past_hint text = past_option (codes "index=") text

abbrev pub target_in : List ℕ → Option (List ℕ)
target_in text = option_in (codes "target=") (past_hint text)

-- the filter
abbrev pub past_words : List ℕ → List ℕ
past_words text = past_option (codes "target=") (past_hint text)

-- the most digits of a target
abbrev pub target_digits : ℕ
target_digits = 10

-- the target where none is given
abbrev pub standard_target : ℕ
standard_target = 2000

abbrev pub is_target : List ℕ → Bool
is_target digits =
    (nat_le 1 (length digits) && nat_le (length digits) target_digits)
    && list_all is_ascii_digit digits

-- one to ten digits
abbrev pub target_number : List ℕ → Option ℕ
target_number digits = if is_target digits then Some (digits_value 10 digits) else None

-- the number of a target, and 2,000 where none is given
abbrev pub target_of : Option (List ℕ) → Option ℕ
target_of None = Some standard_target
target_of (Some digits) = target_number digits

-- the enabled index that is hinted at, if a hint is given; None where it has another name
abbrev pub hinted : Specification → Option (List ℕ) → Option (Option IndexKind)
hinted t None = Some None
hinted t (Some name) = option_map (λ kind. Some kind) (index_of_name t name)
