-- What the words after the program's name ask for.
use Rattle.std.specs.Prelude.{◌≡◌, ℕ, ◌-◌, ◌^◌, ◌==◌, ◌&&◌, not, nat_le, Bool, true, false}
use Rattle.std.specs.Prelude.{if◌then◌else◌, List, [], ◌∷◌, codes, Option, None, Some, Result, Ok}
use Rattle.std.specs.Prelude.{Err, ⊤}
use Rattle.std.specs.List.{list_all, before_first, after_first}
use Rattle.std.specs.Char.{is_ascii_digit}
use Rattle.std.specs.Str.Parse.{digits_value}
use Rattle.clap.specs.Words.{App, Rule, Text, fault_of, first_of, matches_of, new_app, new_rule}
use Rattle.clap.specs.Words.{with_rule}
use Rattle.clap.specs.Walk.{is_empty}
use Rattle.clap.specs.Simple.{on_top}
use Rattle.gm_base.specs.Ascii.{colon, digit_zero}
use Rattle.gm_program.specs.declared.options.Made.{Made}
use Rattle.gm_program.specs.declared.options.Options.{Options}
use Rattle.gm_program.specs.declared.options.WordsFault.{WordsFault}
use Rattle.gm_program.specs.declared.options.WordsFault.TheVariants.{Usage, NoMemory}

-- ---- what clap states

-- the option --NAME, which takes one value
abbrev pub option_rule : Text → Rule
option_rule name = record (new_rule name) { long = Some name }

-- no option yet; each word is read, the first too, and there is no flag for help
abbrev pub bare_command : App
bare_command =
    on_top (λ s. record s { no_binary_name = true; disable_help_flag = true })
    (new_app (codes "gm"))

abbrev pub gm_command : App
gm_command = with_rule bare_command (option_rule (codes "generate"))

-- clap states some kind of fault of the words
abbrev pub has_fault : List Text → Bool
has_fault words = not (is_empty (fault_of gm_command words))

-- the value that clap states of an option
abbrev pub value_of : Text → List Text → Option Text
value_of name words = first_of name (matches_of gm_command words)

-- ---- the values

-- a 0 before further bytes
abbrev pub is_padded_text : Text → Bool
is_padded_text [] = false
is_padded_text (a ∷ []) = false
is_padded_text (a ∷ b ∷ bytes) = a == digit_zero

-- one digit or more, of which the first of several is not 0
abbrev pub is_plain_number : Text → Bool
is_plain_number bytes =
    not (is_empty bytes) && (list_all is_ascii_digit bytes && not (is_padded_text bytes))

abbrev pub number_between : ℕ → ℕ → Text → Option ℕ
number_between least most bytes =
    if is_plain_number bytes
    && (nat_le least (digits_value 10 bytes) && nat_le (digits_value 10 bytes) most)
    then Some (digits_value 10 bytes) else None

abbrev pub both : Option ℕ → Option ℕ → Option Made
both (Some a) (Some b) = Some (record { seed = a; count = b })
both (Some a) None = None
both None b = None

-- the most features of a made script
abbrev pub most_features : ℕ
most_features = 100000

-- a u64 before the first colon, and 1 to 100,000 behind it
abbrev pub pair_value : Text → Option Made
pair_value bytes = both (number_between 0 (2 ^ 64 - 1) (before_first (λ b. b == colon) bytes))
    (number_between 1 most_features (after_first (λ b. b == colon) bytes))

-- None where the value is no good
abbrev pub given : Option Made → Option (Option Made)
given None = None
given (Some made) = Some (Some made)

abbrev pub generate_value : Option Text → Option (Option Made)
generate_value None = Some None
generate_value (Some bytes) = given (pair_value bytes)

-- ---- the options
abbrev pub options_from : Option (Option Made) → Option Options
options_from None = None
options_from (Some generate) = Some (record { generate = generate })

abbrev pub options_of : List Text → Option Options
options_of words =
    if has_fault words then None
    else options_from (generate_value (value_of (codes "generate") words))

-- the source's script
abbrev pub plain_options : Options
plain_options = record { generate = None }

-- a script by this seed, of so many features
abbrev pub made_options : ℕ → ℕ → Options
made_options seed count = record { generate = Some (record { seed = seed; count = count }) }

-- the options are those of the words, and Usage comes only where there are none
abbrev pub Reads : Option Options → Result Options WordsFault → Type 0
Reads options (Ok read) = options ≡ Some read
Reads options (Err Usage) = options ≡ None
Reads options (Err NoMemory) = ⊤
