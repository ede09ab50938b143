-- Bytes that texts and keys are written with: of ASCII, beside letters and digits, and the last.
use Rattle.std.specs.Prelude.{ℕ, ◌+◌, ◌-◌, ◌*◌, Bool, ◌==◌, ◌||◌}

abbrev pub null_byte : ℕ
null_byte = 0

abbrev pub tab : ℕ
tab = 9

abbrev pub line_feed : ℕ
line_feed = 10

abbrev pub carriage_return : ℕ
carriage_return = 13

abbrev pub space : ℕ
space = 32

abbrev pub double_quote : ℕ
double_quote = 34

abbrev pub number_sign : ℕ
number_sign = 35

abbrev pub percent_sign : ℕ
percent_sign = 37

abbrev pub single_quote : ℕ
single_quote = 39

abbrev pub opening : ℕ
opening = 40

abbrev pub closing : ℕ
closing = 41

abbrev pub star : ℕ
star = 42

abbrev pub plus_sign : ℕ
plus_sign = 43

abbrev pub comma : ℕ
comma = 44

abbrev pub minus_sign : ℕ
minus_sign = 45

abbrev pub decimal_point : ℕ
decimal_point = 46

abbrev pub slash : ℕ
slash = 47

abbrev pub digit_zero : ℕ
digit_zero = 48

abbrev pub colon : ℕ
colon = 58

abbrev pub semicolon : ℕ
semicolon = 59

abbrev pub less_sign : ℕ
less_sign = 60

abbrev pub equals_sign : ℕ
equals_sign = 61

abbrev pub greater_sign : ℕ
greater_sign = 62

abbrev pub capital_e : ℕ
capital_e = 69

abbrev pub letter_t : ℕ
letter_t = 84

abbrev pub letter_z : ℕ
letter_z = 90

abbrev pub underscore : ℕ
underscore = 95

abbrev pub small_e : ℕ
small_e = 101

abbrev pub delete : ℕ
delete = 127

abbrev pub last_byte : ℕ
last_byte = 255

-- a space or a tab
abbrev pub is_blank : ℕ → Bool
is_blank byte = byte == space || byte == tab

-- a number with one more digit behind it
abbrev pub next_digit : ℕ → ℕ → ℕ
next_digit so_far byte = so_far * 10 + (byte - digit_zero)
