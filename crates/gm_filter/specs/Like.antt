-- LIKE, over the characters of pattern and text: `%` stands for any characters, `_` for one.
use Rattle.std.specs.Prelude.{ℕ, ◌==◌, ◌&&◌, ◌||◌, Bool, true, false, if◌then◌else◌, List, [], ◌∷◌}
use Rattle.std.specs.List.{list_any}
use Rattle.std.specs.Str.{chars}
use Rattle.gm_base.specs.Ascii.{percent_sign, underscore}

abbrev pub is_empty : List ℕ → Bool
is_empty [] = true
is_empty (c ∷ cs) = false

-- some suffix of the text passes
abbrev pub some_suffix : (List ℕ → Bool) → List ℕ → Bool
some_suffix test [] = test []
some_suffix test (c ∷ cs) = test (c ∷ cs) || some_suffix test cs

-- there is a first character, it passes, and so does what follows it
abbrev pub behind_first : (ℕ → Bool) → (List ℕ → Bool) → List ℕ → Bool
behind_first first test [] = false
behind_first first test (c ∷ cs) = first c && test cs

-- the characters of a text fit those of a pattern; 37 is `%` and 95 is `_`
abbrev pub fits : List ℕ → List ℕ → Bool
fits [] = is_empty
fits (p ∷ ps) =
    if p == percent_sign then some_suffix (fits ps)
    else (if p == underscore then behind_first (λ _. true) (fits ps)
    else behind_first (λ c. c == p) (fits ps))

-- the same, of UTF-8
abbrev pub is_like : List ℕ → List ℕ → Bool
is_like pattern text = fits (chars pattern) (chars text)

-- `%` or `_`
abbrev pub is_wildcard : ℕ → Bool
is_wildcard b = b == percent_sign || b == underscore

abbrev pub has_wildcard : List ℕ → Bool
has_wildcard pattern = list_any is_wildcard pattern

-- the pattern before its first `%` or `_`
abbrev pub plain_front : List ℕ → List ℕ
plain_front [] = []
plain_front (b ∷ bs) = if is_wildcard b then [] else b ∷ plain_front bs
