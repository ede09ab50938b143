-- LIKE over the bytes of UTF-8, where a character is a byte and the continuation bytes behind it.
use Rattle.std.specs.Prelude.{ℕ, ◌/◌, ◌==◌, ◌&&◌, ◌||◌, Bool, true, not, if◌then◌else◌, List, []}
use Rattle.std.specs.Prelude.{◌∷◌}
use Rattle.gm_base.specs.Ascii.{percent_sign, underscore}
use Rattle.gm_filter.specs.Like.{is_empty, behind_first}

-- a byte inside a character, after its first
abbrev pub is_continuation : ℕ → Bool
is_continuation b = b / 64 == 2

abbrev pub past_continuation : List ℕ → List ℕ
past_continuation [] = []
past_continuation (b ∷ bs) = if is_continuation b then past_continuation bs else (b ∷ bs)

-- what begins at some character of the text, or at its end, passes
abbrev pub some_suffix_from : (List ℕ → Bool) → List ℕ → Bool
some_suffix_from test [] = test []
some_suffix_from test (b ∷ bs) =
    (not (is_continuation b) && test (b ∷ bs)) || some_suffix_from test bs

abbrev pub matches : List ℕ → List ℕ → Bool
matches [] = is_empty
matches (p ∷ ps) =
    if p == percent_sign then some_suffix_from (matches ps)
    else (if p == underscore then behind_first (λ _. true) (λ bs. matches ps (past_continuation bs))
    else behind_first (λ b. b == p) (matches ps))
