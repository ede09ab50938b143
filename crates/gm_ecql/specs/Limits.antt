-- What a list of tokens may have at most, and the blank that two numbers want between them.
use Rattle.std.specs.Prelude.{ℕ, suc, ◌-◌, ◌&&◌, Bool, true, false, not, nat_le, max, if◌then◌else◌}
use Rattle.std.specs.Prelude.{List, [], ◌∷◌, length}
use Rattle.gm_ecql.specs.declared.keyword.Keyword.{Keyword}
use Rattle.gm_ecql.specs.declared.keyword.Keyword.TheVariants as keyword
use Rattle.gm_ecql.specs.declared.token.Symbol.{Symbol}
use Rattle.gm_ecql.specs.declared.token.Symbol.TheVariants as symbol
use Rattle.gm_ecql.specs.Token.{Seen, a_keyword, a_number, a_symbol}

-- AND, OR and NOT, wherever they stand
abbrev pub is_join : Seen → Bool
is_join (a_keyword keyword.And) = true
is_join (a_keyword keyword.Or) = true
is_join (a_keyword keyword.Not) = true
is_join _ = false

abbrev pub joins : List Seen → ℕ
joins [] = 0
joins (t ∷ ts) = if is_join t then suc (joins ts) else joins ts

-- how many brackets are open behind a token; one that closes none changes nothing
abbrev pub depth_behind : ℕ → Seen → ℕ
depth_behind depth (a_symbol symbol.Opening) = suc depth
depth_behind depth (a_symbol symbol.Closing) = depth - 1
depth_behind depth _ = depth

-- the most brackets that are open at once
abbrev pub deepest : ℕ → List Seen → ℕ
deepest depth [] = depth
deepest depth (t ∷ ts) = max depth (deepest (depth_behind depth t) ts)

abbrev pub most_tokens : ℕ
most_tokens = 50000

-- the most of these words
abbrev pub most_joins : ℕ
most_joins = 1000

-- the most open brackets
abbrev pub most_depth : ℕ
most_depth = 100

-- at most so many tokens, of these words and open brackets
abbrev pub are_within : List Seen → Bool
are_within ts =
    (nat_le (length ts) most_tokens && nat_le (joins ts) most_joins)
    && nat_le (deepest 0 ts) most_depth

abbrev pub is_number : Seen → Bool
is_number (a_number bytes) = true
is_number _ = false

-- `behind` says that the token before is a number
abbrev pub are_apart_behind : Bool → List (Bool × Seen) → Bool
are_apart_behind behind [] = true
are_apart_behind behind (t ∷ ts) =
    not (is_number t.1 && (behind && not t.0)) && are_apart_behind (is_number t.1) ts

-- a blank stands between any two numbers that follow one another
abbrev pub are_numbers_apart : List (Bool × Seen) → Bool
are_numbers_apart = are_apart_behind false
