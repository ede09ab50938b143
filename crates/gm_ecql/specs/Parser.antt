-- Filters at the front of tokens, step by step as the code goes.
use Rattle.std.specs.Prelude.{ℕ, zero, suc, List, [], ◌∷◌, length, Option, Some, None, option_map}
use Rattle.gm_types.specs.Specification.{Specification}
use Rattle.gm_filter.specs.Tree.{Tree, Trees, all, any}
use Rattle.gm_ecql.specs.declared.keyword.Keyword.{Keyword}
use Rattle.gm_ecql.specs.declared.keyword.Keyword.TheVariants as keyword
use Rattle.gm_ecql.specs.declared.token.Symbol.TheVariants as symbol
use Rattle.gm_ecql.specs.Grammar.{Members, no_members, add_member, grouped, negated_of}
use Rattle.gm_ecql.specs.Judging.{Judged, judged}
use Rattle.gm_ecql.specs.Reader.{Reader, ◌>>=◌, or_else, after_keyword, after_symbol, test_at}
use Rattle.gm_ecql.specs.Token.{Seen}

-- the test at the front, as the type has it
abbrev pub judged_at : Specification → Reader Judged
judged_at s ts = test_at ts >>= (λ t. option_map (λ j. (j, t.1)) (judged s t.0))

abbrev pub members_with : Judged → Option (Members × List Seen) → Option (Members × List Seen)
members_with j r = option_map (λ ms. (add_member j ms.0, ms.1)) r

-- What stands behind each joining word. The number bounds the turns, and the count of the tokens is
-- always enough.
unfoldable pub more : Keyword → Reader Judged → ℕ → Reader Members
more word item zero ts = or_else (after_keyword word ts) (λ rest. None) (Some (no_members, ts))
more word item (suc n) ts =
    or_else (after_keyword word ts)
    (λ rest. item rest >>= (λ j. members_with j.0 (more word item n j.1)))
    (Some (no_members, ts))

abbrev pub chain : Keyword → (Trees → Tree) → Reader Judged → ℕ → Reader Judged
chain word make item n ts =
    item ts >>= (λ j. option_map (λ ms. (grouped make ms.0, ms.1))
    (members_with j.0 (more word item n j.1)))

abbrev pub term_with : Reader Judged → ℕ → Reader Judged
term_with factor n = chain keyword.And all factor n

abbrev pub filter_with : Reader Judged → ℕ → Reader Judged
filter_with factor n = chain keyword.Or any (term_with factor n) n

abbrev pub closed : Option (Judged × List Seen) → Option (Judged × List Seen)
closed r = r >>= (λ j. option_map (λ rest. (j.0, rest)) (after_symbol symbol.Closing j.1))

abbrev pub factor_step : Specification → Reader Judged → Reader Judged → Reader Judged
factor_step s factor filter ts =
    or_else (after_keyword keyword.Not ts)
    (λ rest. option_map (λ j. (negated_of j.0, j.1)) (factor rest))
    (or_else (after_symbol symbol.Opening ts) (λ rest. closed (filter rest))
    (judged_at s ts))

unfoldable pub factor_at : Specification → ℕ → Reader Judged
factor_at s zero ts = None
factor_at s (suc n) ts = factor_step s (factor_at s n) (filter_with (factor_at s n) n) ts

abbrev pub if_last : {A : Type 0} → A → List Seen → Option A
if_last x [] = Some x
if_last x (t ∷ ts) = None

-- what all tokens spell
abbrev pub document : Specification → List Seen → Option Judged
document s ts = filter_with (factor_at s (length ts)) (length ts) ts >>= (λ j. if_last j.0 j.1)
