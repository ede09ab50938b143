-- What stands at the front of tokens, as functions: a test, step by step as the code goes.
use Rattle.std.specs.Prelude.{ℕ, zero, suc, ◌==◌, Bool, true, false, if◌then◌else◌, List, [], ◌∷◌}
use Rattle.std.specs.Prelude.{length, ℤ, Option, Some, None, option_map}
use Rattle.gm_filter.specs.declared.filter.Op.{Op}
use Rattle.gm_filter.specs.declared.filter.Op.TheVariants as op
use Rattle.gm_ecql.specs.declared.keyword.Keyword.{Keyword}
use Rattle.gm_ecql.specs.declared.keyword.Keyword.TheVariants as keyword
use Rattle.gm_ecql.specs.declared.token.Symbol.{Symbol}
use Rattle.gm_ecql.specs.declared.token.Symbol.TheVariants as symbol
use Rattle.gm_ecql.specs.declared.test.Relation.{Relation}
use Rattle.gm_ecql.specs.declared.test.Relation.TheVariants as relation
use Rattle.gm_ecql.specs.declared.test.Timing.{Timing}
use Rattle.gm_ecql.specs.declared.test.Timing.TheVariants as timing
use Rattle.gm_ecql.specs.Geometry.{piece_at}
use Rattle.gm_ecql.specs.Places.{keyword_place, symbol_place}
use Rattle.gm_ecql.specs.Test.{Written, of_text, of_number, of_instant, of_truth, Sides, Question}
use Rattle.gm_ecql.specs.Test.{in_box, related, compared, between, like, one_of, null, during}
use Rattle.gm_ecql.specs.Test.{timed, Trial, include, exclude, ids, named}
use Rattle.gm_ecql.specs.Token.{Seen, a_keyword, a_name, a_text, an_instant, a_number, a_symbol}

-- what is read at the front, and the tokens behind it
abbrev pub Reader : Type 0 → Type 0
Reader A = List Seen → Option (A × List Seen)

infixl 10 ◌>>=◌
abbrev pub ◌>>=◌ : {A B : Type 0} → Option A → (A → Option B) → Option B
(Some x) >>= f = f x
None >>= f = None

-- by what was read, and else otherwise
abbrev pub or_else : {A B : Type 0} → Option A → (A → B) → B → B
or_else (Some x) f other = f x
or_else None f other = other

abbrev pub after_keyword : Keyword → List Seen → Option (List Seen)
after_keyword k [] = None
after_keyword k (a_keyword j ∷ ts) = if keyword_place j == keyword_place k then Some ts else None
after_keyword k (a_name bytes ∷ ts) = None
after_keyword k (a_text bytes ∷ ts) = None
after_keyword k (an_instant at ∷ ts) = None
after_keyword k (a_number bytes ∷ ts) = None
after_keyword k (a_symbol s ∷ ts) = None

abbrev pub symbol_at : Reader Symbol
symbol_at [] = None
symbol_at (a_keyword j ∷ ts) = None
symbol_at (a_name bytes ∷ ts) = None
symbol_at (a_text bytes ∷ ts) = None
symbol_at (an_instant at ∷ ts) = None
symbol_at (a_number bytes ∷ ts) = None
symbol_at (a_symbol s ∷ ts) = Some (s, ts)

abbrev pub after_symbol : Symbol → List Seen → Option (List Seen)
after_symbol s [] = None
after_symbol s (a_keyword j ∷ ts) = None
after_symbol s (a_name bytes ∷ ts) = None
after_symbol s (a_text bytes ∷ ts) = None
after_symbol s (an_instant at ∷ ts) = None
after_symbol s (a_number bytes ∷ ts) = None
after_symbol s (a_symbol r ∷ ts) = if symbol_place r == symbol_place s then Some ts else None

abbrev pub name_at : Reader (List ℕ)
name_at [] = None
name_at (a_keyword j ∷ ts) = None
name_at (a_name bytes ∷ ts) = Some (bytes, ts)
name_at (a_text bytes ∷ ts) = None
name_at (an_instant at ∷ ts) = None
name_at (a_number bytes ∷ ts) = None
name_at (a_symbol s ∷ ts) = None

abbrev pub text_at : Reader (List ℕ)
text_at [] = None
text_at (a_keyword j ∷ ts) = None
text_at (a_name bytes ∷ ts) = None
text_at (a_text bytes ∷ ts) = Some (bytes, ts)
text_at (an_instant at ∷ ts) = None
text_at (a_number bytes ∷ ts) = None
text_at (a_symbol s ∷ ts) = None

abbrev pub number_at : Reader (List ℕ)
number_at [] = None
number_at (a_keyword j ∷ ts) = None
number_at (a_name bytes ∷ ts) = None
number_at (a_text bytes ∷ ts) = None
number_at (an_instant at ∷ ts) = None
number_at (a_number bytes ∷ ts) = Some (bytes, ts)
number_at (a_symbol s ∷ ts) = None

abbrev pub instant_at : Reader ℤ
instant_at [] = None
instant_at (a_keyword j ∷ ts) = None
instant_at (a_name bytes ∷ ts) = None
instant_at (a_text bytes ∷ ts) = None
instant_at (an_instant at ∷ ts) = Some (at, ts)
instant_at (a_number bytes ∷ ts) = None
instant_at (a_symbol s ∷ ts) = None

abbrev pub truth_at : Reader Bool
truth_at ts =
    or_else (after_keyword keyword.True ts) (λ rest. Some (true, rest))
    (option_map (λ rest. (false, rest)) (after_keyword keyword.False ts))

abbrev pub constant_at : Reader Written
constant_at ts =
    or_else (text_at ts) (λ r. Some (of_text r.0, r.1))
    (or_else (number_at ts) (λ r. Some (of_number r.0, r.1))
    (or_else (instant_at ts) (λ r. Some (of_instant r.0, r.1))
    (option_map (λ r. (of_truth r.0, r.1)) (truth_at ts))))

abbrev pub separator_at : Reader Bool
separator_at ts =
    or_else (after_symbol symbol.Comma ts) (λ rest. Some (true, rest))
    (option_map (λ rest. (false, rest)) (after_symbol symbol.Closing ts))

abbrev pub number_then_comma : Reader (List ℕ)
number_then_comma ts = do
  coordinate ← number_at ts
  rest ← after_symbol symbol.Comma coordinate.1
  Some (coordinate.0, rest)

abbrev pub name_then_comma : Reader (List ℕ)
name_then_comma ts = do
  inside ← after_symbol symbol.Opening ts
  name ← name_at inside
  rest ← after_symbol symbol.Comma name.1
  Some (name.0, rest)

abbrev pub corners_at : Reader Sides
corners_at ts = do
  west ← number_then_comma ts
  south ← number_then_comma west.1
  east ← number_then_comma south.1
  north ← number_at east.1
  Some (record { west = west.0; south = south.0; east = east.0; north = north.0 }, north.1)

abbrev pub system_behind : Bool → Reader (Option (List ℕ))
system_behind false ts = Some (None, ts)
system_behind true ts = do
  text ← text_at ts
  rest ← after_symbol symbol.Closing text.1
  Some (Some text.0, rest)

abbrev pub system_at : Reader (Option (List ℕ))
system_at ts = separator_at ts >>= (λ more. system_behind more.0 more.1)

abbrev pub bbox_at : Reader Trial
bbox_at ts = do
  name ← name_then_comma ts
  sides ← corners_at name.1
  system ← system_at sides.1
  Some (named name.0 (in_box sides.0 system.0), system.1)

abbrev pub relation_at : Reader Relation
relation_at ts =
    or_else (after_keyword keyword.Intersects ts) (λ rest. Some (relation.Intersects, rest))
    (or_else (after_keyword keyword.Disjoint ts) (λ rest. Some (relation.Disjoint, rest))
    (option_map (λ rest. (relation.Within, rest)) (after_keyword keyword.Within ts)))

abbrev pub related_at : Relation → Reader Trial
related_at r ts = do
  name ← name_then_comma ts
  piece ← piece_at name.1
  rest ← after_symbol symbol.Closing piece.1
  Some (named name.0 (related r piece.0), rest)

-- Members up to the closing bracket. The number bounds their count; that of the tokens is always
-- enough.
abbrev pub member_then : {A : Type 0} → Reader (List A) → A → Bool → List Seen
    → Option (List A × List Seen)
member_then more x true ts = option_map (λ r. (x ∷ r.0, r.1)) (more ts)
member_then more x false ts = Some (x ∷ [], ts)

unfoldable pub members_at : {A : Type 0} → Reader A → ℕ → Reader (List A)
members_at item zero ts = None
members_at item (suc n) ts = do
  member ← item ts
  separator ← separator_at member.1
  member_then (members_at item n) member.0 separator.0 separator.1

abbrev pub list_at : {A : Type 0} → Reader A → Reader (List A)
list_at item ts =
    after_symbol symbol.Opening ts >>= (λ inside. members_at item (length inside) inside)

abbrev pub texts_at : Reader (List (List ℕ))
texts_at = list_at text_at

abbrev pub constants_at : Reader (List Written)
constants_at = list_at constant_at

abbrev pub op_of : Symbol → Option Op
op_of symbol.Opening = None
op_of symbol.Closing = None
op_of symbol.Comma = None
op_of symbol.Equal = Some op.Eq
op_of symbol.NotEqual = Some op.Ne
op_of symbol.Less = Some op.Lt
op_of symbol.AtMost = Some op.Le
op_of symbol.More = Some op.Gt
op_of symbol.AtLeast = Some op.Ge
op_of symbol.Slash = None

abbrev pub op_at : Reader Op
op_at ts = symbol_at ts >>= (λ s. option_map (λ o. (o, s.1)) (op_of s.0))

abbrev pub compared_at : Op → Reader Question
compared_at o ts = option_map (λ r. (compared o r.0, r.1)) (constant_at ts)

abbrev pub not_at : List Seen → Bool × List Seen
not_at ts = or_else (after_keyword keyword.Not ts) (λ rest. (true, rest)) (false, ts)

abbrev pub between_at : Bool → Reader Question
between_at negated ts = do
  low ← constant_at ts
  rest ← after_keyword keyword.And low.1
  high ← constant_at rest
  Some (between negated low.0 high.0, high.1)

abbrev pub like_at : Bool → Reader Question
like_at negated ts = option_map (λ r. (like negated r.0, r.1)) (text_at ts)

abbrev pub null_at : Reader Question
null_at ts = option_map (λ rest. (null (not_at ts).0, rest))
    (after_keyword keyword.Null (not_at ts).1)

abbrev pub during_at : Reader Question
during_at ts = do
  low ← instant_at ts
  rest ← after_symbol symbol.Slash low.1
  high ← instant_at rest
  Some (during low.0 high.0, high.1)

abbrev pub timing_at : Reader Timing
timing_at ts =
    or_else (after_keyword keyword.Before ts) (λ rest. Some (timing.Before, rest))
    (or_else (after_keyword keyword.After ts) (λ rest. Some (timing.After, rest))
    (option_map (λ rest. (timing.Tequals, rest)) (after_keyword keyword.Tequals ts)))

abbrev pub timed_at : Timing → Reader Question
timed_at t ts = option_map (λ r. (timed t r.0, r.1)) (instant_at ts)

abbrev pub one_of_at : Bool → Reader Question
one_of_at negated ts = option_map (λ r. (one_of negated r.0, r.1)) (constants_at ts)

-- BETWEEN, LIKE or IN
abbrev pub negatable_at : Bool → Reader Question
negatable_at negated ts =
    or_else (after_keyword keyword.Between ts) (between_at negated)
    (or_else (after_keyword keyword.Like ts) (like_at negated)
    (after_keyword keyword.In ts >>= one_of_at negated))

-- what is asked behind a name
abbrev pub asked_at : Reader Question
asked_at ts =
    or_else (op_at ts) (λ r. compared_at r.0 r.1)
    (or_else (after_keyword keyword.Is ts) null_at
    (or_else (after_keyword keyword.During ts) during_at
    (or_else (timing_at ts) (λ r. timed_at r.0 r.1)
    (negatable_at (not_at ts).0 (not_at ts).1))))

-- a test that begins with a keyword other than IN
abbrev pub lone_test_at : Reader Trial
lone_test_at ts =
    or_else (after_keyword keyword.Include ts) (λ rest. Some (include, rest))
    (or_else (after_keyword keyword.Exclude ts) (λ rest. Some (exclude, rest))
    (or_else (after_keyword keyword.Bbox ts) bbox_at
    (relation_at ts >>= (λ r. related_at r.0 r.1))))

unfoldable pub test_at : Reader Trial
test_at ts =
    or_else (name_at ts) (λ name. option_map (λ r. (named name.0 r.0, r.1)) (asked_at name.1))
    (or_else (after_keyword keyword.In ts)
    (λ rest. option_map (λ r. (ids r.0, r.1)) (texts_at rest))
    (lone_test_at ts))
