-- The byte ranges of a filter: where the lexicoded value of an attribute is to be looked for.
use Rattle.std.specs.Prelude.{ℕ, ℤ, pos, ◌+ℤ◌, ◌^◌, ◌==◌, ◌||◌, Bool, true, if◌then◌else◌, List, []}
use Rattle.std.specs.Prelude.{◌∷◌, ◌++◌, length, nat_le, Option, Some, None}
use Rattle.std.specs.List.{list_any}
use Rattle.gm_base.specs.Ascii.{null_byte}
use Rattle.gm_types.specs.declared.kind.Kind.{Kind}
use Rattle.gm_types.specs.declared.kind.Kind.TheVariants as kind
use Rattle.gm_types.specs.Specification.{Specification, kind_at}
use Rattle.gm_feature.specs.declared.value.Value.{Value}
use Rattle.gm_feature.specs.declared.value.Value.TheVariants as value
use Rattle.gm_feature.specs.Value.{is_below}
use Rattle.gm_lexi.specs.Lexicode.{int_bytes, long_bytes, date_bytes, bool_bytes, text_bytes}
use Rattle.gm_lexi.specs.Ends.{after_of}
use Rattle.gm_filter.specs.declared.filter.Op.{Op}
use Rattle.gm_filter.specs.declared.filter.Op.TheVariants.{Eq, Ne, Lt, Le, Gt, Ge}
use Rattle.gm_filter.specs.declared.filter.Literal.{Literal}
use Rattle.gm_filter.specs.declared.filter.Literal.TheVariants as literal
use Rattle.gm_filter.specs.Like.{has_wildcard, plain_front}
use Rattle.gm_filter.specs.Tree.{Tree, compare, between, like, one_of, during, before, after}
use Rattle.gm_filter.specs.Tree.{tequals}
use Rattle.gm_bounds.specs.declared.bound.Bound.{Bound}
use Rattle.gm_bounds.specs.declared.bound.Bound.TheVariants.{World, Listed}
use Rattle.gm_bounds.specs.declared.byte_range.ByteRange.{ByteRange}
use Rattle.gm_bounds.specs.Bound.{Rules, bound_of, on}
use Rattle.gm_bounds.specs.ByteRange.{range, met, joined, is_void}
use Rattle.gm_bounds.specs.Lists.{single, listed, capped, meeting}

-- the lexicoded form of a value, if it has one
abbrev pub form_of : Value → Option (List ℕ)
form_of value.Null = None
form_of (value.Text t) = Some (text_bytes t)
form_of (value.Integer n) = Some (int_bytes n)
form_of (value.Long n) = Some (long_bytes n)
form_of (value.Boolean b) = Some (bool_bytes b)
form_of (value.Date at) = Some (date_bytes at)
form_of (value.Geo g) = None

abbrev pub is_zero : ℕ → Bool
is_zero byte = byte == null_byte

-- a byte is 0
abbrev pub has_zero : List ℕ → Bool
has_zero bytes = list_any is_zero bytes

-- that of a text, which may have no byte 0
abbrev pub text_form : List ℕ → Option (List ℕ)
text_form t = if has_zero t then None else Some (text_bytes t)

-- that of a number of 32 bits
abbrev pub integer_form : ℤ → Option (List ℕ)
integer_form n = if is_below (2 ^ 31) n then Some (int_bytes n) else None

-- that of a literal as a value of the kind
abbrev pub literal_form : Kind → Literal → Option (List ℕ)
literal_form kind.Text (literal.Text t) = text_form t
literal_form kind.Integer (literal.Number n) = integer_form n
literal_form kind.Long (literal.Number n) = Some (long_bytes n)
literal_form kind.Boolean (literal.Truth b) = Some (bool_bytes b)
literal_form kind.Date (literal.Date at) = Some (date_bytes at)
literal_form _ _ = None

-- the bound of one range
abbrev pub ranging : List ℕ → Option (List ℕ) → Bound ByteRange
ranging low high = single is_void (range low high)

-- from there on, and nothing where there is no such place
abbrev pub ranging_from : Option (List ℕ) → Bound ByteRange
ranging_from None = Listed []
ranging_from (Some low) = ranging low None

-- what begins with the bytes
abbrev pub beginning : List ℕ → ByteRange
beginning bytes = range bytes (after_of bytes)

-- what compares so with a form
abbrev pub compared_form : Op → List ℕ → Bound ByteRange
compared_form Eq form = single is_void (beginning form)
compared_form Ne form = World
compared_form Lt form = ranging [] (Some form)
compared_form Le form = ranging [] (after_of form)
compared_form Gt form = ranging_from (after_of form)
compared_form Ge form = ranging form None

-- of what has no form nothing is equal to it, and no more is known
abbrev pub compared_none : Op → Bound ByteRange
compared_none Eq = Listed []
compared_none Ne = World
compared_none Lt = World
compared_none Le = World
compared_none Gt = World
compared_none Ge = World

abbrev pub compared : Op → Option (List ℕ) → Bound ByteRange
compared op None = compared_none op
compared op (Some form) = compared_form op form

abbrev pub lying_between : Option (List ℕ) → Option (List ℕ) → Bound ByteRange
lying_between None high = World
lying_between (Some low) None = World
lying_between (Some low) (Some high) = ranging low (after_of high)

-- the range of a literal, if it has a form
abbrev pub range_of : Option (List ℕ) → List ByteRange
range_of None = []
range_of (Some form) = beginning form ∷ []

abbrev pub ranges_of : Kind → List Literal → List ByteRange
ranges_of k [] = []
ranges_of k (l ∷ literals) = range_of (literal_form k l) ++ ranges_of k literals

abbrev pub is_blank : List ℕ → Bool
is_blank bytes = nat_le (length bytes) 0

-- what is like a pattern begins as the pattern does before its first `%` or `_`, if anything stands
-- there
abbrev pub begun_by : List ℕ → List ℕ → Bound ByteRange
begun_by pattern front =
    if is_blank front || has_zero pattern then World else single is_void (beginning front)

abbrev pub patterned : List ℕ → Bound ByteRange
patterned pattern =
    if has_wildcard pattern then begun_by pattern (plain_front pattern)
    else compared Eq (text_form pattern)

-- of a test, where the ranges of attribute d of that kind are asked for
abbrev pub range_test : ℕ → Kind → Tree → Bound ByteRange
range_test d k (compare a op l) = on a d (compared op (literal_form k l))
range_test d k (between a low high) =
    on a d (lying_between (literal_form k low) (literal_form k high))
range_test d k (like a pattern) = on a d (patterned pattern)
range_test d k (one_of a literals) = on a d (listed is_void joined (ranges_of k literals))
range_test d k (during a low high) =
    on a d (ranging (date_bytes (low +ℤ pos 1)) (Some (date_bytes high)))
range_test d k (before a at) = on a d (compared_form Lt (date_bytes at))
range_test d k (after a at) = on a d (compared_form Gt (date_bytes at))
range_test d k (tequals a at) = on a d (compared_form Eq (date_bytes at))
range_test d k _ = World

abbrev pub range_rules : ℕ → Kind → Rules ByteRange
range_rules d k =
    record { test = range_test d k; met = meeting true met is_void joined; counted = capped joined }

abbrev pub ranges_at : ℕ → Option Kind → Tree → Bound ByteRange
ranges_at d None t = World
ranges_at d (Some k) t = bound_of (range_rules d k) t

-- the ranges of that attribute
abbrev pub byte_ranges_of : Specification → ℕ → Tree → Bound ByteRange
byte_ranges_of s d t = ranges_at d (kind_at s d) t
