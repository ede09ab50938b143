-- Values, and which of them an attribute of a kind holds.
use Rattle.std.specs.Prelude.{ℕ, ◌^◌, Bool, true, false, not, ◌&&◌, ◌==◌, nat_lt, nat_le, ℤ, pos}
use Rattle.std.specs.Prelude.{negsuc, List, length, is_none}
use Rattle.std.specs.List.{list_all}
use Rattle.std.specs.Str.{is_utf8}
use Rattle.gm_base.specs.Ascii.{null_byte}
use Rattle.gm_calendar.specs.Instant.{is_instant}
use Rattle.gm_geom.specs.Validity.{fault_of}
use Rattle.gm_types.specs.declared.kind.Kind.{Kind}
use Rattle.gm_types.specs.declared.kind.Kind.TheVariants as kind
use Rattle.gm_feature.specs.declared.value.Value.{Value}
use Rattle.gm_feature.specs.declared.value.Value.TheVariants as value
use Rattle.gm_feature.specs.Shape.{has_shape}

-- no 0x00
abbrev pub is_no_zero : ℕ → Bool
is_no_zero byte = not (byte == null_byte)

-- the most bytes of a text
abbrev pub text_limit : ℕ
text_limit = 1048576

-- 1 to 1,048,576 bytes, none of them 0x00
abbrev pub has_text_form : List ℕ → Bool
has_text_form bytes =
    (nat_le 1 (length bytes) && nat_le (length bytes) text_limit) && list_all is_no_zero bytes

-- from -limit to limit - 1
abbrev pub is_below : ℕ → ℤ → Bool
is_below limit (pos n) = nat_lt n limit
is_below limit (negsuc n) = nat_lt n limit

-- the value is null or of the kind
abbrev pub is_of_kind : Kind → Value → Bool
is_of_kind k value.Null = true
is_of_kind kind.Text (value.Text bytes) = true
is_of_kind kind.Integer (value.Integer z) = true
is_of_kind kind.Long (value.Long z) = true
is_of_kind kind.Boolean (value.Boolean b) = true
is_of_kind kind.Date (value.Date at) = true
is_of_kind (kind.Geo shape) (value.Geo geometry) = has_shape shape geometry
is_of_kind _ _ = false

-- a text is UTF-8 of that form, a number has 32 or 64 bits, a date is an instant, a geometry is
-- kept
abbrev pub is_sound : Value → Bool
is_sound value.Null = true
is_sound (value.Text bytes) = is_utf8 bytes && has_text_form bytes
is_sound (value.Integer z) = is_below (2 ^ 31) z
is_sound (value.Long z) = is_below (2 ^ 63) z
is_sound (value.Boolean b) = true
is_sound (value.Date at) = is_instant at
is_sound (value.Geo geometry) = is_none (fault_of geometry)

-- an attribute of the kind may hold the value
abbrev pub value_fits : Kind → Value → Bool
value_fits k v = is_of_kind k v && is_sound v
