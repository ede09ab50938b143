-- Reading bytes from left to right: what they spell, and the bytes after it.
use Rattle.std.specs.Prelude.{◌≡◌, ℕ, zero, suc, ◌*◌, ℤ, Bool, true, false, ◌&&◌, ◌==◌, nat_lt}
use Rattle.std.specs.Prelude.{if◌then◌else◌, List, [], ◌∷◌, length, take, drop, Option, Some, None}
use Rattle.std.specs.Prelude.{is_none, Result, Ok, Err}
use Rattle.std.specs.Int.{Width, w16, w32, w64, byte_len, from_be_bytes, cast_signed}
use Rattle.std.specs.Str.{is_utf8}
use Rattle.gm_base.specs.Identifier.{is_identifier}
use Rattle.gm_calendar.specs.Instant.{is_instant}
use Rattle.gm_geom.specs.declared.geometry.Geometry.{Geometry}
use Rattle.gm_geom.specs.declared.geometry.Geometry.TheVariants as geo
use Rattle.gm_geom.specs.declared.point.Point.{Point}
use Rattle.gm_geom.specs.Validity.{fault_of}
use Rattle.gm_types.specs.declared.kind.GeoKind.{GeoKind}
use Rattle.gm_types.specs.declared.kind.Kind.{Kind}
use Rattle.gm_types.specs.declared.kind.Kind.TheVariants as kind
use Rattle.gm_types.specs.Specification.{Specification, kinds_of}
use Rattle.gm_feature.specs.declared.feature.Feature.{Feature}
use Rattle.gm_feature.specs.declared.halt.Halt.{Halt}
use Rattle.gm_feature.specs.declared.halt.Halt.TheVariants.{Refused, NoMemory}
use Rattle.gm_feature.specs.declared.value.Value.{Value}
use Rattle.gm_feature.specs.declared.value.Value.TheVariants as value
use Rattle.gm_feature.specs.Feature.{dates_fit}
use Rattle.gm_feature.specs.Shape.{has_shape}
use Rattle.gm_feature.specs.Value.{has_text_form}

infixl 10 ◌>>=◌
abbrev pub ◌>>=◌ : {A B : Type 0} → Option A → (A → Option B) → Option B
(Some x) >>= f = f x
None >>= f = None

-- what a front of some bytes spells, if it spells anything, and the bytes behind it
abbrev pub Reader : Type 0 → Type 0
Reader X = List ℕ → Option (X × List ℕ)

-- the value, where it passes the test
abbrev pub only_if : {A : Type 0} → Bool → A → Option A
only_if true x = Some x
only_if false x = None

-- a number, where there are bytes for it
abbrev pub number_from : Width → Reader ℕ
number_from w bytes =
    if nat_lt (length bytes) (byte_len w) then None
    else Some (from_be_bytes w (take (byte_len w) bytes), drop (byte_len w) bytes)

unfoldable pub signed_from : Width → Reader ℤ
signed_from w bytes = do
  n ← number_from w bytes
  Some (cast_signed w n.0, n.1)

-- a length, and that many bytes
unfoldable pub string_from : Width → Reader (List ℕ)
string_from w bytes = do
  n ← number_from w bytes
  if nat_lt (length n.1) n.0 then None else Some (take n.0 n.1, drop n.0 n.1)

unfoldable pub point_from : Reader Point
point_from bytes = do
  x ← signed_from w32 bytes
  y ← signed_from w32 x.1
  Some (record { x = x.0; y = y.0 }, y.1)

-- that many members, one after the other
abbrev pub members_from : {X : Type 0} → Reader X → ℕ → Reader (List X)
members_from read zero bytes = Some ([], bytes)
members_from read (suc n) bytes = do
  first ← read bytes
  others ← members_from read n first.1
  Some (first.0 ∷ others.0, others.1)

-- a count of members, where there are as many bytes as these have at the least
unfoldable pub count_from : ℕ → Reader ℕ
count_from least bytes = do
  n ← number_from w32 bytes
  if nat_lt (length n.1) (n.0 * least) then None else Some n

-- a count, and its members
abbrev pub list_from : {X : Type 0} → ℕ → Reader X → Reader (List X)
list_from least read bytes = do
  n ← count_from least bytes
  members_from read n.0 n.1

-- a point has eight bytes, and a list at least the four of its count
unfoldable pub points_from : Reader (List Point)
points_from bytes = list_from 8 point_from bytes

unfoldable pub lines_from : Reader (List (List Point))
lines_from bytes = list_from 4 points_from bytes

unfoldable pub areas_from : Reader (List (List (List Point)))
areas_from bytes = list_from 4 lines_from bytes

-- what was read, made into another value
abbrev pub made : {A B : Type 0} → (A → B) → Option (A × List ℕ) → Option (B × List ℕ)
made make None = None
made make (Some x) = Some (make x.0, x.1)

-- the lists of a geometry, by the byte of its kind
unfoldable pub body_from : ℕ → Reader Geometry
body_from tag bytes =
    if tag == 1 then made (λ p. geo.Point p) (point_from bytes)
    else if tag == 2 then made (λ p. geo.Line p) (points_from bytes)
    else if tag == 3 then made (λ p. geo.Area p) (lines_from bytes)
    else if tag == 4 then made (λ p. geo.ManyPoints p) (points_from bytes)
    else if tag == 5 then made (λ p. geo.ManyLines p) (lines_from bytes)
    else if tag == 6 then made (λ p. geo.ManyAreas p) (areas_from bytes)
    else None

-- a geometry that is kept, and that an attribute of the kind may hold
unfoldable pub geometry_from : GeoKind → Reader Geometry
geometry_from shape [] = None
geometry_from shape (tag ∷ bytes) = do
  g ← body_from tag bytes
  only_if (has_shape shape g.0 && is_none (fault_of g.0)) g

unfoldable pub text_from : Reader (List ℕ)
text_from bytes = do
  t ← string_from w32 bytes
  only_if (is_utf8 t.0 && has_text_form t.0) t

unfoldable pub truth_from : Reader Bool
truth_from [] = None
truth_from (zero ∷ bytes) = Some (false, bytes)
truth_from (suc zero ∷ bytes) = Some (true, bytes)
truth_from (suc (suc byte) ∷ bytes) = None

unfoldable pub instant_from : Reader ℤ
instant_from bytes = do
  n ← signed_from w64 bytes
  only_if (is_instant n.0) n

-- a value that is not null
abbrev pub content_from : Kind → Reader Value
content_from kind.Text bytes = made (λ t. value.Text t) (text_from bytes)
content_from kind.Integer bytes = made (λ z. value.Integer z) (signed_from w32 bytes)
content_from kind.Long bytes = made (λ z. value.Long z) (signed_from w64 bytes)
content_from kind.Boolean bytes = made (λ b. value.Boolean b) (truth_from bytes)
content_from kind.Date bytes = made (λ at. value.Date at) (instant_from bytes)
content_from (kind.Geo shape) bytes = made (λ g. value.Geo g) (geometry_from shape bytes)

unfoldable pub value_from : Kind → Reader Value
value_from k [] = None
value_from k (zero ∷ bytes) = Some (value.Null, bytes)
value_from k (suc zero ∷ bytes) = content_from k bytes
value_from k (suc (suc byte) ∷ bytes) = None

unfoldable pub values_from : List Kind → Reader (List Value)
values_from [] bytes = Some ([], bytes)
values_from (k ∷ kinds) bytes = do
  first ← value_from k bytes
  others ← values_from kinds first.1
  Some (first.0 ∷ others.0, others.1)

unfoldable pub identifier_from : Reader (List ℕ)
identifier_from bytes = do
  id ← string_from w16 bytes
  only_if (is_identifier id.0) id

-- the feature of the type that all of the bytes spell
unfoldable pub feature_from : Specification → List ℕ → Option Feature
feature_from t bytes = do
  id ← identifier_from bytes
  values ← values_from (kinds_of t) id.1
  only_if ((length values.1 == 0) && dates_fit t values.0) (record { id = id.0; values = values.0 })

-- what a reader answered, seen by view, is what reading gives, unless there was no memory
abbrev pub Stops : {Y : Type 0} → Halt → Option Y → Type 0
Stops NoMemory read = Unit {0}
Stops Refused read = read ≡ None

abbrev pub Gives : {X Y : Type 0} → (X → Y) → Result X Halt → Option Y → Type 0
Gives view (Ok x) read = read ≡ Some (view x)
Gives view (Err halt) read = Stops halt read
