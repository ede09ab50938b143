-- The bytes behind a field, told without what stands in it.
use Rattle.std.proofs.Common.{◌≡◌, ℕ, zero, suc, ◌+◌, ◌-◌, ◌*◌, ◌<◌, ◌≤◌, ℤ, Bool, true, false}
use Rattle.std.proofs.Common.{◌&&◌, ltb, List, [], ◌∷◌, length, take, drop, get_or, Option, Some}
use Rattle.std.proofs.Common.{refl, sym, ap, ◌∙◌, length-drop, arith, nat_eq, ◌↔◌}
use Rattle.std.specs.Int.{Width, w16, w32, w64, byte_len, from_be_bytes, cast_signed}
use Rattle.std.specs.Option.{ForSome}
use Rattle.std.specs.Prelude.{◌≢◌, is_none}
use Rattle.std.specs.Str.{is_utf8}
use Rattle.std.proofs.lemmas.Bool.{ltb-false}
use Rattle.std.proofs.lemmas.List.{drop-drop, take_all}
use Rattle.gm_base.specs.Identifier.{is_identifier}
use Rattle.gm_calendar.specs.Instant.{is_instant}
use Rattle.gm_geom.specs.declared.geometry.Geometry.{Geometry}
use Rattle.gm_geom.specs.declared.geometry.Geometry.TheVariants as geo
use Rattle.gm_geom.specs.declared.point.Point.{Point}
use Rattle.gm_geom.specs.Validity.{fault_of}
use Rattle.gm_types.specs.declared.attribute.Attribute.{Attribute}
use Rattle.gm_types.specs.declared.kind.GeoKind.{GeoKind}
use Rattle.gm_types.specs.declared.kind.Kind.{Kind}
use Rattle.gm_types.specs.declared.kind.Kind.TheVariants as kind
use Rattle.gm_feature.specs.declared.value.Value.{Value}
use Rattle.gm_feature.specs.declared.value.Value.TheVariants as value
use Rattle.gm_feature.specs.Reader.{◌>>=◌, only_if, made, number_from, signed_from, string_from}
use Rattle.gm_feature.specs.Reader.{count_from, members_from, point_from, points_from, lines_from}
use Rattle.gm_feature.specs.Reader.{areas_from, body_from, geometry_from, text_from, truth_from}
use Rattle.gm_feature.specs.Reader.{instant_from, content_from, value_from, values_from}
use Rattle.gm_feature.specs.Reader.{identifier_from}
use Rattle.gm_feature.specs.Shape.{has_shape}
use Rattle.gm_feature.specs.Value.{has_text_form}
use Rattle.gm_feature.proofs.Fields.{bind_some, guard_some, only_some, made_some, some_is}
use Rattle.gm_feature.proofs.Fitting.{kinds}
use Rattle.gm_feature.proofs.Loop.{placed, past_end}

-- ---- fields of one size

pub number_sized : (w : Width) (bytes : List ℕ) (x : ℕ × List ℕ) → number_from w bytes ≡ Some x
    → (byte_len w ≤ length bytes) × (drop (byte_len w) bytes ≡ x.1)
number_sized w bytes x e =
    let g = guard_some (ltb (length bytes) (byte_len w))
    (from_be_bytes w (take (byte_len w) bytes), drop (byte_len w) bytes) x e in
    (ltb-false _ _ g.0, ap (λ (p : ℕ × List ℕ). p.1) g.1)

pub signed_sized : (w : Width) (bytes : List ℕ) (x : ℤ × List ℕ) → signed_from w bytes ≡ Some x
    → (byte_len w ≤ length bytes) × (drop (byte_len w) bytes ≡ x.1)
unfolding signed_from
signed_sized w bytes x e =
    let b = bind_some (number_from w bytes) (λ n. Some (cast_signed w n.0, n.1)) x e in
    let n = number_sized w bytes b.0 b.1 in
    (n.0, n.1 ∙ ap (λ (p : ℤ × List ℕ). p.1) (some_is (cast_signed w b.0.0, b.0.1) x b.2))

pub point_sized : (bytes : List ℕ) (x : Point × List ℕ) → point_from bytes ≡ Some x
    → (8 ≤ length bytes) × (drop 8 bytes ≡ x.1)
unfolding point_from
point_sized bytes x e =
    let a = bind_some (signed_from w32 bytes)
    (λ h. signed_from w32 h.1 >>= λ v. Some (record { x = h.0; y = v.0 }, v.1)) x e in
    let b = bind_some (signed_from w32 a.0.1)
    (λ v. Some (record { x = a.0.0; y = v.0 }, v.1)) x a.2 in
    let p = signed_sized w32 bytes a.0 a.1 in
    let q = signed_sized w32 a.0.1 b.0 b.1 in
    let point : Point × List ℕ = (record { x = a.0.0; y = b.0.0 }, b.0.1) in
    let two : drop 8 bytes ≡ b.0.1 = sym (drop-drop 4 4 bytes) ∙ ap (drop 4) p.1 ∙ q.1 in (
      omega (arith, length-drop 4 bytes, ap length p.1, p.0, q.0),
      two
          ∙ ap (λ (p : Point × List ℕ). p.1) (some_is point x b.2),
    )

many_sized : (n : ℕ) (bytes : List ℕ) (x : List Point × List ℕ)
    → members_from point_from n bytes ≡ Some x → (n * 8 ≤ length bytes) × (drop (n * 8) bytes ≡ x.1)
many_sized zero bytes x e =
    (omega arith, ap (λ (p : List Point × List ℕ). p.1) (some_is ([], bytes) x e))
many_sized (suc n) bytes x e =
    let a = bind_some (point_from bytes)
    (λ first. members_from point_from n first.1
    >>= λ others. Some (first.0 ∷ others.0, others.1)) x e in
    let b = bind_some (members_from point_from n a.0.1)
    (λ others. Some (a.0.0 ∷ others.0, others.1)) x a.2 in
    let p = point_sized bytes a.0 a.1 in
    let q = many_sized n a.0.1 b.0 b.1 in
    let all : List Point × List ℕ = (a.0.0 ∷ b.0.0, b.0.1) in
    let k : suc n * 8 ≡ 8 + n * 8 = omega arith in
    let there : drop (suc n * 8) bytes ≡ b.0.1 =
    ap (λ (m : ℕ). drop m bytes) k ∙ sym (drop-drop (n * 8) 8 bytes)
    ∙ ap (drop (n * 8)) p.1 ∙ q.1 in (
      omega (arith, length-drop 8 bytes, ap length p.1, p.0, q.0),
      there
          ∙ ap (λ (p : List Point × List ℕ). p.1) (some_is all x b.2),
    )

-- a list of points: its count, and where it ends
pub record IsCounted (bytes rest : List ℕ) : Type 0 where
  pub count : ℕ × List ℕ
  pub read : count_from 8 bytes ≡ Some count
  pub long : count.0 * 8 ≤ length count.1
  pub ends : drop (count.0 * 8) count.1 ≡ rest

pub points_counted : (bytes : List ℕ) (x : List Point × List ℕ) → points_from bytes ≡ Some x
    → IsCounted bytes x.1
unfolding points_from
points_counted bytes x e =
    let a = bind_some (count_from 8 bytes) (λ n. members_from point_from n.0 n.1) x e in
    let m = many_sized a.0.0 a.0.1 x a.2 in
    record { count = a.0; read = a.1; long = m.0; ends = m.1 }

-- a list: its count, and its members
pub points_read : (bytes : List ℕ) (x : List Point × List ℕ) → points_from bytes ≡ Some x
    → (n : ℕ × List ℕ) × (count_from 8 bytes ≡ Some n) × (members_from point_from n.0 n.1 ≡ Some x)
unfolding points_from
points_read bytes x e = bind_some (count_from 8 bytes) (λ n. members_from point_from n.0 n.1) x e

pub lines_counted : (bytes : List ℕ) (x : List (List Point) × List ℕ) → lines_from bytes ≡ Some x
    → (n : ℕ × List ℕ) × (count_from 4 bytes ≡ Some n) × (members_from points_from n.0 n.1 ≡ Some x)
unfolding lines_from
lines_counted bytes x e = bind_some (count_from 4 bytes) (λ n. members_from points_from n.0 n.1) x e

pub areas_counted : (bytes : List ℕ) (x : List (List (List Point)) × List ℕ)
    → areas_from bytes ≡ Some x
    → (n : ℕ × List ℕ) × (count_from 4 bytes ≡ Some n) × (members_from lines_from n.0 n.1 ≡ Some x)
unfolding areas_from
areas_counted bytes x e = bind_some (count_from 4 bytes) (λ n. members_from lines_from n.0 n.1) x e

-- ---- a loop over members

-- so many members are still read, and the end is behind them
abbrev pub Left : {X : Type 0} → (List ℕ → Option (X × List ℕ)) → ℕ → List ℕ → List ℕ → Type 0
Left {X = X} read n rest end = (ys : List X) × (members_from read n rest ≡ Some (ys, end))

pub left_on : {X : Type 0} (read : List ℕ → Option (X × List ℕ)) (count i : ℕ)
    (rest after end : List ℕ) → i < count → ForSome (read rest) (λ v. after ≡ v.1)
    → Left read (count - i) rest end → Left read (count - (i + 1)) after end
left_on {X = X} read count i rest after end lt step left =
    let k : count - i ≡ suc (count - (i + 1)) = omega arith in
    let e : members_from read (suc (count - (i + 1))) rest ≡ Some (left.0, end) =
    ap (λ (n : ℕ). members_from read n rest) (sym k) ∙ left.1 in
    let a = bind_some (read rest)
    (λ first. members_from read (count - (i + 1)) first.1
    >>= λ others. Some (first.0 ∷ others.0, others.1)) (left.0, end) e in
    let b = bind_some (members_from read (count - (i + 1)) a.0.1)
    (λ others. Some (a.0.0 ∷ others.0, others.1)) (left.0, end) a.2 in
    let all : List X × List ℕ = (a.0.0 ∷ b.0.0, b.0.1) in
    let same : b.0.1 ≡ end = ap (λ (p : List X × List ℕ). p.1) (some_is all (left.0, end) b.2) in (
      b.0.0,
      ap (members_from read (count - (i + 1))) (step a.0 a.1) ∙ b.1
          ∙ ap (λ (r : List ℕ). Some (b.0.0, r)) same,
    )

pub left_done : {X : Type 0} (read : List ℕ → Option (X × List ℕ)) (count i : ℕ) (rest end : List ℕ)
    → count ≤ i → Left read (count - i) rest end → rest ≡ end
left_done {X = X} read count i rest end le left =
    let k : count - i ≡ 0 = omega arith in
    let nothing : List X × List ℕ = ([], rest) in
    let e : members_from read 0 rest ≡ Some (left.0, end) =
    ap (λ (n : ℕ). members_from read n rest) (sym k) ∙ left.1 in
    ap (λ (p : List X × List ℕ). p.1) (some_is nothing (left.0, end) e)

-- ---- a value made of what was read

pub made_leaps : {A B : Type 0} (make : A → B) (o : Option (A × List ℕ)) (r : List ℕ)
    → ForSome o (λ y. r ≡ y.1) → ForSome (made make o) (λ x. r ≡ x.1)
made_leaps {B = B} make o r h x e =
    let m = made_some make o x e in
    h m.0 m.1 ∙ ap (λ (p : B × List ℕ). p.1) m.2

-- the text of a string
pub text_string : (bytes : List ℕ) (x : List ℕ × List ℕ) → text_from bytes ≡ Some x
    → string_from w32 bytes ≡ Some x
unfolding text_from
text_string bytes x e =
    let a = bind_some (string_from w32 bytes)
    (λ t. only_if (is_utf8 t.0 && has_text_form t.0) t) x e in
    a.1 ∙ ap (λ (y : List ℕ × List ℕ). Some y)
    (only_some (is_utf8 a.0.0 && has_text_form a.0.0) a.0 x a.2).1

pub identifier_string : (bytes : List ℕ) (x : List ℕ × List ℕ) → identifier_from bytes ≡ Some x
    → string_from w16 bytes ≡ Some x
unfolding identifier_from
identifier_string bytes x e =
    let a = bind_some (string_from w16 bytes) (λ id. only_if (is_identifier id.0) id) x e in
    a.1 ∙ ap (λ (y : List ℕ × List ℕ). Some y) (only_some (is_identifier a.0.0) a.0 x a.2).1

pub instant_number : (bytes : List ℕ) (x : ℤ × List ℕ) → instant_from bytes ≡ Some x
    → (signed_from w64 bytes ≡ Some x) × (is_instant x.0 ≡ true)
unfolding instant_from
instant_number bytes x e =
    let a = bind_some (signed_from w64 bytes) (λ n. only_if (is_instant n.0) n) x e in
    let o = only_some (is_instant a.0.0) a.0 x a.2 in (
      a.1 ∙ ap (λ (y : ℤ × List ℕ). Some y) o.1,
      ap (λ (y : ℤ × List ℕ). is_instant y.0) (sym o.1) ∙ o.0,
    )

pub geometry_body : (shape : GeoKind) (tag : ℕ) (bytes : List ℕ) (x : Geometry × List ℕ)
    → geometry_from shape (tag ∷ bytes) ≡ Some x
    → (body_from tag bytes ≡ Some x) × ((has_shape shape x.0 && is_none (fault_of x.0)) ≡ true)
unfolding geometry_from
geometry_body shape tag bytes x e =
    let a = bind_some (body_from tag bytes)
    (λ g. only_if (has_shape shape g.0 && is_none (fault_of g.0)) g) x e in
    let o = only_some (has_shape shape a.0.0 && is_none (fault_of a.0.0)) a.0 x a.2 in (
      a.1 ∙ ap (λ (y : Geometry × List ℕ). Some y) o.1,
      ap (λ (y : Geometry × List ℕ). has_shape shape y.0 && is_none (fault_of y.0)) (sym o.1)
          ∙ o.0,
    )

pub truth_sized : (bytes : List ℕ) (x : Bool × List ℕ) → truth_from bytes ≡ Some x
    → (1 ≤ length bytes) × (drop 1 bytes ≡ x.1)
unfolding truth_from
truth_sized [] x e = absurd cc
truth_sized (zero ∷ bytes) x e =
    (omega arith, ap (λ (p : Bool × List ℕ). p.1) (some_is (false, bytes) x e))
truth_sized (suc zero ∷ bytes) x e =
    (omega arith, ap (λ (p : Bool × List ℕ). p.1) (some_is (true, bytes) x e))
truth_sized (suc (suc b) ∷ bytes) x e = absurd cc

-- ---- a loop over the values of attributes

-- the values of the attributes from a place on are still read, and the end is behind them
abbrev pub ValuesLeft : List Attribute → ℕ → List ℕ → List ℕ → Type 0
ValuesLeft attributes i rest end =
    (vs : List Value) × (values_from (drop i (kinds attributes)) rest ≡ Some (vs, end))

pub values_left_on : (attributes : List Attribute) (i : ℕ) (a : Attribute) (rest after end : List ℕ)
    → i < length attributes → a ≡ get_or attributes i a
    → ForSome (value_from a.kind rest) (λ v. after ≡ v.1) → ValuesLeft attributes i rest end
    → ValuesLeft attributes (i + 1) after end
unfolding values_from
values_left_on attributes i a rest after end lt is step left =
    let e : values_from (a.kind ∷ drop (suc i) (kinds attributes)) rest ≡ Some (left.0, end) =
    ap (λ ks. values_from ks rest) (sym (placed attributes i a lt is)) ∙ left.1 in
    let ks = drop (suc i) (kinds attributes) in
    let p = bind_some (value_from a.kind rest)
    (λ first. values_from ks first.1 >>= λ others. Some (first.0 ∷ others.0, others.1))
    (left.0, end) e in
    let q = bind_some (values_from ks p.0.1) (λ others. Some (p.0.0 ∷ others.0, others.1))
    (left.0, end) p.2 in
    let all : List Value × List ℕ = (p.0.0 ∷ q.0.0, q.0.1) in
    let same : q.0.1 ≡ end =
    ap (λ (y : List Value × List ℕ). y.1) (some_is all (left.0, end) q.2) in
    let next : i + 1 ≡ suc i = omega arith in
    rw next (
      q.0.0,
      ap (values_from ks) (step p.0 p.1) ∙ q.1
          ∙ ap (λ (r : List ℕ). Some (q.0.0, r)) same,
    )

pub values_left_done : (attributes : List Attribute) (i : ℕ) (rest end : List ℕ)
    → length attributes ≤ i → ValuesLeft attributes i rest end → rest ≡ end
unfolding values_from
values_left_done attributes i rest end le left =
    let nothing : List Value × List ℕ = ([], rest) in
    let e : values_from [] rest ≡ Some (left.0, end) =
    ap (λ ks. values_from ks rest) (sym (past_end attributes i le)) ∙ left.1 in
    ap (λ (y : List Value × List ℕ). y.1) (some_is nothing (left.0, end) e)

pub left_start : {X : Type 0} (read : List ℕ → Option (X × List ℕ)) (count : ℕ) (bytes : List ℕ)
    (x : List X × List ℕ) → members_from read count bytes ≡ Some x → Left read (count - 0) bytes x.1
left_start read count bytes x e =
    let k : count - 0 ≡ count = omega arith in
    (x.0, ap (λ (n : ℕ). members_from read n bytes) k ∙ e)

-- ---- the first byte

-- the bytes behind the first, as a pattern names them
abbrev pub tail_of : List ℕ → List ℕ
tail_of bytes = take (length bytes - 1) (drop 1 bytes)

tail_is : (byte : ℕ) (bytes : List ℕ) → tail_of (byte ∷ bytes) ≡ bytes
tail_is byte bytes =
    let k : suc (length bytes) - 1 ≡ length bytes = omega arith in
    ap (λ (n : ℕ). take n bytes) k ∙ take_all (length bytes) bytes (omega arith)

pub no_geometry : (shape : GeoKind) (bytes : List ℕ) (x : Geometry × List ℕ) → length bytes < 1
    → geometry_from shape bytes ≡ Some x → ⊥
unfolding geometry_from
no_geometry shape [] x short e = absurd cc
no_geometry shape (byte ∷ bytes) x short e = absurd (omega arith)

pub tagged_body : (shape : GeoKind) (bytes : List ℕ) (x : Geometry × List ℕ) → 1 ≤ length bytes
    → geometry_from shape bytes ≡ Some x
    → (body_from (get_or bytes 0 0) (tail_of bytes) ≡ Some x)
    × ((has_shape shape x.0 && is_none (fault_of x.0)) ≡ true)
tagged_body shape [] x long e = absurd (omega arith)
tagged_body shape (tag ∷ bytes) x long e =
    let b = geometry_body shape tag bytes x e in
    (ap (body_from tag) (tail_is tag bytes) ∙ b.0, b.1)

pub no_value : (k : Kind) (bytes : List ℕ) (x : Value × List ℕ) → length bytes < 1
    → value_from k bytes ≡ Some x → ⊥
unfolding value_from
no_value k [] x short e = absurd cc
no_value k (byte ∷ bytes) x short e = absurd (omega arith)

pub null_value : (k : Kind) (bytes : List ℕ) (x : Value × List ℕ) → 1 ≤ length bytes
    → get_or bytes 0 0 ≡ 0 → value_from k bytes ≡ Some x
    → (x.0 ≡ value.Null) × (tail_of bytes ≡ x.1)
unfolding value_from
null_value k [] x long null e = absurd (omega arith)
null_value k (zero ∷ bytes) x long null e =
    let is = some_is (value.Null, bytes) x e in (
      ap (λ (p : Value × List ℕ). p.0) (sym is),
      tail_is 0 bytes
          ∙ ap (λ (p : Value × List ℕ). p.1) is,
    )
null_value k (suc byte ∷ bytes) x long null e = absurd (omega arith)

pub present_value : (k : Kind) (bytes : List ℕ) (x : Value × List ℕ) → 1 ≤ length bytes
    → get_or bytes 0 0 ≢ 0 → value_from k bytes ≡ Some x → content_from k (tail_of bytes) ≡ Some x
unfolding value_from
present_value k [] x long there e = absurd (omega arith)
present_value k (zero ∷ bytes) x long there e = absurd (there refl)
present_value k (suc zero ∷ bytes) x long there e = ap (content_from k) (tail_is 1 bytes) ∙ e
present_value k (suc (suc byte) ∷ bytes) x long there e = absurd cc

-- ---- null

not_made : {A : Type 0} (make : A → Value) → ((a : A) → make a ≡ value.Null → ⊥)
    → (o : Option (A × List ℕ)) (x : Value × List ℕ) → made make o ≡ Some x
    → x.0 ≡ value.Null → ⊥
not_made make apart o x e null =
    let m = made_some make o x e in
    apart m.0.0 (ap (λ (p : Value × List ℕ). p.0) m.2 ∙ null)

no_null_content : (k : Kind) (bytes : List ℕ) (x : Value × List ℕ) → content_from k bytes ≡ Some x
    → x.0 ≡ value.Null → ⊥
no_null_content kind.Text bytes x e null =
    not_made (λ t. value.Text t) (λ t same. absurd cc) (text_from bytes) x e null
no_null_content kind.Integer bytes x e null =
    not_made (λ z. value.Integer z) (λ z same. absurd cc) (signed_from w32 bytes) x e null
no_null_content kind.Long bytes x e null =
    not_made (λ z. value.Long z) (λ z same. absurd cc) (signed_from w64 bytes) x e null
no_null_content kind.Boolean bytes x e null =
    not_made (λ b. value.Boolean b) (λ b same. absurd cc) (truth_from bytes) x e null
no_null_content kind.Date bytes x e null =
    not_made (λ at. value.Date at) (λ at same. absurd cc) (instant_from bytes) x e null
no_null_content (kind.Geo shape) bytes x e null =
    not_made (λ g. value.Geo g) (λ g same. absurd cc) (geometry_from shape bytes) x e null

-- the first byte of a value that is read tells whether it is null
pub null_tells : (k : Kind) (bytes : List ℕ) (x : Value × List ℕ) → value_from k bytes ≡ Some x
    → (nat_eq (get_or bytes 0 0) 0 ≡ true) ↔ (x.0 ≡ value.Null)
unfolding value_from
null_tells k [] x e = absurd cc
null_tells k (zero ∷ bytes) x e =
    (λ yes. ap (λ (p : Value × List ℕ). p.0) (sym (some_is (value.Null, bytes) x e)), λ null. refl)
null_tells k (suc zero ∷ bytes) x e =
    (λ yes. absurd cc, λ null. absurd (no_null_content k bytes x e null))
null_tells k (suc (suc byte) ∷ bytes) x e = absurd cc

-- ---- the kinds of geometry

pub body_1 : (tag : ℕ) (bytes : List ℕ) → tag ≡ 1
    → body_from tag bytes ≡ made (λ p. geo.Point p) (point_from bytes)
unfolding body_from
body_1 tag bytes is = rw is refl

pub body_2 : (tag : ℕ) (bytes : List ℕ) → tag ≡ 2
    → body_from tag bytes ≡ made (λ p. geo.Line p) (points_from bytes)
unfolding body_from
body_2 tag bytes is = rw is refl

pub body_3 : (tag : ℕ) (bytes : List ℕ) → tag ≡ 3
    → body_from tag bytes ≡ made (λ p. geo.Area p) (lines_from bytes)
unfolding body_from
body_3 tag bytes is = rw is refl

pub body_4 : (tag : ℕ) (bytes : List ℕ) → tag ≡ 4
    → body_from tag bytes ≡ made (λ p. geo.ManyPoints p) (points_from bytes)
unfolding body_from
body_4 tag bytes is = rw is refl

pub body_5 : (tag : ℕ) (bytes : List ℕ) → tag ≡ 5
    → body_from tag bytes ≡ made (λ p. geo.ManyLines p) (lines_from bytes)
unfolding body_from
body_5 tag bytes is = rw is refl

pub body_6 : (tag : ℕ) (bytes : List ℕ) → tag ≡ 6
    → body_from tag bytes ≡ made (λ p. geo.ManyAreas p) (areas_from bytes)
unfolding body_from
body_6 tag bytes is = rw is refl

pub leaps_from : {A : Type 0} (make : A → Geometry) (tag : ℕ) (bytes : List ℕ)
    (o : Option (A × List ℕ)) (r : List ℕ) → body_from tag bytes ≡ made make o
    → ForSome o (λ y. r ≡ y.1) → (x : Geometry × List ℕ) → body_from tag bytes ≡ Some x → r ≡ x.1
leaps_from make tag bytes o r is h x e = made_leaps make o r h x (sym is ∙ e)
