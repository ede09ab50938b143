-- What is seen in place, and the values that it says.
use Rattle.std.proofs.Common.{◌≡◌, ◌≢◌, ℕ, zero, suc, ◌<◌, ◌≤◌, ℤ, true, false, List, [], ◌∷◌}
use Rattle.std.proofs.Common.{◌++◌, length, take, drop, get_or, Option, Some, None, refl, sym}
use Rattle.std.proofs.Common.{ap, subst, ◌∙◌, append-nil, arith, ◌↔◌, Bool}
use Rattle.std.specs.Int.{w64, cast_signed, cast_unsigned}
use Rattle.std.specs.Int.RustNames.{FitsSigned}
use Rattle.std.specs.Option.{ForSome}
use Rattle.std.specs.Prelude.{is_none, if◌then◌else◌}
use Rattle.std.proofs.lemmas.Int.{to_z-of_z}
use Rattle.std.proofs.lemmas.Bool.{and_parts}
use Rattle.gm_calendar.specs.Instant.{is_instant, instant_at}
use Rattle.gm_geom.specs.declared.geometry.Geometry.{Geometry}
use Rattle.gm_geom.specs.declared.geometry.Geometry.TheVariants as geo
use Rattle.gm_geom.specs.declared.point.Point.{Point}
use Rattle.gm_geom.specs.Validity.{fault_of}
use Rattle.gm_types.specs.declared.attribute.Attribute.{Attribute}
use Rattle.gm_types.specs.declared.kind.GeoKind.TheVariants as shape
use Rattle.gm_types.specs.declared.kind.Kind.{Kind}
use Rattle.gm_feature.specs.declared.cursor.StoredValues.{StoredValues}
use Rattle.gm_feature.specs.declared.feature.Feature.{Feature}
use Rattle.gm_feature.specs.declared.stored.Stored.{Stored}
use Rattle.gm_feature.specs.declared.stored.StoredValue.{StoredValue}
use Rattle.gm_feature.specs.declared.value.Value.{Value}
use Rattle.gm_feature.specs.declared.value.Value.TheVariants as value
use Rattle.gm_feature.specs.Feature.{values_fit}
use Rattle.gm_feature.specs.Reader.{made, identifier_from, geometry_from, value_from, values_from}
use Rattle.gm_feature.specs.Writer.{shape_byte, geometry_bytes, values_bytes}
use Rattle.gm_feature.specs.Stored.{IsStored, AreStored, Says, is_point}
use Rattle.gm_feature.specs.Value.{value_fits, is_of_kind, is_sound}
use Rattle.gm_feature.proofs.Contents.{instant_fits, value_again}
use Rattle.gm_feature.proofs.Fields.{made_some}
use Rattle.gm_feature.proofs.Fitting.{kinds}
use Rattle.gm_feature.proofs.Shapes.{geometry_again}
use Rattle.gm_feature.proofs.Wholes.{identifier_again}

-- ---- a value made of what was read

pub made_is : {A B : Type 0} (make : A → B) (o : Option (A × List ℕ)) (w : A)
    → ForSome o (λ y. w ≡ y.0) → (x : B × List ℕ) → made make o ≡ Some x → x.0 ≡ make w
made_is {B = B} make o w h x e =
    let m = made_some make o x e in
    ap (λ (p : B × List ℕ). p.0) (sym m.2) ∙ ap make (sym (h m.0 m.1))

pub made_says : {A : Type 0} (make : A → Value) (o : Option (A × List ℕ)) (s : StoredValue)
    → ForSome o (λ y. Says s (make y.0)) → (x : Value × List ℕ) → made make o ≡ Some x → Says s x.0
made_says make o s h x e =
    let m = made_some make o x e in
    subst (λ (p : Value × List ℕ). Says s p.0) m.2 (h m.0 m.1)

-- ---- instants

pub instant_there : (ms z : ℤ) → ms ≡ z → is_instant z ≡ true → instant_at ms ≡ Some z
instant_there ms z same is = ap instant_at same ∙ ap (λ b. if b then Some z else None) is

-- a number is the same where it is read as 64 bits
pub instant_read : (ms z : ℤ) → ms ≡ z → is_instant z ≡ true
    → instant_at (cast_signed w64 (cast_unsigned w64 ms)) ≡ Some z
instant_read ms z same is =
    let fits : FitsSigned w64 ms = subst (FitsSigned w64) (sym same) (instant_fits z is) in
    instant_there (cast_signed w64 (cast_unsigned w64 ms)) z (to_z-of_z w64 ms fits ∙ same) is

-- ---- geometries

pub not_point : (g : Geometry) → shape_byte g ≢ 1 → is_point g ≡ false
not_point (geo.Point p) differ = absurd (differ refl)
not_point (geo.Line p) differ = refl
not_point (geo.Area p) differ = refl
not_point (geo.ManyPoints p) differ = refl
not_point (geo.ManyLines p) differ = refl
not_point (geo.ManyAreas p) differ = refl

pub first_byte : (bytes rest : List ℕ) (g : Geometry) → bytes ≡ geometry_bytes g ++ rest
    → get_or bytes 0 0 ≡ shape_byte g
first_byte bytes rest g e = ap (λ (b : List ℕ). get_or b 0 0) e

-- a geometry that is kept is read of its own bytes
pub whole_again : (g : Geometry) (bytes : List ℕ) → fault_of g ≡ None → bytes ≡ geometry_bytes g
    → geometry_from shape.Any bytes ≡ Some (g, [])
whole_again g bytes fine is =
    ap (geometry_from shape.Any) (is ∙ sym (append-nil (geometry_bytes g)))
    ∙ geometry_again shape.Any g [] (ap is_none fine)

-- ---- features

-- the values before a place are read, and those from there on are left
pub values_before : (attributes : List Attribute) (values : List Value) (n : ℕ)
    → values_fit (kinds attributes) values ≡ true
    → values_from (kinds (take n attributes)) (values_bytes values)
    ≡ Some (take n values, values_bytes (drop n values))
unfolding values_from
values_before attributes values zero fit = refl
values_before [] [] (suc n) fit = refl
values_before [] (v ∷ values) (suc n) fit = absurd cc
values_before (a ∷ attributes) [] (suc n) fit = absurd cc
values_before (a ∷ attributes) (v ∷ values) (suc n) fit =
    let parts = and_parts (value_fits a.kind v) (values_fit (kinds attributes) values) fit in
    rw (
      value_again a.kind v (values_bytes values) parts.0,
      values_before attributes values n parts.1,
    ) refl

-- the value in a place is read of what is left there
pub value_there : (attributes : List Attribute) (values : List Value) (n : ℕ) (d : Attribute)
    → n < length attributes → values_fit (kinds attributes) values ≡ true
    → value_from (get_or attributes n d).kind (values_bytes (drop n values))
    ≡ Some (get_or values n value.Null, values_bytes (drop (suc n) values))
value_there [] values n d lt fit = absurd (omega arith)
value_there (a ∷ attributes) [] n d lt fit = absurd cc
value_there (a ∷ attributes) (v ∷ values) zero d lt fit =
    value_again a.kind v (values_bytes values)
    (and_parts (value_fits a.kind v) (values_fit (kinds attributes) values) fit).0
value_there (a ∷ attributes) (v ∷ values) (suc n) d lt fit =
    value_there attributes values n d (omega arith)
    (and_parts (value_fits a.kind v) (values_fit (kinds attributes) values) fit).1

-- whether the value in a place is null is told of what is left there
pub null_there : (attributes : List Attribute) (values : List Value) (n : ℕ) (told : Bool)
    → n < length attributes → values_fit (kinds attributes) values ≡ true
    → ((k : Kind) → ForSome (value_from k (values_bytes (drop n values)))
    (λ x. (told ≡ true) ↔ (x.0 ≡ value.Null)))
    → (told ≡ true) ↔ (get_or values n value.Null ≡ value.Null)
null_there [] values n told lt fit tells = absurd (omega arith)
null_there (a ∷ attributes) values n told lt fit tells =
    tells (get_or (a ∷ attributes) n a).kind
    (get_or values n value.Null, values_bytes (drop (suc n) values))
    (value_there (a ∷ attributes) values n a lt fit)

-- there is no value in a place behind the attributes
pub no_value_there : (attributes : List Attribute) (values : List Value) (n : ℕ)
    → length attributes ≤ n → values_fit (kinds attributes) values ≡ true
    → get_or values n value.Null ≡ value.Null
no_value_there [] [] n le fit = refl
no_value_there [] (v ∷ values) n le fit = absurd cc
no_value_there (a ∷ attributes) [] n le fit = absurd cc
no_value_there (a ∷ attributes) (v ∷ values) zero le fit = absurd (omega arith)
no_value_there (a ∷ attributes) (v ∷ values) (suc n) le fit =
    no_value_there attributes values n (omega arith)
    (and_parts (value_fits a.kind v) (values_fit (kinds attributes) values) fit).1

-- the identifier is read of the bytes of a feature that fits
pub stored_identifier : (s : Stored) (f : Feature) → IsStored s f
    → identifier_from s.bytes.now ≡ Some (f.id, values_bytes f.values)
stored_identifier s f is =
    ap identifier_from is.same ∙ identifier_again f.id (values_bytes f.values) is.fits.identifier

-- the first of the values that are left is read, and the others are left
pub first_read : (s : StoredValues) (a : Attribute) (rest : List Attribute) (first : Value)
    (others : List Value) → s.attributes.now ≡ a ∷ rest → AreStored s (first ∷ others)
    → (value_from a.kind s.bytes.now ≡ Some (first, values_bytes others)) × (is_sound first ≡ true)
    × (values_fit (kinds rest) others ≡ true)
first_read s a rest first others list is =
    let fit : values_fit (kinds (a ∷ rest)) (first ∷ others) ≡ true =
    subst (λ (attributes : List Attribute). values_fit (kinds attributes) (first ∷ others)
    ≡ true) list is.fit in
    let parts = and_parts (value_fits a.kind first) (values_fit (kinds rest) others) fit in (
      ap (value_from a.kind) is.same ∙ value_again a.kind first (values_bytes others) parts.0,
      (and_parts (is_of_kind a.kind first) (is_sound first) parts.0).1,
      parts.1,
    )

-- there are no more values than attributes
pub no_first : (s : StoredValues) (first : Value) (others : List Value)
    → length s.attributes.now ≡ 0 → AreStored s (first ∷ others) → ⊥
no_first s first others none is = go s.attributes.now none is.fit
  where
    go : (attributes : List Attribute) → length attributes ≡ 0
        → values_fit (kinds attributes) (first ∷ others) ≡ true → ⊥
    go [] none fit = absurd cc
    go (a ∷ attributes) none fit = absurd (omega (arith, none))
