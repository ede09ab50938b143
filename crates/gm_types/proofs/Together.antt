-- What a type's indexes rest on is there.
use Rattle.std.proofs.Common.{◌≡◌, ◌<◌, ℕ, Bool, true, false, ◌&&◌, List, length, Option, Some}
use Rattle.std.proofs.Common.{None, refl, sym, ◌∙◌, ap, subst}
use Rattle.std.specs.Prelude.{not, codes, slice_get, is_some, option_map, option_and_then}
use Rattle.std.proofs.lemmas.Bool.{and_parts, not-true}
use Rattle.std.proofs.lemmas.List.{length-map}
use Rattle.std.proofs.lemmas.Option.{slice_get_within, slice_get-map}
use Rattle.gm_types.specs.declared.attribute.Attribute.{Attribute}
use Rattle.gm_types.specs.declared.kind.GeoKind.{GeoKind}
use Rattle.gm_types.specs.declared.kind.GeoKind.TheVariants as shape
use Rattle.gm_types.specs.declared.kind.Kind.{Kind}
use Rattle.gm_types.specs.declared.kind.Kind.TheVariants.{Text, Integer, Long, Boolean, Date, Geo}
use Rattle.gm_types.specs.Attribute.{is_described, is_indexed, is_high, asks_index}
use Rattle.gm_types.specs.FeatureType.{IsType, HoldsTogether, IsGeometryAt, IsDateAt, IsIndexedAt}
use Rattle.gm_types.specs.FeatureType.{is_geometry_kind, is_date_kind, is_met, is_read}
use Rattle.gm_types.specs.FeatureType.{are_index_words, has_time_settings, has_size_settings}
use Rattle.gm_types.specs.FeatureType.{has_settings, is_date_name, is_default_geometry}
use Rattle.gm_types.specs.FeatureType.{is_attribute, same_bool, IsValid}
use Rattle.gm_types.specs.Index.{lists_word, listed_of, is_point_shape, is_other_shape}
use Rattle.gm_types.specs.Index.{is_indexed_one, has_date}
use Rattle.gm_types.specs.Kind.{is_date, is_geometry, shape_of}
use Rattle.gm_types.specs.Specification.{Specification, kinds_of, kind_at, default_geometry_of}
use Rattle.gm_types.specs.Specification.{default_shape_of, default_date_of, date_named, setting_of}
use Rattle.gm_types.specs.Specification.{period_from}
use Rattle.gm_types.proofs.Lists.{all_at, found_at}

-- a kind in a place is that of an attribute
within : (t : Specification) (place : ℕ) (kind : Kind) → kind_at t place ≡ Some kind
    → place < length t.attributes
within t place kind e = simp length-map at (slice_get_within (kinds_of t) place kind e)

geometry_kind : (kind : Option Kind) → is_geometry_kind kind ≡ true
    → (g : GeoKind) × (kind ≡ Some (Geo g))
geometry_kind None e = absurd (cc)
geometry_kind (Some Text) e = absurd (cc)
geometry_kind (Some Integer) e = absurd (cc)
geometry_kind (Some Long) e = absurd (cc)
geometry_kind (Some Boolean) e = absurd (cc)
geometry_kind (Some Date) e = absurd (cc)
geometry_kind (Some (Geo g)) e = (g, refl)

date_kind : (kind : Option Kind) → is_date_kind kind ≡ true → kind ≡ Some Date
date_kind None e = absurd (cc)
date_kind (Some Text) e = absurd (cc)
date_kind (Some Integer) e = absurd (cc)
date_kind (Some Long) e = absurd (cc)
date_kind (Some Boolean) e = absurd (cc)
date_kind (Some Date) e = refl
date_kind (Some (Geo g)) e = absurd (cc)

geometry_at : (t : Specification) (place : ℕ) → default_geometry_of t ≡ Some place
    → is_geometry_kind (kind_at t place) ≡ true → IsGeometryAt t place
geometry_at t place e h =
    let kind = geometry_kind (kind_at t place) h in
    let shaped : default_shape_of t ≡ Some kind.0 =
    ap (λ o. option_and_then shape_of (option_and_then (kind_at t) o)) e
    ∙ ap (option_and_then shape_of) kind.1 in
    record {
      within = within t place (Geo kind.0) kind.1;
      shaped = ap is_some shaped;
      kind = kind.1 ∙ ap (option_map Geo) (sym shaped);
    }

date_at : (t : Specification) (place : ℕ) → is_date_kind (kind_at t place) ≡ true → IsDateAt t place
date_at t place h =
    let kind = date_kind (kind_at t place) h in
    record { within = within t place Date kind; kind = kind }

date_from : (t : Specification) (setting : Option (List ℕ)) (place : ℕ)
    → is_met (is_date_name t) setting ≡ true
    → date_named t setting ≡ Some place → is_date_kind (kind_at t place) ≡ true
date_from t None place met e =
    let found = found_at (λ (a : Attribute). is_date a.kind) t.attributes place e in
    let kind : kind_at t place ≡ Some found.item.kind =
    slice_get-map (λ (a : Attribute). a.kind) t.attributes place
    ∙ ap (option_map (λ (a : Attribute). a.kind)) found.is in
    ap is_date_kind kind ∙ found.passes
date_from t (Some name) place met e =
    subst (λ o. is_date_kind (option_and_then (kind_at t) o) ≡ true) e met

point_shape : (o : Option GeoKind) → is_point_shape o ≡ true → o ≡ Some shape.Point
point_shape None e = absurd (cc)
point_shape (Some shape.Point) e = refl
point_shape (Some shape.LineString) e = absurd (cc)
point_shape (Some shape.Polygon) e = absurd (cc)
point_shape (Some shape.MultiPoint) e = absurd (cc)
point_shape (Some shape.MultiLineString) e = absurd (cc)
point_shape (Some shape.MultiPolygon) e = absurd (cc)
point_shape (Some shape.Any) e = absurd (cc)

-- the parts of three tests
three : (a b c : Bool) → ((a && b) && c) ≡ true → (a ≡ true) × (b ≡ true)
three a b c e = and_parts a b (and_parts (a && b) c e).0

indexed_one : (o : Option Attribute) → is_indexed_one o ≡ true
    → (a : Attribute) × (o ≡ Some a) × (a.indexed ≡ true)
indexed_one None e = absurd (cc)
indexed_one (Some a) e = (a, refl, e)

said : (b c : Bool) → b ≡ true → same_bool b c ≡ true → c ≡ true
said true c e h = h
said false c e h = absurd (cc)

no_geometry : (a : Attribute) → is_attribute a ≡ true → a.indexed ≡ true
    → is_geometry a.kind ≡ false
no_geometry a ok e =
    let parts = and_parts (is_described a.name a.kind a.options)
    (same_bool a.indexed (is_indexed a.kind a.options) && same_bool a.high (is_high a.options))
    ok in
    let told = and_parts (same_bool a.indexed (is_indexed a.kind a.options))
    (same_bool a.high (is_high a.options)) parts.1 in
    let indexed = said a.indexed (is_indexed a.kind a.options) e told.0 in
    not-true (is_geometry a.kind)
    (and_parts (not (is_geometry a.kind)) (asks_index a.options) indexed).0

indexed_at : (t : Specification) (place : ℕ) → IsType t
    → is_indexed_one (slice_get t.attributes place) ≡ true → IsIndexedAt t place
indexed_at t place typed h =
    let one = indexed_one (slice_get t.attributes place) h in
    let kind : kind_at t place ≡ Some one.0.kind =
    slice_get-map (λ (a : Attribute). a.kind) t.attributes place
    ∙ ap (option_map (λ (a : Attribute). a.kind)) one.1 in
    record {
      within = slice_get_within t.attributes place one.0 one.1;
      indexed = h;
      no_geometry = ap is_geometry_kind kind
          ∙ no_geometry one.0
          (all_at is_attribute t.attributes place one.0 typed.valid.attributes one.1) one.2;
    }

date_setting : (t : Specification) → has_settings t ≡ true
    → is_met (is_date_name t) (setting_of t (codes "geomesa.index.dtg")) ≡ true
date_setting t h =
    let times = and_parts (has_time_settings t)
    (has_size_settings t && is_met (are_index_words t) (listed_of t)) h in
    (and_parts (is_read period_from (setting_of t (codes "geomesa.z3.interval")))
    (is_met (is_date_name t) (setting_of t (codes "geomesa.index.dtg"))) times.0).1

-- the default geometry is there
pub record IsThere (t : Specification) (place : ℕ) : Type 0 where
  pub within : place < length t.attributes
  pub geometry : is_geometry_kind (kind_at t place) ≡ true

pub geometry_there : (t : Specification) (place : ℕ) → t.geometry ≡ Some place → IsValid t
    → IsThere t place
geometry_there t place e v =
    let geometry : is_geometry_kind (kind_at t place) ≡ true =
    subst (λ (o : Option ℕ). is_default_geometry t o ≡ true) e v.geometry in
    record { within = (geometry_at t place e geometry).within; geometry = geometry }

pub holds_together : (t : Specification) → IsType t → HoldsTogether t
unfolding default_date_of
holds_together t typed = record {
  geometry = λ place e. geometry_at t place e
      (subst (λ o. is_default_geometry t o ≡ true) e typed.valid.geometry);
  date = λ place e. date_at t place
      (date_from t (setting_of t (codes "geomesa.index.dtg")) place
      (date_setting t typed.valid.settings) e);
  z2 = λ e. point_shape (default_shape_of t)
      (and_parts (is_point_shape (default_shape_of t)) (lists_word t (codes "z2")) e).0;
  z3 = λ e. let parts =
      three (is_point_shape (default_shape_of t)) (has_date t) (lists_word t (codes "z3")) e in
      (point_shape (default_shape_of t) parts.0, parts.1);
  xz2 = λ e. (and_parts (is_other_shape (default_shape_of t)) (lists_word t (codes "xz2")) e).0;
  xz3 = λ e. three (is_other_shape (default_shape_of t)) (has_date t)
      (lists_word t (codes "xz3")) e;
  by_attribute = λ place e. indexed_at t place typed
      (and_parts (is_indexed_one (slice_get t.attributes place)) (lists_word t (codes "attr")) e).0;
}
