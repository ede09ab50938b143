-- Which features have no key in an index.
use Rattle.std.proofs.Common.{◌≡◌, ℕ, zero, suc, Bool, true, false, not, ◌||◌, List, [], ◌∷◌, ◌++◌}
use Rattle.std.proofs.Common.{get_or, Option, Some, None, is_some, is_none, option_map}
use Rattle.std.proofs.Common.{option_and_then, option_to_list, refl, sym, ap, ◌∙◌}
use Rattle.std.specs.Prelude.{slice_get}
use Rattle.std.specs.List.{list_any}
use Rattle.std.proofs.lemmas.Bool.{and_parts}
use Rattle.gm_base.proofs.Options.{none_is}
use Rattle.gm_base.proofs.Booleans.{or_false}
use Rattle.gm_calendar.specs.Bin.{bin_at}
use Rattle.gm_calendar.specs.declared.bin.Bin.{Bin}
use Rattle.gm_calendar.specs.declared.period.Period.{Period}
use Rattle.gm_geom.specs.declared.geometry.Geometry.{Geometry}
use Rattle.gm_geom.specs.declared.geometry.Geometry.TheVariants as geo
use Rattle.gm_geom.specs.declared.point.Point.{Point}
use Rattle.gm_geom.specs.declared.point.Box2.{Box2}
use Rattle.gm_geom.specs.Extent.{extent_of}
use Rattle.gm_geom.specs.Geometry.{points_of}
use Rattle.gm_geom.specs.Validity.{fault_of}
use Rattle.gm_types.specs.declared.index.IndexKind.{IndexKind}
use Rattle.gm_types.specs.declared.index.IndexKind.TheVariants.{Id, Z2, Z3, Xz2, Xz3, Attr}
use Rattle.gm_types.specs.declared.kind.GeoKind.{GeoKind}
use Rattle.gm_types.specs.declared.kind.GeoKind.TheVariants as shape
use Rattle.gm_types.specs.declared.kind.Kind.{Kind}
use Rattle.gm_types.specs.declared.kind.Kind.TheVariants as kind
use Rattle.gm_types.specs.Kind.{shape_of}
use Rattle.gm_types.specs.FeatureType.{HoldsTogether, is_geometry_kind}
use Rattle.gm_types.specs.Index.{has_index, is_other_shape}
use Rattle.gm_types.specs.Specification.{Specification, kinds_of, kind_at, default_geometry_of}
use Rattle.gm_types.specs.Specification.{default_shape_of, default_date_of, period_of}
use Rattle.gm_feature.specs.declared.feature.Feature.{Feature}
use Rattle.gm_feature.specs.declared.value.Value.{Value}
use Rattle.gm_feature.specs.declared.value.Value.TheVariants as value
use Rattle.gm_feature.specs.Feature.{Fits, values_fit, value_at, has_bin, date_has_bin}
use Rattle.gm_feature.specs.Feature.{has_time_index}
use Rattle.gm_feature.specs.Value.{value_fits}
use Rattle.gm_keys.specs.Whereabouts.{geometry_of, instant_of, point_of, box_of, point_in, box_in}
use Rattle.gm_keys.specs.Whereabouts.{bin_in, is_null, lacks_value}
use Rattle.gm_keys.specs.Key.{form_of, front_of, key_of}

-- what the crates below say of extents, and of the values of a feature that fits
pub record ValueLaws : Type 0 where
  pub extent : (g : Geometry) → fault_of g ≡ None
      → (e : Box2) × (extent_of (points_of g) ≡ Some e)
  pub value : (t : Specification) (f : Feature) (n : ℕ) (k : Kind) → Fits t f
      → kind_at t n ≡ Some k → value_fits k (value_at f n) ≡ true

-- ---- values
point_value : (v : Value) → value_fits (kind.Geo shape.Point) v ≡ true
    → is_none (option_and_then point_of (geometry_of v)) ≡ is_null v
point_value value.Null fit = refl
point_value (value.Geo (geo.Point p)) fit = refl
point_value (value.Geo (geo.Line p)) fit = cc
point_value (value.Geo (geo.Area p)) fit = cc
point_value (value.Geo (geo.ManyPoints p)) fit = cc
point_value (value.Geo (geo.ManyLines p)) fit = cc
point_value (value.Geo (geo.ManyAreas p)) fit = cc
point_value _ fit = cc

box_value : ValueLaws → (s : GeoKind) (v : Value) → value_fits (kind.Geo s) v ≡ true
    → is_none (option_and_then box_of (geometry_of v)) ≡ is_null v
box_value laws s value.Null fit = refl
box_value laws s (value.Geo g) fit =
    ap is_none (laws.extent g (none_is (fault_of g) (and_parts _ _ fit).1)).1
box_value laws s _ fit = cc

some_is : {A : Type 0} (o : Option A) → is_some o ≡ true → is_none o ≡ false
some_is None is = cc
some_is (Some x) is = refl

bin_value : (period : Period) (v : Value) → value_fits kind.Date v ≡ true → has_bin period v ≡ true
    → is_none (option_and_then (bin_at period) (instant_of v)) ≡ is_null v
bin_value period value.Null fit bin = refl
bin_value period (value.Date at) fit bin = some_is (bin_at period at) bin
bin_value period _ fit bin = cc

form_value : (k : Kind) (v : Value) → is_geometry_kind (Some k) ≡ false → value_fits k v ≡ true
    → is_none (form_of v) ≡ is_null v
form_value (kind.Geo s) v plain fit = cc
form_value kind.Text (value.Geo g) plain fit = cc
form_value kind.Integer (value.Geo g) plain fit = cc
form_value kind.Long (value.Geo g) plain fit = cc
form_value kind.Boolean (value.Geo g) plain fit = cc
form_value kind.Date (value.Geo g) plain fit = cc
form_value _ value.Null plain fit = refl
form_value _ _ plain fit = refl

-- by the places of the default geometry and the default date
abbrev point_by : Feature → Option ℕ → Option Point
point_by f place =
    option_and_then point_of (option_and_then (λ n. geometry_of (value_at f n)) place)

abbrev box_by : Feature → Option ℕ → Option Box2
box_by f place = option_and_then box_of (option_and_then (λ n. geometry_of (value_at f n)) place)

abbrev bin_by : Period → Feature → Option ℕ → Option Bin
bin_by period f place =
    option_and_then (bin_at period) (option_and_then (λ n. instant_of (value_at f n)) place)

abbrev lacks_at : Feature → Option ℕ → Bool
lacks_at f place = list_any (λ n. is_null (value_at f n)) (option_to_list place)

no_shape : (s : GeoKind) → ◌≡◌ {A = Option GeoKind} (Some s) None → ⊥
no_shape s same = cc

-- a default geometry of that shape
record HasShape (t : Specification) (s : GeoKind) : Type 0 where
  place : ℕ
  at : default_geometry_of t ≡ Some place
  kind_is : kind_at t place ≡ Some (kind.Geo s)

shape_at : (t : Specification) (s : GeoKind) → HoldsTogether t → default_shape_of t ≡ Some s
    → HasShape t s
shape_at t s holds is =
    elim (default_geometry_of t) as (λ g. default_geometry_of t ≡ g → HasShape t s) [
      | None ↦ λ none. absurd
          (no_shape s (sym is
          ∙ ap (λ g. option_and_then shape_of (option_and_then (kind_at t) g)) none))
      | Some place ↦
          λ at. record {
            place = place;
            at = at;
            kind_is = (holds.geometry place at).kind ∙ ap (option_map (λ x. kind.Geo x)) is;
          }
    ] refl

-- the shape of a default geometry that is no point
other_shape : (t : Specification) → is_other_shape (default_shape_of t) ≡ true
    → (s : GeoKind) × (default_shape_of t ≡ Some s)
other_shape t other = by (default_shape_of t) other
  where
    by : (o : Option GeoKind) → is_other_shape o ≡ true → (s : GeoKind) × (o ≡ Some s)
    by None is = cc
    by (Some s) is = (s, refl)

point_missing : ValueLaws → (t : Specification) (f : Feature) → HasShape t shape.Point → Fits t f
    → is_none (point_in t f) ≡ lacks_at f (default_geometry_of t)
point_missing laws t f has fits =
    ap (λ g. is_none (point_by f g)) has.at
    ∙ point_value (value_at f has.place)
    (laws.value t f has.place (kind.Geo shape.Point) fits has.kind_is)
    ∙ or_false (is_null (value_at f has.place)) ∙ ap (lacks_at f) (sym has.at)

box_missing : ValueLaws → (t : Specification) (f : Feature) (s : GeoKind) → HasShape t s
    → Fits t f → is_none (box_in t f) ≡ lacks_at f (default_geometry_of t)
box_missing laws t f s has fits =
    ap (λ g. is_none (box_by f g)) has.at
    ∙ box_value laws s (value_at f has.place)
    (laws.value t f has.place (kind.Geo s) fits has.kind_is)
    ∙ or_false (is_null (value_at f has.place)) ∙ ap (lacks_at f) (sym has.at)

when_time : (a b : Bool) → (not a || b) ≡ true → a ≡ true → b ≡ true
when_time true b either is = either
when_time false b either is = cc

bin_missing : ValueLaws → (t : Specification) (f : Feature) → HoldsTogether t
    → is_some (default_date_of t) ≡ true → has_time_index t ≡ true → Fits t f
    → is_none (bin_in t f) ≡ lacks_at f (default_date_of t)
bin_missing laws t f holds some timed fits =
    elim (default_date_of t) as
    (λ d. default_date_of t ≡ d → is_some d ≡ true
    → is_none (bin_in t f) ≡ lacks_at f (default_date_of t)) [
      | None ↦ λ _ none. cc
      | Some place ↦ λ at _.
          let bin : has_bin (period_of t) (value_at f place) ≡ true =
          sym (ap (λ d. date_has_bin (period_of t) d f.values) at)
          ∙ when_time (has_time_index t)
          (date_has_bin (period_of t) (default_date_of t) f.values) fits.date timed in
          ap (λ d. is_none (bin_by (period_of t) f d)) at
          ∙ bin_value (period_of t) (value_at f place)
          (laws.value t f place kind.Date fits (holds.date place at).kind) bin
          ∙ or_false (is_null (value_at f place)) ∙ ap (lacks_at f) (sym at)
    ] refl some

-- ---- keys
map_none : {A B : Type 0} (g : A → B) (o : Option A) → is_none (option_map g o) ≡ is_none o
map_none g None = refl
map_none g (Some x) = refl

then_none : {A B : Type 0} (g : A → Option B) (o : Option A) (b : Bool)
    → ((x : A) → is_none (g x) ≡ b) → is_none (option_and_then g o) ≡ (is_none o || b)
then_none g None b each = refl
then_none g (Some x) b each = each x

any_append : (f : Feature) (one other : Option ℕ)
    → list_any (λ n. is_null (value_at f n)) (option_to_list one ++ option_to_list other)
    ≡ (lacks_at f one || lacks_at f other)
any_append f None other = refl
any_append f (Some n) other =
    elim (is_null (value_at f n)) as
    (λ b. (b || lacks_at f other) ≡ ((b || false) || lacks_at f other))
    [ true ↦ refl | false ↦ refl ]

either_true : (a b : Bool) → b ≡ true → (a || b) ≡ true
either_true true b is = refl
either_true false b is = is

first_true : (a b : Bool) → a ≡ true → (a || b) ≡ true
first_true a b is = ap (λ t. t || b) is

pub missing : ValueLaws → (t : Specification) (k : IndexKind) (f : Feature) → HoldsTogether t
    → Fits t f → has_index t k ≡ true → is_none (key_of t k f) ≡ lacks_value t k f
unfolding front_of
missing laws t Id f holds fits has = refl
missing laws t Z2 f holds fits has =
    map_none (λ front. front ++ f.id) (front_of t Z2 f) ∙ map_none _ (point_in t f)
    ∙ point_missing laws t f (shape_at t shape.Point holds (holds.z2 has)) fits
missing laws t Z3 f holds fits has =
    map_none (λ front. front ++ f.id) (front_of t Z3 f)
    ∙ then_none _ (point_in t f) (is_none (bin_in t f)) (λ p. map_none _ (bin_in t f))
    ∙ (λ i. point_missing laws t f (shape_at t shape.Point holds (holds.z3 has).0) fits i
    || bin_missing laws t f holds (holds.z3 has).1
    (first_true (has_index t Z3) (has_index t Xz3) has) fits i)
    ∙ sym (any_append f (default_geometry_of t) (default_date_of t))
missing laws t Xz2 f holds fits has =
    let other = other_shape t (holds.xz2 has) in
    map_none (λ front. front ++ f.id) (front_of t Xz2 f) ∙ map_none _ (box_in t f)
    ∙ box_missing laws t f other.0 (shape_at t other.0 holds other.1) fits
missing laws t Xz3 f holds fits has =
    let other = other_shape t (holds.xz3 has).0 in
    map_none (λ front. front ++ f.id) (front_of t Xz3 f)
    ∙ then_none _ (box_in t f) (is_none (bin_in t f)) (λ b. map_none _ (bin_in t f))
    ∙ (λ i. box_missing laws t f other.0 (shape_at t other.0 holds other.1) fits i
    || bin_missing laws t f holds (holds.xz3 has).1
    (either_true (has_index t Z3) (has_index t Xz3) has) fits i)
    ∙ sym (any_append f (default_geometry_of t) (default_date_of t))
missing laws t (Attr n) f holds fits has =
    let indexed = holds.by_attribute n has in
    map_none (λ front. front ++ f.id) (front_of t (Attr n) f) ∙ map_none _ (form_of (value_at f n))
    ∙ value_missing (kind_at t n) refl indexed.no_geometry ∙ or_false (is_null (value_at f n))
  where
    value_missing : (k : Option Kind) → kind_at t n ≡ k → is_geometry_kind k ≡ false
        → is_none (form_of (value_at f n)) ≡ is_null (value_at f n)
    value_missing None at plain = past (kinds_of t) f.values n fits.each at
      where
        past : (kinds : List Kind) (values : List Value) (n : ℕ) → values_fit kinds values ≡ true
            → slice_get kinds n ≡ None
            → is_none (form_of (get_or values n value.Null)) ≡ is_null (get_or values n value.Null)
        past kinds [] n fit at = refl
        past [] (v ∷ values) n fit at = cc
        past (k ∷ kinds) (v ∷ values) zero fit at = cc
        past (k ∷ kinds) (v ∷ values) (suc n) fit at = past kinds values n (and_parts _ _ fit).1 at
    value_missing (Some k) at plain =
        form_value k (value_at f n) plain (laws.value t f n k fits at)
