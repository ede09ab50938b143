-- How many bytes fitting features have.
use Rattle.std.proofs.Common.{◌≡◌, ℕ, ◌+◌, ◌*◌, ◌^◌, ◌<◌, ◌≤◌, true, false, ◌&&◌, List, [], ◌∷◌}
use Rattle.std.proofs.Common.{length, None, refl, length-append, arith}
use Rattle.std.proofs.lemmas.List.{length-map}
use Rattle.std.specs.Prelude.{nat_le}
use Rattle.std.specs.Int.{w32, to_be_bytes}
use Rattle.std.specs.List.{flat_map, list_all, list_any}
use Rattle.std.specs.Str.{is_utf8}
use Rattle.std.proofs.lemmas.Bool.{leb-true, and_parts}
use Rattle.gm_base.proofs.Options.{none_is}
use Rattle.gm_base.proofs.Booleans.{neither_of}
use Rattle.gm_geom.specs.declared.geometry.Geometry.{Geometry}
use Rattle.gm_geom.specs.declared.geometry.Geometry.TheVariants as geo
use Rattle.gm_geom.specs.declared.point.Point.{Point}
use Rattle.gm_geom.specs.Geometry.{joined}
use Rattle.gm_geom.specs.Validity.{fault_of, is_empty, is_hollow}
use Rattle.gm_types.specs.declared.kind.Kind.{Kind}
use Rattle.gm_types.specs.FeatureType.{IsType}
use Rattle.gm_types.specs.Specification.{Specification, kinds_of}
use Rattle.gm_feature.specs.declared.feature.Feature.{Feature}
use Rattle.gm_feature.specs.declared.value.Value.{Value}
use Rattle.gm_feature.specs.declared.value.Value.TheVariants as value
use Rattle.gm_feature.specs.Feature.{Fits, values_fit}
use Rattle.gm_feature.specs.Writer.{point_bytes, points_bytes, lines_bytes, body_bytes}
use Rattle.gm_feature.specs.Writer.{value_bytes, values_bytes, feature_bytes}
use Rattle.gm_feature.specs.Value.{is_no_zero, has_text_form, is_of_kind, is_sound, value_fits}
use Rattle.gm_feature.proofs.Kept.{kept, no_more_lists, few_in_two, length-joined}
use Rattle.gm_feature.proofs.Wholes.{short_identifier}

size_of_points : (points : List Point) → length (flat_map point_bytes points) ≡ 8 * length points
size_of_points [] = refl
size_of_points (p ∷ points) =
    let later = size_of_points points in
    omega (arith, length-append (point_bytes p) (flat_map point_bytes points))

size_of_lines : (lines : List (List Point))
    → length (flat_map points_bytes lines) ≡ 4 * length lines + 8 * length (joined lines)
size_of_lines [] = refl
size_of_lines (points ∷ lines) =
    let here = size_of_points points in
    let later = size_of_lines lines in
    omega (
      arith,
      length-append (points_bytes points) (flat_map points_bytes lines),
      length-append (to_be_bytes w32 (length points)) (flat_map point_bytes points),
      length-append points (joined lines),
    )

size_of_areas : (areas : List (List (List Point)))
    → length (flat_map lines_bytes areas)
    ≡ 4 * length areas + 4 * length (joined areas) + 8 * length (joined (joined areas))
size_of_areas [] = refl
size_of_areas (rings ∷ areas) =
    let here = size_of_lines rings in
    let later = size_of_areas areas in
    omega (
      arith,
      length-append (lines_bytes rings) (flat_map lines_bytes areas),
      length-append (to_be_bytes w32 (length rings)) (flat_map points_bytes rings),
      length-append rings (joined areas),
      length-joined rings (joined areas),
    )

-- a list of lines, none of them empty, with few points
few_lines_bytes : (lines : List (List Point)) → length (joined lines) ≤ 10000
    → is_hollow lines ≡ false → length (lines_bytes lines) ≤ 160004
few_lines_bytes lines few filled =
    let parts = neither_of (is_empty lines) (list_any is_empty lines) filled in
    let no_more = no_more_lists lines parts.1 in
    omega (
      arith,
      size_of_lines lines,
      length-append (to_be_bytes w32 (length lines)) (flat_map points_bytes lines),
    )

size_of_body : (g : Geometry) → fault_of g ≡ None → length (body_bytes g) ≤ 160004
size_of_body (geo.Point p) none = omega arith
size_of_body (geo.Line points) none =
    let few = (kept (geo.Line points) none).few in
    omega (
      arith,
      size_of_points points,
      length-append (to_be_bytes w32 (length points)) (flat_map point_bytes points),
    )
size_of_body (geo.Area rings) none = let k = kept (geo.Area rings) none in
    few_lines_bytes rings k.few k.filled
size_of_body (geo.ManyPoints points) none =
    let few = (kept (geo.ManyPoints points) none).few in
    omega (
      arith,
      size_of_points points,
      length-append (to_be_bytes w32 (length points)) (flat_map point_bytes points),
    )
size_of_body (geo.ManyLines lines) none = let k = kept (geo.ManyLines lines) none in
    few_lines_bytes lines k.few k.filled
size_of_body (geo.ManyAreas areas) none =
    let k = kept (geo.ManyAreas areas) none in
    let few : length (joined (joined areas)) ≤ 10000 = k.few in
    let parts = neither_of (is_empty areas) (list_any is_hollow areas) k.filled in
    let no_more = few_in_two areas few parts.1 in
    omega (
      arith,
      size_of_areas areas,
      length-append (to_be_bytes w32 (length areas)) (flat_map lines_bytes areas),
    )

size_of_text : (text : List ℕ) → has_text_form text ≡ true → length text ≤ 1048576
size_of_text text form =
    let parts = and_parts (nat_le 1 (length text) && nat_le (length text) 1048576)
    (list_all is_no_zero text) form in
    leb-true _ _ (and_parts (nat_le 1 (length text)) (nat_le (length text) 1048576) parts.0).1

size_of_value : (v : Value) → is_sound v ≡ true → length (value_bytes v) ≤ 1048581
size_of_value value.Null sound = omega arith
size_of_value (value.Text text) sound =
    let few = size_of_text text (and_parts (is_utf8 text) (has_text_form text) sound).1 in
    omega (arith, length-append (to_be_bytes w32 (length text)) text)
size_of_value (value.Integer z) sound = omega arith
size_of_value (value.Long z) sound = omega arith
size_of_value (value.Boolean b) sound = omega arith
size_of_value (value.Date at) sound = omega arith
size_of_value (value.Geo g) sound =
    let few = size_of_body g (none_is (fault_of g) sound) in
    omega arith

size_of_values : (kinds : List Kind) (values : List Value) → values_fit kinds values ≡ true
    → length (values_bytes values) ≤ 1048581 * length kinds
size_of_values [] [] fit = omega arith
size_of_values [] (v ∷ values) fit = absurd cc
size_of_values (k ∷ kinds) [] fit = absurd cc
size_of_values (k ∷ kinds) (v ∷ values) fit =
    let parts = and_parts (value_fits k v) (values_fit kinds values) fit in
    let here = size_of_value v (and_parts (is_of_kind k v) (is_sound v) parts.0).1 in
    let later = size_of_values kinds values parts.1 in
    omega (arith, length-append (value_bytes v) (values_bytes values))

-- their length has four bytes
pub size_of_feature : (t : Specification) (f : Feature) → IsType t → Fits t f
    → length (feature_bytes f) < 2 ^ 32
size_of_feature t f typed fit =
    let count : length (kinds_of t) ≡ length t.attributes =
    length-map t.attributes (λ attribute. attribute.kind) in
    let few = typed.few in
    let id = short_identifier f.id fit.identifier in
    let values = size_of_values (kinds_of t) f.values fit.each in
    omega (arith, length-append f.id (values_bytes f.values))
