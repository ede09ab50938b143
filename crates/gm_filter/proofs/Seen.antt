-- What is told of values that are seen in place.
use Rattle.std.proofs.Common.{◌≡◌, ◌↔◌, Bool, true, false, List, [], ◌∷◌, ℕ, refl, sym, ◌∙◌, ap}
use Rattle.std.proofs.lemmas.Bool.{and_parts, and_from}
use Rattle.std.proofs.lemmas.Str.{IsUtf8-from_is_utf8}
use Rattle.std.specs.Prelude.{int_le}
use Rattle.std.specs.Str.{IsUtf8, is_utf8}
use Rattle.gm_base.proofs.Numbers.{le_from, le_to}
use Rattle.gm_base.proofs.Booleans.{same_tests}
use Rattle.gm_geom.specs.declared.point.Point.{Point}
use Rattle.gm_geom.specs.declared.point.Box2.{Box2}
use Rattle.gm_geom.specs.declared.geometry.Geometry.{Geometry}
use Rattle.gm_geom.specs.declared.geometry.Geometry.TheVariants as geo
use Rattle.gm_geom.specs.Extent.{IsInBox}
use Rattle.gm_shapes.specs.Segment.{lone_box, do_overlap, reaches}
use Rattle.gm_shapes.specs.Meeting.{do_intersect, box_area}
use Rattle.gm_feature.specs.declared.value.Value.{Value}
use Rattle.gm_feature.specs.declared.value.Value.TheVariants as value
use Rattle.gm_feature.specs.Value.{is_sound, has_text_form}
use Rattle.gm_filter.specs.declared.filter.Literal.{Literal}
use Rattle.gm_filter.specs.Truth.{is_one_of, is_null_value}

-- ---- answers that are one

-- a test that fails settles one that only it lets pass
pub fails_with : (t u seen : Bool) → (u ≡ true → t ≡ true) → seen ≡ t → seen ≡ false → false ≡ u
fails_with t true seen only e f = sym f ∙ e ∙ only refl
fails_with t false seen only e f = refl

-- ---- a point in a closed box

in_where_overlapping : (p : Point) (b : Box2) → do_overlap (lone_box p) b ≡ true → IsInBox b p
in_where_overlapping p b h =
    let parts = and_parts (reaches (lone_box p) b) (reaches b (lone_box p)) h in
    let high = and_parts (int_le p.x b.high.x) (int_le p.y b.high.y) parts.0 in
    let low = and_parts (int_le b.low.x p.x) (int_le b.low.y p.y) parts.1 in
    record {
      left = le_from _ _ low.0;
      right = le_from _ _ high.0;
      below = le_from _ _ low.1;
      above = le_from _ _ high.1;
    }

overlapping_where_in : (p : Point) (b : Box2) → IsInBox b p → do_overlap (lone_box p) b ≡ true
overlapping_where_in p b h =
    and_from (reaches (lone_box p) b) (reaches b (lone_box p))
    (and_from _ _ (le_to p.x b.high.x h.right) (le_to p.y b.high.y h.above))
    (and_from _ _ (le_to b.low.x p.x h.left) (le_to b.low.y p.y h.below))

pub point_meets : (p : Point) (b : Box2)
    → ((do_intersect (geo.Point p) (box_area b) ≡ true) ↔ IsInBox b p)
    → do_overlap (lone_box p) b ≡ do_intersect (geo.Point p) (box_area b)
point_meets p b meets =
    same_tests _ _ (λ over. meets.1 (in_where_overlapping p b over))
    (λ met. overlapping_where_in p b (meets.0 met))

-- ---- null

null_where_tested : (v : Value) → is_null_value v ≡ true → v ≡ value.Null
null_where_tested value.Null h = refl
null_where_tested (value.Text t) h = absurd cc
null_where_tested (value.Integer z) h = absurd cc
null_where_tested (value.Long z) h = absurd cc
null_where_tested (value.Boolean b) h = absurd cc
null_where_tested (value.Date at) h = absurd cc
null_where_tested (value.Geo g) h = absurd cc

pub null_is_told : (v : Value) (told : Bool) → ((told ≡ true) ↔ (v ≡ value.Null))
    → told ≡ is_null_value v
null_is_told v told tells =
    same_tests told (is_null_value v) (λ yes. ap is_null_value (tells.0 yes))
    (λ h. tells.1 (null_where_tested v h))

-- ---- what is no point lies within nothing

-- ---- no geometry is one of some literals

pub no_geometry_among : (g : Geometry) (literals : List Literal)
    → is_one_of (value.Geo g) literals ≡ false
no_geometry_among g [] = refl
no_geometry_among g (l ∷ literals) = no_geometry_among g literals

-- ---- a text that is sound is UTF-8

pub sound_text : (bytes : List ℕ) → is_sound (value.Text bytes) ≡ true → IsUtf8 bytes
sound_text bytes h = IsUtf8-from_is_utf8 bytes (and_parts (is_utf8 bytes) (has_text_form bytes) h).0
