-- The indexes over the plane lose no feature of which a filter is true.
use Rattle.std.proofs.Common.{◌≡◌, ℕ, ◌≤◌, true, List, ◌++◌, refl, sym, ap, ◌∙◌, true≢false, Option}
use Rattle.std.proofs.Common.{Some, None}
use Rattle.std.proofs.lemmas.Bool.{and_parts}
use Rattle.std.specs.Prelude.{option_map}
use Rattle.std.specs.List.{list_any, flat_map, range_with_len}
use Rattle.gm_geom.specs.declared.point.Point.{Point}
use Rattle.gm_geom.specs.declared.point.Box2.{Box2}
use Rattle.gm_types.specs.declared.index.IndexKind.TheVariants.{Z2, Xz2}
use Rattle.gm_types.specs.declared.kind.GeoKind.TheVariants as shape
use Rattle.gm_types.specs.declared.kind.GeoKind.{GeoKind}
use Rattle.gm_types.specs.declared.kind.Kind.{Kind}
use Rattle.gm_types.specs.declared.kind.Kind.TheVariants.{Geo}
use Rattle.gm_types.specs.Index.{has_index, is_other_shape}
use Rattle.gm_types.specs.Specification.{Specification, kind_at, default_geometry_of}
use Rattle.gm_types.specs.Specification.{default_shape_of, shards_of, z2_bits_of, precision_of}
use Rattle.gm_feature.specs.declared.feature.Feature.{Feature}
use Rattle.gm_feature.specs.declared.value.Value.{Value}
use Rattle.gm_feature.specs.Feature.{Fits, value_at}
use Rattle.gm_feature.specs.Value.{value_fits}
use Rattle.gm_filter.specs.Suitability.{Suits}
use Rattle.gm_filter.specs.Tree.{Tree}
use Rattle.gm_filter.specs.Truth.{is_true}
use Rattle.gm_keys.specs.Cell.{z2_code, xz2_code, cells_of}
use Rattle.gm_keys.specs.Key.{prefix_of, key_of, front_of, code_front, shard_of}
use Rattle.gm_keys.specs.Whereabouts.{point_in, box_in}
use Rattle.gm_trees.specs.Z.{z_shape}
use Rattle.gm_trees.specs.Xz.{xz_shape}
use Rattle.gm_bounds.specs.Applicability.{is_listed}
use Rattle.gm_bounds.specs.Space.{boxes_of}
use Rattle.gm_bounds.specs.ClosedBox.{is_in_box, is_geometry_in}
use Rattle.gm_bounds.specs.Found.{IsFound}
use Rattle.gm_plan.specs.Covering.{CoversPoints, CoversObjects}
use Rattle.gm_plan.specs.Inside.{LosesNone, is_inside}
use Rattle.gm_plan.specs.KeyRanges.{list_of, plane_ranges}
use Rattle.gm_plan.specs.Spans.{spans_in}
use Rattle.gm_plan.specs.Windows.{windows_of}
use Rattle.gm_plan.proofs.Found.{found_in_list, place_of_shape, point_found, has_point, FoundExtent}
use Rattle.gm_plan.proofs.Found.{extent_found, has_box}
use Rattle.gm_plan.proofs.InPlane.{ShardLaw, plane_inside, meets_in_plane, point_overlap}
use Rattle.gm_plan.proofs.Rising.{Rises, are_cells}
use Rattle.gm_plan.proofs.Within.{CodeLaws}

-- what the crates below say
pub record PlaneLaws : Type 0 where
  pub boxes : (s : Specification) (t : Tree) (f : Feature) (d : ℕ) → Suits s t → Fits s f
      → is_true f t ≡ true
      → default_geometry_of s ≡ Some d → IsFound (is_geometry_in (value_at f d)) (boxes_of s t)
  pub values : (t : Specification) (f : Feature) (n : ℕ) (k : Kind) → Fits t f
      → kind_at t n ≡ Some k → value_fits k (value_at f n) ≡ true
  pub rises : Rises
  pub codes : CodeLaws
  pub shards : ShardLaw

z2_key : (s : Specification) (f : Feature) (p : Point) → point_in s f ≡ Some p
    → key_of s Z2 f
    ≡ Some (code_front (prefix_of s Z2) (shard_of s f.id) (z2_code (z2_bits_of s) p) ++ f.id)
unfolding front_of
z2_key s f p h =
    ap (λ o. option_map (λ front. front ++ f.id)
    (option_map (λ point. code_front (prefix_of s Z2) (shard_of s f.id)
    (z2_code (z2_bits_of s) point)) o)) h

xz2_key : (s : Specification) (f : Feature) (b : Box2) → box_in s f ≡ Some b
    → key_of s Xz2 f
    ≡ Some (code_front (prefix_of s Xz2) (shard_of s f.id) (xz2_code (precision_of s) b) ++ f.id)
unfolding front_of
xz2_key s f b h =
    ap (λ o. option_map (λ front. front ++ f.id)
    (option_map (λ box. code_front (prefix_of s Xz2) (shard_of s f.id)
    (xz2_code (precision_of s) box)) o)) h

module _ (laws : PlaneLaws) where
  z2_inside : (s : Specification) (target : ℕ) (f : Feature) (boxes : List Box2) (p : Point)
      → CoversPoints 2 (z2_bits_of s) → 1 ≤ target
      → list_any (is_in_box p) boxes ≡ true
      → is_inside (code_front (prefix_of s Z2) (shard_of s f.id) (z2_code (z2_bits_of s) p) ++ f.id)
      (flat_map (spans_in (prefix_of s Z2)
      (plane_ranges (z_shape 2 (z2_bits_of s)) (windows_of (z2_bits_of s) boxes) target))
      (range_with_len 0 (shards_of s))) ≡ true
  unfolding z2_code
  z2_inside s target f boxes p covers some h =
      plane_inside laws.codes laws.shards s Z2 (z_shape 2 (z2_bits_of s)) covers.curve
      (windows_of (z2_bits_of s) boxes) target (z2_code (z2_bits_of s) p) f.id some
      (covers.covered (windows_of (z2_bits_of s) boxes) target (cells_of (z2_bits_of s) p) some
      (are_cells (z2_bits_of s) p)
      (meets_in_plane laws.rises (z2_bits_of s) p p (is_in_box p) (point_overlap p) boxes h))

  pub z2_read : ((s : Specification) → CoversPoints 2 (z2_bits_of s)) → LosesNone Z2
  z2_read covers s t target f holds suits applies some fits is =
      let parts = and_parts (has_index s Z2) (is_listed (boxes_of s t)) applies in
      let shaped = holds.z2 parts.0 in
      let place = place_of_shape s shape.Point shaped in
      let at = holds.geometry place.0 place.1 in
      let found = point_found (value_at f place.0) (list_of (boxes_of s t))
      (laws.values s f place.0 (Geo shape.Point) fits (at.kind ∙ ap (option_map Geo) shaped))
      (found_in_list (is_geometry_in (value_at f place.0)) (boxes_of s t) parts.1
      (laws.boxes s t f place.0 suits fits is place.1)) in
      record {
        key = code_front (prefix_of s Z2) (shard_of s f.id)
            (z2_code (z2_bits_of s) found.point) ++ f.id;
        has = z2_key s f found.point (has_point s f place.0 found.point place.1 found.is);
        inside = z2_inside s target f (list_of (boxes_of s t)) found.point (covers s)
            some found.found;
      }

  xz2_inside : (s : Specification) (target : ℕ) (f : Feature) (boxes : List Box2) (v : Value)
      (found : FoundExtent v boxes) → CoversObjects 2 (precision_of s) → 1 ≤ target
      → is_inside (code_front (prefix_of s Xz2) (shard_of s f.id)
      (xz2_code (precision_of s) found.extent) ++ f.id)
      (flat_map (spans_in (prefix_of s Xz2)
      (plane_ranges (xz_shape 2 (precision_of s)) (windows_of (precision_of s) boxes) target))
      (range_with_len 0 (shards_of s))) ≡ true
  unfolding xz2_code
  xz2_inside s target f boxes v found covers some =
      plane_inside laws.codes laws.shards s Xz2 (xz_shape 2 (precision_of s)) covers.curve
      (windows_of (precision_of s) boxes) target
      (xz2_code (precision_of s) found.extent) f.id some
      (covers.covered (windows_of (precision_of s) boxes) target
      (cells_of (precision_of s) found.extent.low)
      (cells_of (precision_of s) found.extent.high) some
      (are_cells (precision_of s) found.extent.low) (are_cells (precision_of s) found.extent.high)
      (meets_in_plane laws.rises (precision_of s) found.extent.low found.extent.high found.test
      found.tells boxes found.found))

  pub xz2_read : ((s : Specification) → CoversObjects 2 (precision_of s)) → LosesNone Xz2
  xz2_read covers s t target f holds suits applies some fits is =
      let parts = and_parts (has_index s Xz2) (is_listed (boxes_of s t)) applies in
      let shaped = other_shape (default_shape_of s) (holds.xz2 parts.0) in
      let place = place_of_shape s shaped.0 shaped.1 in
      let found = extent_found (value_at f place.0) (list_of (boxes_of s t))
      (found_in_list (is_geometry_in (value_at f place.0)) (boxes_of s t) parts.1
      (laws.boxes s t f place.0 suits fits is place.1)) in
      record {
        key = code_front (prefix_of s Xz2) (shard_of s f.id)
            (xz2_code (precision_of s) found.extent) ++ f.id;
        has = xz2_key s f found.extent
            (has_box s f place.0 found.geometry found.extent place.1 found.is found.extent_is);
        inside = xz2_inside s target f (list_of (boxes_of s t)) (value_at f place.0) found
            (covers s) some;
      }
    where
      other_shape : (o : Option GeoKind) → is_other_shape o ≡ true → (g : GeoKind) × (o ≡ Some g)
      other_shape None h = absurd (true≢false (sym h))
      other_shape (Some g) h = (g, refl)
