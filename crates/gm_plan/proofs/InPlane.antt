-- What is in a box has cells in its window, and its key is read.
use Rattle.std.proofs.Common.{◌≡◌, ℕ, zero, suc, ◌+◌, ◌^◌, ◌<◌, ◌≤◌, Bool, true, ◌&&◌, List, []}
use Rattle.std.proofs.Common.{◌∷◌, ◌++◌, length, refl, ◌⊎◌, inl, inr, arith, subst}
use Rattle.std.proofs.lemmas.Bool.{and_parts, and_from, or_left, or_right, or_cases, le-leb}
use Rattle.std.proofs.lemmas.Bool.{leb-true}
use Rattle.std.specs.Prelude.{int_le, ◌≤ℤ◌, leb, slice_index_or}
use Rattle.std.specs.List.{list_any, flat_map, range_with_len}
use Rattle.gm_base.proofs.Numbers.{le_from}
use Rattle.gm_geom.specs.declared.point.Point.{Point}
use Rattle.gm_geom.specs.declared.point.Box2.{Box2}
use Rattle.gm_shapes.specs.Segment.{do_overlap, reaches}
use Rattle.gm_runs.specs.Runs.{HasNumber}
use Rattle.gm_trees.specs.declared.window.Window.{Window}
use Rattle.gm_trees.specs.Tree.{Shape}
use Rattle.gm_trees.specs.Paths.{cell_of}
use Rattle.gm_split.specs.Explained.{explained_runs, stop_level}
use Rattle.gm_split.specs.Windows.{meets, overlaps}
use Rattle.gm_types.specs.declared.index.IndexKind.{IndexKind}
use Rattle.gm_types.specs.Specification.{Specification, shards_of, is_shard_count}
use Rattle.gm_keys.specs.Cell.{longitude_cell, latitude_cell, cells_of}
use Rattle.gm_keys.specs.Key.{prefix_of, code_front, shard_of}
use Rattle.gm_bounds.specs.ClosedBox.{is_in_box}
use Rattle.gm_plan.specs.Covering.{IsCurve}
use Rattle.gm_plan.specs.Inside.{is_inside}
use Rattle.gm_plan.specs.KeyRanges.{plane_ranges}
use Rattle.gm_plan.specs.Spans.{spans_in}
use Rattle.gm_plan.specs.Windows.{window_of, windows_of}
use Rattle.gm_plan.proofs.Rising.{Rises, longitude_rises, latitude_rises, shards_listed}
use Rattle.gm_plan.proofs.Within.{CodeLaws, AreNarrow, codes_inside, any_range}

-- two cells' box overlaps the window of a box that its corners overlap
pub overlap_in_plane : Rises → (bits : ℕ) (low high : Point) (b : Box2) → low.x ≤ℤ b.high.x
    → b.low.x ≤ℤ high.x → low.y ≤ℤ b.high.y → b.low.y ≤ℤ high.y
    → overlaps 2 (cell_of (cells_of bits low), cell_of (cells_of bits high)) (window_of bits b)
    ≡ true
overlap_in_plane rises bits low high b x x' y y' =
    and_from (leb (longitude_cell bits low.x) (longitude_cell bits b.high.x)
    && leb (longitude_cell bits b.low.x) (longitude_cell bits high.x)) _
    (and_from (leb (longitude_cell bits low.x) (longitude_cell bits b.high.x)) _
    (le-leb _ _ (longitude_rises rises bits low.x b.high.x x))
    (le-leb _ _ (longitude_rises rises bits b.low.x high.x x')))
    (and_from (leb (latitude_cell bits low.y) (latitude_cell bits b.high.y)
    && leb (latitude_cell bits b.low.y) (latitude_cell bits high.y)) _
    (and_from (leb (latitude_cell bits low.y) (latitude_cell bits b.high.y)) _
    (le-leb _ _ (latitude_rises rises bits low.y b.high.y y))
    (le-leb _ _ (latitude_rises rises bits b.low.y high.y y')))
    refl)

-- the corners of what a box overlaps
pub record Overlap (low high : Point) (b : Box2) : Type 0 where
  pub left : low.x ≤ℤ b.high.x
  pub right : b.low.x ≤ℤ high.x
  pub below : low.y ≤ℤ b.high.y
  pub above : b.low.y ≤ℤ high.y

pub point_overlap : (p : Point) (b : Box2) → is_in_box p b ≡ true → Overlap p p b
point_overlap p b h =
    let halves = and_parts (int_le b.low.x p.x && int_le p.x b.high.x) _ h in
    let across = and_parts (int_le b.low.x p.x) _ halves.0 in
    let along = and_parts (int_le b.low.y p.y) _ halves.1 in
    record {
      left = le_from _ _ across.1;
      right = le_from _ _ across.0;
      below = le_from _ _ along.1;
      above = le_from _ _ along.0;
    }

pub extent_overlap : (e b : Box2) → do_overlap e b ≡ true → Overlap e.low e.high b
extent_overlap e b h =
    let halves = and_parts (reaches e b) (reaches b e) h in
    let one = and_parts (int_le e.low.x b.high.x) (int_le e.low.y b.high.y) halves.0 in
    let two = and_parts (int_le b.low.x e.high.x) (int_le b.low.y e.high.y) halves.1 in
    record {
      left = le_from _ _ one.0;
      right = le_from _ _ two.0;
      below = le_from _ _ one.1;
      above = le_from _ _ two.1;
    }

-- some window is met where some box is overlapped
pub meets_in_plane : Rises → (bits : ℕ) (low high : Point) (test : Box2 → Bool)
    → ((b : Box2) → test b ≡ true → Overlap low high b) → (boxes : List Box2)
    → list_any test boxes ≡ true
    → meets 2 (windows_of bits boxes) (cell_of (cells_of bits low), cell_of (cells_of bits high))
    ≡ true
meets_in_plane rises bits low high test tells [] h = h
meets_in_plane rises bits low high test tells (b ∷ boxes) h =
    by (or_cases (test b) (list_any test boxes) h)
    (λ there. meets_in_plane rises bits low high test tells boxes there)
  where
    by : (test b ≡ true) ⊎ (list_any test boxes ≡ true)
        → (list_any test boxes ≡ true
        → meets 2 (windows_of bits boxes)
        (cell_of (cells_of bits low), cell_of (cells_of bits high)) ≡ true)
        → meets 2 (windows_of bits (b ∷ boxes))
        (cell_of (cells_of bits low), cell_of (cells_of bits high)) ≡ true
    by (inl here) rec =
        or_left _ _ (let o = tells b here in
        overlap_in_plane rises bits low high b o.left o.right o.below o.above)
    by (inr there) rec = or_right _ _ (rec there)

-- ---- the ends of runs
from_each : (runs : List (ℕ × ℕ))
    → ((i : ℕ) → i < length runs
    → ((slice_index_or runs i (0, 0)).0 < 2 ^ 64) × ((slice_index_or runs i (0, 0)).1 < 2 ^ 64))
    → AreNarrow runs
from_each [] h = tt
from_each (run ∷ runs) h =
    (h zero (omega arith), from_each runs (λ i less. h (suc i) (omega arith)))

pub runs_narrow : (D : ℕ) (s : Shape) → IsCurve D s → (ws : List Window) (target : ℕ) → 1 ≤ target
    → AreNarrow (explained_runs D s ws target)
runs_narrow D s laws ws target some =
    from_each (explained_runs D s ws target)
    (λ i less. let h = laws.ends ws target i some less in
    (below _ _ _ h.0.1 laws.room, below _ _ _ h.1.1 laws.room))
  where
    below : (a b m : ℕ) → a ≤ b → b < m → a < m
    below a b m h k = omega arith

-- ---- a key whose code is covered is inside
shard_few : (n : ℕ) → is_shard_count n ≡ true → (1 ≤ n) × (n ≤ 127)
shard_few n h = let parts = and_parts (leb 1 n) (leb n 127) h in
    (leb-true 1 n parts.0, leb-true n 127 parts.1)

pub shards_few : (s : Specification) → (1 ≤ shards_of s) × (shards_of s ≤ 127)
shards_few s = shard_few (shards_of s) (shards_listed s)

pub record ShardLaw : Type 0 where
  pub few : (t : Specification) (id : List ℕ) → 1 ≤ shards_of t → shard_of t id < shards_of t

pub plane_inside : CodeLaws → ShardLaw → (s : Specification) (kind : IndexKind) (shape : Shape)
    → IsCurve 2 shape → (ws : List Window) (target code : ℕ) (id : List ℕ) → 1 ≤ target
    → HasNumber (explained_runs 2 shape ws target) code
    → is_inside (code_front (prefix_of s kind) (shard_of s id) code ++ id)
    (flat_map (spans_in (prefix_of s kind) (plane_ranges shape ws target))
    (range_with_len 0 (shards_of s))) ≡ true
unfolding plane_ranges
plane_inside laws shards s kind shape curve ws target code id some has =
    let few = shards_few s in
    let less = shards.few s id few.0 in
    any_range _ (spans_in (prefix_of s kind) (plane_ranges shape ws target)) 0 (shards_of s)
    (shard_of s id) less
    (subst (λ shard. is_inside (code_front (prefix_of s kind) (shard_of s id) code ++ id)
    (spans_in (prefix_of s kind) (plane_ranges shape ws target) shard) ≡ true)
    (zero_plus (shard_of s id))
    (codes_inside laws s kind (shard_of s id) (stop_level 2 shape ws target) code id
    (explained_runs 2 shape ws target) (small _ _ less few.1)
    (runs_narrow 2 shape curve ws target some) has))
  where
    zero_plus : (n : ℕ) → n ≡ 0 + n
    zero_plus n = omega arith

    small : (a b : ℕ) → a < b → b ≤ 127 → a < 256
    small a b h k = omega arith
