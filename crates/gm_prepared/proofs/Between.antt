-- Which bands an edge between two heights is in.
use Rattle.std.proofs.Common.{◌≡◌, ℕ, ◌+◌, ◌<◌, ◌≤◌, ℤ, ◌≤ℤ◌, ◌<ℤ◌, Bool, true, false, ◌||◌, List}
use Rattle.std.proofs.Common.{[], ◌∷◌, length, get_or, Some, inl, inr, refl, sym, ap, ◌∙◌, arith}
use Rattle.std.specs.Prelude.{int_le, int_lt}
use Rattle.std.specs.Int.{int_min, int_max}
use Rattle.std.specs.List.{list_any, AllByRecursion}
use Rattle.std.proofs.lemmas.Bool.{and_parts, or_cases, or_from, cases_lt, both_ways}
use Rattle.std.proofs.lemmas.Bool.{false_from_ne_true}
use Rattle.std.proofs.lemmas.List.{get_or_default, get_or_read}
use Rattle.std.proofs.lemmas.Int.{ints, clamps}
use Rattle.gm_geom.specs.declared.point.Point.{Point}
use Rattle.gm_geom.specs.declared.point.Box2.{Box2}
use Rattle.gm_geom.specs.declared.geometry.Geometry.{Geometry}
use Rattle.gm_geom.specs.Geometry.{points_of}
use Rattle.gm_geom.specs.Extent.{HoldsAll, extent_of}
use Rattle.gm_shapes.specs.declared.segment.Segment.{Segment}
use Rattle.gm_shapes.specs.Segment.{box_of, lone_box, reaches, do_overlap, do_meet}
use Rattle.gm_shapes.specs.Edge.{lone_edge}
use Rattle.gm_shapes.specs.Polygon.{crosses_up, crosses}
use Rattle.gm_prepared.specs.declared.edge.Edge.{Edge}
use Rattle.gm_prepared.specs.Edge.{segment_of, numbered_edges}
use Rattle.gm_prepared.specs.Band.{count_of, meets_band, band_at}
use Rattle.gm_prepared.specs.Placing.{IsFlatIn}
use Rattle.gm_prepared.specs.Prepared.{IsPrepared, IsBetween}
use Rattle.gm_prepared.proofs.Heights.{at_below, at_rises, meets_at}
use Rattle.gm_prepared.proofs.Lists.{Filtered, any_of_filter, any_filtered}
use Rattle.gm_prepared.proofs.Held.{KeepsNear}

-- a box that holds a point has its low side not above its high one
some_along : (b : Box2) (points : List Point) (extent : Box2) → extent_of points ≡ Some extent
    → HoldsAll b points → b.low.y ≤ℤ b.high.y
some_along b [] extent e held = absurd (cc)
some_along b (p ∷ points) extent e held = omega (arith, ints, held.0.below, held.0.above)

pub along : (geometry : Geometry) (b : Box2) → extent_of (points_of geometry) ≡ Some b
    → HoldsAll b (points_of geometry) → b.low.y ≤ℤ b.high.y
along geometry b e held = some_along b (points_of geometry) b e held

-- the bands from first to last are those that a y between low and high has
pub record AreThose (b : Box2) (low high : ℤ) (first last : ℕ) : Type 0 where
  pub first_is : first ≡ band_at b (int_max low b.low.y)
  pub last_is : last ≡ band_at b (int_min high b.high.y)

record IsAmong (first last count j : ℕ) : Type 0 where
  from : first ≤ j
  to : j ≤ last
  below : j < count

among : (b : Box2) (low high : ℤ) (first last : ℕ) → AreThose b low high first last → (e : Edge)
    → IsFlatIn b e → IsBetween low high e
    → (j : ℕ) × IsAmong first last (count_of b) j × (meets_band b j e ≡ true)
among b low high first last those e flat at =
    let from : b.low.y ≤ℤ at.y = omega (arith, ints, flat.low_in, at.from_edge) in
    let to : at.y ≤ℤ b.high.y = omega (arith, ints, flat.high_in, at.to_edge) in
    let start : b.low.y ≤ℤ int_max low b.low.y = omega (arith, ints, clamps) in
    let up : int_max low b.low.y ≤ℤ at.y = omega (arith, ints, clamps, from, at.from_low) in
    let down : at.y ≤ℤ int_min high b.high.y = omega (arith, ints, clamps, to, at.to_high) in
    let first_le : band_at b (int_max low b.low.y) ≤ band_at b at.y =
    at_rises b (int_max low b.low.y) at.y start up in
    let last_le : band_at b at.y ≤ band_at b (int_min high b.high.y) =
    at_rises b at.y (int_min high b.high.y) from down in (
      band_at b at.y,
      record {
        from = omega (arith, first_le, those.first_is);
        to = omega (arith, last_le, those.last_is);
        below = at_below b at.y from to;
      },
      meets_at b at.y e from at.from_edge at.to_edge,
    )

-- where no band from first to last has an edge that passes, none passes
pub none_between : (geometry : Geometry) (b : Box2) (lists : List (List Edge)) (low high : ℤ)
    (first last k : ℕ) (test : Edge → Bool) → IsPrepared geometry b lists
    → AreThose b low high first last → ((e : Edge) → test e ≡ true → IsBetween low high e)
    → last + 1 ≤ k → ((j : ℕ) → first ≤ j → j < k → list_any test (get_or lists j []) ≡ false)
    → list_any test (numbered_edges geometry) ≡ false
none_between geometry b lists low high first last k test kept those only done none =
    false_from_ne_true (list_any test (numbered_edges geometry)) (λ e.
    let some : Filtered test (meets_band b) (IsAmong first last (count_of b))
    (numbered_edges geometry) =
    any_filtered test (meets_band b) (IsAmong first last (count_of b)) (IsFlatIn b)
    (numbered_edges geometry)
    (λ y flat passes. among b low high first last those y flat (only y passes))
    kept.flat e in
    let below : some.at < length lists = omega (arith, kept.bands.count, some.in_range.below) in
    let before : some.at < k = omega (arith, done, some.in_range.to) in
    let passes : list_any test (get_or lists some.at []) ≡ true =
    ap (list_any test) (kept.bands.each some.at below) ∙ some.found in
    both_ways (list_any test (get_or lists some.at []))
    (none some.at some.in_range.from before) passes)

-- an edge in a band is one of the geometry
pub some_in_band : (geometry : Geometry) (b : Box2) (lists : List (List Edge)) (k : ℕ)
    (d : List Edge) (test : Edge → Bool) → IsPrepared geometry b lists → k < length lists
    → list_any test (get_or lists k d) ≡ true → list_any test (numbered_edges geometry) ≡ true
some_in_band geometry b lists k d test kept below e =
    any_of_filter test (meets_band b k) (numbered_edges geometry)
    (sym (ap (list_any test) (get_or_default lists k d [] below ∙ kept.bands.each k below)) ∙ e)

none_flat : (b : Box2) (test : Edge → Bool) (edges : List Edge)
    → ((e : Edge) → IsFlatIn b e → test e ≡ true → ⊥) → AllByRecursion (IsFlatIn b) edges
    → list_any test edges ≡ false
none_flat b test [] never all = refl
none_flat b test (e ∷ edges) never all =
    or_from _ _ (false_from_ne_true (test e) (never e all.0)) (none_flat b test edges never all.1)

pub none_above : (geometry : Geometry) (b : Box2) (lists : List (List Edge)) (low high : ℤ)
    (test : Edge → Bool) → IsPrepared geometry b lists
    → ((e : Edge) → test e ≡ true → IsBetween low high e) → high <ℤ b.low.y
    → list_any test (numbered_edges geometry) ≡ false
none_above geometry b lists low high test kept only under =
    none_flat b test (numbered_edges geometry)
    (λ e flat passes. let at : IsBetween low high e = only e passes in
    absurd (omega (arith, ints, under, at.to_high, at.from_edge, flat.low_in))) kept.flat

pub none_below : (geometry : Geometry) (b : Box2) (lists : List (List Edge)) (low high : ℤ)
    (test : Edge → Bool) → IsPrepared geometry b lists
    → ((e : Edge) → test e ≡ true → IsBetween low high e) → b.high.y <ℤ low
    → list_any test (numbered_edges geometry) ≡ false
none_below geometry b lists low high test kept only over =
    none_flat b test (numbered_edges geometry)
    (λ e flat passes. let at : IsBetween low high e = only e passes in
    absurd (omega (arith, ints, over, at.from_low, at.to_edge, flat.high_in))) kept.flat

reaches_high : (b c : Box2) → reaches b c ≡ true → b.low.y ≤ℤ c.high.y
reaches_high b c e = let along : int_le b.low.y c.high.y ≡ true =
    (and_parts (int_le b.low.x c.high.x) (int_le b.low.y c.high.y) e).1 in
    omega (arith, ints, along)

-- a segment that meets an edge has a y in common with it
pub between_meeting : (s : Segment) (e : Edge) → do_meet s (segment_of e) ≡ true
    → IsBetween (box_of s).low.y (box_of s).high.y e
between_meeting s e m =
    let boxes : do_overlap (box_of s) (box_of (segment_of e)) ≡ true = (and_parts _ _ m).0 in
    let both : (reaches (box_of s) (box_of (segment_of e)) ≡ true)
    × (reaches (box_of (segment_of e)) (box_of s) ≡ true) =
    and_parts (reaches (box_of s) (box_of (segment_of e)))
    (reaches (box_of (segment_of e)) (box_of s)) boxes in
    let one : (box_of s).low.y ≤ℤ (box_of (segment_of e)).high.y =
    reaches_high (box_of s) (box_of (segment_of e)) both.0 in
    let other : (box_of (segment_of e)).low.y ≤ℤ (box_of s).high.y =
    reaches_high (box_of (segment_of e)) (box_of s) both.1 in
    record {
      y = int_max (box_of s).low.y (box_of (segment_of e)).low.y;
      from_low = omega (arith, ints, clamps);
      to_high = omega (arith, ints, clamps, other);
      from_edge = omega (arith, ints, clamps);
      to_edge = omega (arith, ints, clamps, one);
    }

pub record HasHeight (low high y : ℤ) : Type 0 where
  pub from : low ≤ℤ y
  pub to : y ≤ℤ high

pub height_in : (p : Point) (area : Box2) → do_overlap (lone_box p) area ≡ true
    → HasHeight area.low.y area.high.y p.y
height_in p area e =
    record {
      from = reaches_high area (lone_box p) (and_parts _ _ e).1;
      to = reaches_high (lone_box p) area (and_parts _ _ e).0;
    }

-- an edge with an end in a box has a y in the height of the box
pub between_ends : (test : Point → Bool) (area : Box2)
    → ((p : Point) → test p ≡ true → do_overlap (lone_box p) area ≡ true) → (e : Edge)
    → (test e.a || test e.b) ≡ true → IsBetween area.low.y area.high.y e
between_ends test area inside e passes =
    elim (or_cases (test e.a) (test e.b) passes) [
      | inl first ↦
          let at : HasHeight area.low.y area.high.y e.a.y = height_in e.a area (inside e.a first) in
          record {
            y = e.a.y;
            from_low = at.from;
            to_high = at.to;
            from_edge = omega (arith, ints, clamps);
            to_edge = omega (arith, ints, clamps);
          }
      | inr second ↦
          let at : HasHeight area.low.y area.high.y e.b.y =
          height_in e.b area (inside e.b second) in
          record {
            y = e.b.y;
            from_low = at.from;
            to_high = at.to;
            from_edge = omega (arith, ints, clamps);
            to_edge = omega (arith, ints, clamps);
          }
    ]

-- the edges that hold a point or that its ray crosses are in the band that has its height
level_in : (p : Point) (e : Edge) (b : Box2) → b.low.y ≤ℤ p.y
    → HasHeight (box_of (segment_of e)).low.y (box_of (segment_of e)).high.y p.y
    → meets_band b (band_at b p.y) e ≡ true
level_in p e b from at = meets_at b p.y e from at.from at.to

touched_level : (p : Point) (e : Edge) → do_meet (lone_edge p) (segment_of e) ≡ true
    → HasHeight (box_of (segment_of e)).low.y (box_of (segment_of e)).high.y p.y
touched_level p e m =
    let at : IsBetween (box_of (lone_edge p)).low.y (box_of (lone_edge p)).high.y e =
    between_meeting (lone_edge p) e m in
    record {
      from = omega (arith, ints, clamps, at.from_edge, at.to_high);
      to = omega (arith, ints, clamps, at.to_edge, at.from_low);
    }

record IsBetweenEnds (a b p : Point) : Type 0 where
  low : a.y ≤ℤ p.y
  high : p.y ≤ℤ b.y

up_level : (p a b : Point) → crosses_up p a b ≡ true → IsBetweenEnds a b p
up_level p a b e =
    let level : (int_le a.y p.y ≡ true) × (int_lt p.y b.y ≡ true) =
    and_parts _ _ (and_parts _ _ e).0 in
    record { low = omega (arith, ints, level.0); high = omega (arith, ints, level.1) }

crossed_level : (p : Point) (e : Edge) (t : Bool) → int_lt e.b.y e.a.y ≡ t
    → crosses p (segment_of e) ≡ true
    → HasHeight (box_of (segment_of e)).low.y (box_of (segment_of e)).high.y p.y
crossed_level p e true down c =
    let up : crosses_up p e.b e.a ≡ true = rw down at c in
    let ends : IsBetweenEnds e.b e.a p = up_level p e.b e.a up in
    record {
      from = omega (arith, ints, clamps, ends.low);
      to = omega (arith, ints, clamps, ends.high);
    }
crossed_level p e false down c =
    let up : crosses_up p e.a e.b ≡ true = rw down at c in
    let ends : IsBetweenEnds e.a e.b p = up_level p e.a e.b up in
    record {
      from = omega (arith, ints, clamps, ends.low);
      to = omega (arith, ints, clamps, ends.high);
    }

pub near_band : (b : Box2) (p : Point) → b.low.y ≤ℤ p.y → KeepsNear p (meets_band b (band_at b p.y))
near_band b p from = record {
  touched = λ e m. level_in p e b from (touched_level p e m);
  crossed = λ e c. level_in p e b from (crossed_level p e (int_lt e.b.y e.a.y) refl c);
}

-- one band more in which no edge passes
pub first_more : (test : Edge → Bool) (lists : List (List Edge)) (first k : ℕ) (band : List Edge)
    → ((j : ℕ) → first ≤ j → j < k → list_any test (get_or lists j []) ≡ false) → k < length lists
    → band ≡ get_or lists k band → list_any test band ≡ false → (j : ℕ) → first ≤ j → j < k + 1
    → list_any test (get_or lists j []) ≡ false
first_more test lists first k band before below read none j from upto =
    elim (cases_lt j k) [
      | inl earlier ↦ before j from earlier
      | inr later ↦
          let is : j ≡ k = omega (arith, upto, later) in
          ap (λ i. list_any test (get_or lists i [])) is
          ∙ ap (list_any test) (sym (get_or_read lists k band below read [])) ∙ none
    ]

-- what a test of a band, read as a slice, tells of the band
pub read_band : (test : Edge → Bool) (band slice : List Edge) (seen told : Bool) → slice ≡ band
    → seen ≡ list_any test slice → seen ≡ told → list_any test band ≡ told
read_band test band slice seen told read is e = sym (ap (list_any test) read) ∙ sym is ∙ e
