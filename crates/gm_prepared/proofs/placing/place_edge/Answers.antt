use Rattle.std.proofs.Common.{◌≡◌, ◌+◌, ◌≤◌, ◌≤ℤ◌, ◌∙◌, ap, arith, rules}
use Rattle.std.specs.Prelude.{FitsSigned}
use Rattle.std.specs.Int.{w32}
use Rattle.std.proofs.lemmas.Int.{ints, to_z-of_z}
use Rattle.gm_geom.specs.declared.point.Box2.{Box2}
use Rattle.gm_shapes.specs.Segment.{box_of}
use Rattle.gm_prepared.specs.Edge.{segment_of}
use Rattle.gm_prepared.specs.Band.{band_at}
use Rattle.gm_prepared.proofs.Bands.{filled_more, filled_bands, ends_in}
use Rattle.gm_prepared.proofs.Heights.{at_rises}
use Rattle.gm_prepared.proofs.placing.place_edge.Goals as goal

pub band_at-first-requires-clause-to : goal.band_at-first-requires-clause-to
band_at-first-requires-clause-to c =
    let extent : c.box_of-extent.result ≡ box_of (segment_of c.args.edge.now) =
    c.box_of-extent.ensures ∙ ap box_of c.segment.ensures in
    let low : c.box_of-extent.result.low.y ≡ (box_of (segment_of c.args.edge.now)).low.y =
    ap (λ (b : Box2). b.low.y) extent in
    let under : (box_of (segment_of c.args.edge.now)).low.y ≤ℤ c.args.area.high.y =
    (ends_in c.args.area c.args.edge.now c.requires.inside).0 in
    omega (arith, ints, low, under)

pub band_at-last-requires-clause-from : goal.band_at-last-requires-clause-from
band_at-last-requires-clause-from c =
    let extent : c.box_of-extent.result ≡ box_of (segment_of c.args.edge.now) =
    c.box_of-extent.ensures ∙ ap box_of c.segment.ensures in
    let high : c.box_of-extent.result.high.y ≡ (box_of (segment_of c.args.edge.now)).high.y =
    ap (λ (b : Box2). b.high.y) extent in
    let over : c.args.area.low.y ≤ℤ (box_of (segment_of c.args.edge.now)).high.y =
    (ends_in c.args.area c.args.edge.now c.requires.inside).1 in
    omega (arith, ints, high, over)

pub bands-preserved : goal.bands-preserved
bands-preserved c =
    filled_more c.args.bands.now.items c.bands.bands.items c.band_at-first.result c.bands.k
    c.args.edge.now c.index_mut-band.result.now c.push.new.self
    c.bands.invariant (omega arith) (omega arith) c.index_mut-band.ensures.value
    c.in_ok-push.ensures.ok

pub returns : goal.returns
returns c =
    let extent : c.box_of-extent.result ≡ box_of (segment_of c.args.edge.now) =
    c.box_of-extent.ensures ∙ ap box_of c.segment.ensures in
    let low_fits : FitsSigned w32 c.box_of-extent.result.low.y = search rules in
    let high_fits : FitsSigned w32 c.box_of-extent.result.high.y = search rules in
    let is_first : c.band_at-first.result
    ≡ band_at c.args.area (box_of (segment_of c.args.edge.now)).low.y =
    c.band_at-first.ensures.value
    ∙ ap (band_at c.args.area)
    (to_z-of_z w32 c.box_of-extent.result.low.y low_fits
    ∙ ap (λ (b : Box2). b.low.y) extent) in
    let is_last : c.band_at-last.result
    ≡ band_at c.args.area (box_of (segment_of c.args.edge.now)).high.y =
    c.band_at-last.ensures.value
    ∙ ap (band_at c.args.area)
    (to_z-of_z w32 c.box_of-extent.result.high.y high_fits
    ∙ ap (λ (b : Box2). b.high.y) extent) in
    let rises : band_at c.args.area (box_of (segment_of c.args.edge.now)).low.y
    ≤ band_at c.args.area (box_of (segment_of c.args.edge.now)).high.y =
    at_rises c.args.area (box_of (segment_of c.args.edge.now)).low.y
    (box_of (segment_of c.args.edge.now)).high.y c.requires.inside.low_in
    (ends_in c.args.area c.args.edge.now c.requires.inside).2 in
    let done : c.bands.k ≡ c.band_at-last.result + 1 =
    omega (
      arith,
      is_first,
      is_last,
      rises,
      c.bands-test.false,
      c.bands.auto.k,
      c.bands.auto.k-end,
    ) in
    λ edges. filled_bands c.args.area c.args.bands.now.items c.bands.bands.items edges
    c.args.edge.now c.band_at-first.result c.band_at-last.result c.bands.k
    c.bands.invariant done is_first is_last c.requires.inside
