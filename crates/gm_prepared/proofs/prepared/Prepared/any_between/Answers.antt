use Rattle.std.proofs.Common.{◌≡◌, ◌+◌, ◌<◌, ◌≤◌, ◌<ℤ◌, true, false, length, sym, ap, ◌∙◌, arith}
use mir.Val.{to_z, of_z}
use Rattle.std.specs.Int.{w32, int_min, int_max}
use Rattle.std.specs.List.{list_any}
use Rattle.std.proofs.lemmas.Int.{ints, clamps}
use Rattle.gm_prepared.specs.Edge.{numbered_edges}
use Rattle.gm_prepared.specs.Band.{band_at}
use Rattle.gm_prepared.proofs.Between.{AreThose, none_between, none_above, none_below, some_in_band}
use Rattle.gm_prepared.proofs.Between.{first_more, read_band}
use Rattle.gm_prepared.proofs.prepared.Prepared.any_between.Goals as goal

pub returns-then-high-self : goal.returns-then-high-self
returns-then-high-self g c =
    let under : c.args.high <ℤ c.self.inside.bounds.low.y =
    omega (arith, ints, c.if-high-self.true) in
    sym (none_above c.self.inside.geometry c.self.inside.bounds c.self.inside.lists.items c.args.low
    c.args.high (g.T.EdgeTest.passed c.args.test.now) c.self.invariant c.requires under)
    ∙ ap (λ geometry. list_any (g.T.EdgeTest.passed c.args.test.now) (numbered_edges geometry))
    c.self.view_is

pub returns-then-self-low : goal.returns-then-self-low
returns-then-self-low g c =
    let over : c.self.inside.bounds.high.y <ℤ c.args.low =
    omega (arith, ints, c.if-self-low.true) in
    sym (none_below c.self.inside.geometry c.self.inside.bounds c.self.inside.lists.items c.args.low
    c.args.high (g.T.EdgeTest.passed c.args.test.now) c.self.invariant c.requires over)
    ∙ ap (λ geometry. list_any (g.T.EdgeTest.passed c.args.test.now) (numbered_edges geometry))
    c.self.view_is

pub band_at-first-requires-clause-to : goal.band_at-first-requires-clause-to
band_at-first-requires-clause-to g c =
    omega (arith, ints, clamps, c.max.ensures.value, c.if-self-low.false, c.self.invariant.along)

pub band_at-last-requires-clause-from : goal.band_at-last-requires-clause-from
band_at-last-requires-clause-from g c =
    omega (arith, ints, clamps, c.min.ensures.value, c.if-high-self.false, c.self.invariant.along)

pub bands-preserved : goal.bands-preserved
bands-preserved g c =
    let within : c.bands.k < length c.self.inside.lists.items = omega arith in
    first_more (g.T.EdgeTest.passed c.args.test.now) c.self.inside.lists.items
    c.band_at-first.result c.bands.k c.index.result.now c.bands.invariant within c.index.ensures
    (read_band (g.T.EdgeTest.passed c.args.test.now) c.index.result.now c.as_slice.result.now
    c.any_passes.result false c.as_slice.ensures c.any_passes.ensures c.if-any_passes.false)

pub returns-then-any_passes : goal.returns-then-any_passes
returns-then-any_passes g c =
    let within : c.bands.k < length c.self.inside.lists.items = omega arith in
    let passes : list_any (g.T.EdgeTest.passed c.args.test.now) c.index.result.now ≡ true =
    read_band (g.T.EdgeTest.passed c.args.test.now) c.index.result.now c.as_slice.result.now
    c.any_passes.result true c.as_slice.ensures c.any_passes.ensures c.if-any_passes.true in
    sym (some_in_band c.self.inside.geometry c.self.inside.bounds c.self.inside.lists.items
    c.bands.k c.index.result.now (g.T.EdgeTest.passed c.args.test.now) c.self.invariant within
    (sym (ap (list_any (g.T.EdgeTest.passed c.args.test.now)) c.index.ensures) ∙ passes))
    ∙ ap (λ geometry. list_any (g.T.EdgeTest.passed c.args.test.now) (numbered_edges geometry))
    c.self.view_is

pub returns : goal.returns
returns g c =
    let low : to_z w32 (of_z w32 c.max.result) ≡ int_max c.args.low c.self.inside.bounds.low.y =
    omega (arith, ints, clamps, c.max.ensures.value) in
    let high : to_z w32 (of_z w32 c.min.result) ≡ int_min c.args.high c.self.inside.bounds.high.y =
    omega (arith, ints, clamps, c.min.ensures.value) in
    let those : AreThose c.self.inside.bounds c.args.low c.args.high c.band_at-first.result
    c.band_at-last.result = record {
      first_is = c.band_at-first.ensures.value ∙ ap (band_at c.self.inside.bounds) low;
      last_is = c.band_at-last.ensures.value ∙ ap (band_at c.self.inside.bounds) high;
    } in
    let done : c.band_at-last.result + 1 ≤ c.bands.k = c.bands-test.false in
    sym (none_between c.self.inside.geometry c.self.inside.bounds c.self.inside.lists.items
    c.args.low c.args.high c.band_at-first.result c.band_at-last.result c.bands.k
    (g.T.EdgeTest.passed c.args.test.now) c.self.invariant those c.requires done
    c.bands.invariant)
    ∙ ap (λ geometry. list_any (g.T.EdgeTest.passed c.args.test.now) (numbered_edges geometry))
    c.self.view_is
