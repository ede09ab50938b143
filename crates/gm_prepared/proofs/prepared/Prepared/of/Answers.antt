use Rattle.std.proofs.Common.{List, sym, subst, ◌∙◌}
use Rattle.std.specs.List.{AllByRecursion}
use Rattle.gm_prepared.specs.declared.edge.Edge.{Edge}
use Rattle.gm_prepared.specs.Placing.{IsFlatIn}
use Rattle.gm_prepared.proofs.Between.{along}
use Rattle.gm_prepared.proofs.Numbered.{flat_edges}
use Rattle.gm_prepared.proofs.Meets.{prepared_of}
use Rattle.gm_prepared.proofs.prepared.Prepared.of.Goals as goal

pub placed-requires-clause-along : goal.placed-requires-clause-along
placed-requires-clause-along c =
    along c.args.geometry.now c.bounds-extent.result c.bounds-extent.ensures.extent
    c.bounds-extent.ensures.least.holds

pub placed-requires-clause-inside : goal.placed-requires-clause-inside
placed-requires-clause-inside c =
    let P : List Edge → Type 0 = λ edges. AllByRecursion (IsFlatIn c.bounds-extent.result) edges in
    subst P (sym (c.as_slice.ensures ∙ c.in_ok-edges.ensures))
    (flat_edges c.bounds-extent.result c.args.geometry.now
    (c.holds_each_edge.ensures c.args.geometry.now c.bounds-extent.result
    c.bounds-extent.ensures.least.holds))

pub invariant_of-result : goal.invariant_of-result
invariant_of-result c =
    prepared_of c.args.geometry.now c.in_ok-same.same c.bounds-extent.result c.as_slice.result.now
    c.in_ok-lists.lists.items c.in_ok-same.ensures (c.as_slice.ensures ∙ c.in_ok-edges.ensures)
    c.requires c.bounds-extent.ensures.extent c.bounds-extent.ensures.least.holds
    (flat_edges c.bounds-extent.result c.args.geometry.now
    (c.holds_each_edge.ensures c.args.geometry.now c.bounds-extent.result
    c.bounds-extent.ensures.least.holds))
    c.in_ok-lists.ensures
