use Rattle.std.proofs.Common.{List, sym, subst}
use Rattle.std.proofs.lemmas.List.{take_more}
use Rattle.gm_prepared.specs.declared.edge.Edge.{Edge}
use Rattle.gm_prepared.specs.Placing.{AreBands}
use Rattle.gm_prepared.proofs.placing.placed.Goals as goal

pub edges-preserved : goal.edges-preserved
edges-preserved c =
    let P : List Edge → Type 0 = λ edges. AreBands c.args.area edges c.place_edge.new.bands.items in
    subst P (sym (take_more c.args.edges.now c.edges.edge-index _ c.edges-test.true))
    (c.in_ok-place_edge.ensures _ c.edges.invariant)
