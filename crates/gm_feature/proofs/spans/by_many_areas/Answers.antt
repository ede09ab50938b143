use Rattle.std.proofs.Common.{refl}
use Rattle.gm_feature.specs.Reader.{lines_from}
use Rattle.gm_feature.proofs.Widening.{areas_more, by_areas, by_lines, owes_start, owes_on}
use Rattle.gm_feature.proofs.Widening.{owes_done}
use Rattle.gm_feature.proofs.spans.by_many_areas.Goals as goal

pub members-init : goal.members-init
members-init c =
    λ x e. owes_start lines_from by_areas c.args.count c.args.extent c.args.bytes.now x e

pub members-preserved : goal.members-preserved
members-preserved c = λ x e.
    owes_on lines_from by_areas by_lines areas_more c.args.count c.members.counter c.members.extent
    c.by_lines-wider.result.0 c.members.rest.now c.by_lines-wider.result.1.now
    (by_areas c.args.extent x.0) x.1 c.members-test.true c.by_lines-wider.ensures
    (c.members.invariant x e)

pub returns : goal.returns
returns c = λ x e.
    owes_done lines_from by_areas (λ e. refl) c.args.count c.members.counter c.members.extent
    c.members.rest.now (by_areas c.args.extent x.0) x.1
    c.members-test.false (c.members.invariant x e)
