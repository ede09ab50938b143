use Rattle.std.proofs.Common.{refl}
use Rattle.gm_feature.specs.Reader.{points_from}
use Rattle.gm_feature.proofs.Widening.{by_lines, by_points, lines_more, owes_start, owes_on}
use Rattle.gm_feature.proofs.Widening.{owes_done}
use Rattle.gm_feature.proofs.spans.by_many_lines.Goals as goal

pub members-init : goal.members-init
members-init c =
    λ x e. owes_start points_from by_lines c.args.count c.args.extent c.args.bytes.now x e

pub members-preserved : goal.members-preserved
members-preserved c = λ x e.
    owes_on points_from by_lines by_points lines_more c.args.count c.members.counter
    c.members.extent c.by_points-wider.result.0 c.members.rest.now
    c.by_points-wider.result.1.now
    (by_lines c.args.extent x.0) x.1 c.members-test.true c.by_points-wider.ensures
    (c.members.invariant x e)

pub returns : goal.returns
returns c = λ x e.
    owes_done points_from by_lines (λ e. refl) c.args.count c.members.counter c.members.extent
    c.members.rest.now (by_lines c.args.extent x.0) x.1
    c.members-test.false (c.members.invariant x e)
