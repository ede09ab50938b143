use Rattle.gm_feature.specs.Reader.{points_from}
use Rattle.gm_feature.proofs.Leaps.{left_start, left_on, left_done}
use Rattle.gm_feature.proofs.skips.skip_many_lines.Goals as goal

pub members-init : goal.members-init
members-init c = λ x e. left_start points_from c.args.count c.args.bytes.now x e

pub members-preserved : goal.members-preserved
members-preserved c =
    λ x e. left_on points_from c.args.count c.members.counter c.members.rest.now
    c.skip_points-rest.result.now x.1 c.members-test.true c.skip_points-rest.ensures
    (c.members.invariant x e)

pub returns : goal.returns
returns c = λ x e. left_done points_from c.args.count c.members.counter c.members.rest.now x.1
    c.members-test.false (c.members.invariant x e)
