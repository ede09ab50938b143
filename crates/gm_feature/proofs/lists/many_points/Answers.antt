use Rattle.std.proofs.Common.{◌≡◌, ◌++◌, ◌∷◌, []}
use Rattle.std.proofs.lemmas.Result.{err_from_is_err_and}
use Rattle.gm_feature.specs.Reader.{members_from, point_from}
use Rattle.gm_feature.proofs.Loop.{goes_on, ends}
use Rattle.gm_feature.proofs.lists.many_points.Goals as goal

pub returns-in_err-point : goal.returns-in_err-point
returns-in_err-point c =
    let p = err_from_is_err_and c.from_residual-in_err-point.result
    c.from_residual-in_err-point.ensures.1 in
    rw (p.1, p.2) (ends point_from c.in_err-point.field-0.0 c.members.points.items c.args.count
    c.members.counter c.members.rest.now (members_from point_from c.args.count c.args.bytes.now)
    c.members-test.true c.in_err-point.ensures c.members.invariant)

pub members-preserved : goal.members-preserved
members-preserved c =
    let x = c.in_ok-point.point in
    let e : c.push.new.self.items ≡ c.members.points.items ++ x ∷ [] = c.in_ok-push.ensures.items in
    rw e (goes_on point_from c.members.points.items c.args.count c.members.counter
    c.members.rest.now x c.in_ok-point.after.now
    (members_from point_from c.args.count c.args.bytes.now) c.members-test.true
    c.in_ok-point.ensures c.members.invariant)
