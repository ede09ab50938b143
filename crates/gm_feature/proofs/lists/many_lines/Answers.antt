use Rattle.std.proofs.Common.{◌≡◌, ◌++◌, ◌∷◌, []}
use Rattle.std.proofs.lemmas.Result.{err_from_is_err_and}
use Rattle.gm_feature.specs.Reader.{members_from, points_from}
use Rattle.gm_feature.proofs.Loop.{goes_on, ends}
use Rattle.gm_feature.proofs.lists.many_lines.Goals as goal

pub returns-in_err-line : goal.returns-in_err-line
returns-in_err-line c =
    let p = err_from_is_err_and c.from_residual-in_err-line.result
    c.from_residual-in_err-line.ensures.1 in
    rw (p.1, p.2) (ends points_from c.in_err-line.field-0.0 c.members.lines.items c.args.count
    c.members.counter c.members.rest.now
    (members_from points_from c.args.count c.args.bytes.now) c.members-test.true
    c.in_err-line.ensures c.members.invariant)

pub members-preserved : goal.members-preserved
members-preserved c =
    let x = c.in_ok-line.line in
    let e : c.push.new.self.items ≡ c.members.lines.items ++ x ∷ [] = c.in_ok-push.ensures.items in
    rw e (goes_on points_from c.members.lines.items c.args.count c.members.counter
    c.members.rest.now x c.in_ok-line.after.now
    (members_from points_from c.args.count c.args.bytes.now) c.members-test.true
    c.in_ok-line.ensures c.members.invariant)
