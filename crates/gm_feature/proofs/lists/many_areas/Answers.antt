use Rattle.std.proofs.Common.{◌≡◌, ◌++◌, ◌∷◌, []}
use Rattle.std.proofs.lemmas.Result.{err_from_is_err_and}
use Rattle.gm_feature.specs.Reader.{members_from, lines_from}
use Rattle.gm_feature.proofs.Loop.{goes_on, ends}
use Rattle.gm_feature.proofs.lists.many_areas.Goals as goal

pub returns-in_err-rings : goal.returns-in_err-rings
returns-in_err-rings c =
    let p = err_from_is_err_and c.from_residual-in_err-rings.result
    c.from_residual-in_err-rings.ensures.1 in
    rw (p.1, p.2) (ends lines_from c.in_err-rings.field-0.0 c.members.areas.items c.args.count
    c.members.counter c.members.rest.now (members_from lines_from c.args.count c.args.bytes.now)
    c.members-test.true c.in_err-rings.ensures c.members.invariant)

pub members-preserved : goal.members-preserved
members-preserved c =
    let x = c.in_ok-rings.rings in
    let e : c.push.new.self.items ≡ c.members.areas.items ++ x ∷ [] = c.in_ok-push.ensures.items in
    rw e (goes_on lines_from c.members.areas.items c.args.count c.members.counter c.members.rest.now
    x c.in_ok-rings.after.now (members_from lines_from c.args.count c.args.bytes.now)
    c.members-test.true c.in_ok-rings.ensures c.members.invariant)
