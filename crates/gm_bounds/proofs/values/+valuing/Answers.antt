use Rattle.gm_bounds.specs.Values.{range_rules}
use Rattle.gm_bounds.proofs.Members.{next_all, next_any, at_and, at_or}
use Rattle.gm_bounds.proofs.values.+valuing.Goals as goal

pub ranges_in-returns-in-And : goal.ranges_in-returns-in-And
ranges_in-returns-in-And t c =
    at_and (range_rules c.args.at c.args.kind) c.ranges_in_all.result c.args.filter.now
    c.in-And.members c.deref.result.now c.in-And.is c.deref.ensures.value
    c.ranges_in_all.ensures

pub ranges_in-returns-in_ok-ranges_in_any-in-Or : goal.ranges_in-returns-in_ok-ranges_in_any-in-Or
ranges_in-returns-in_ok-ranges_in_any-in-Or t c =
    at_or (range_rules c.args.at c.args.kind) c.counted.result c.args.filter.now c.in-Or.members
    c.deref-in-Or.result.now c.in_ok-ranges_in_any-in-Or.field-0 c.in-Or.is
    c.deref-in-Or.ensures.value c.in_ok-ranges_in_any-in-Or.ensures c.counted.ensures

pub ranges_in_all-members-preserved : goal.ranges_in_all-members-preserved
ranges_in_all-members-preserved t c =
    next_all (range_rules c.args.at c.args.kind) c.args.filters.now c.members.filter-index
    c.filter-item.result c.members.found c.in_ok-next.next c.in_ok-found.found _
    c.members-test.true c.filter-item.is c.in_ok-next.ensures c.in_ok-found.ensures
    c.members.invariant

pub ranges_in_any-members-preserved : goal.ranges_in_any-members-preserved
ranges_in_any-members-preserved t c =
    next_any (range_rules c.args.at c.args.kind) c.args.filters.now c.members.filter-index
    c.filter-item.result c.members.found c.in_ok-next.next c.in_ok-found.found _
    c.members-test.true c.filter-item.is c.in_ok-next.ensures c.in_ok-found.ensures
    c.members.invariant
