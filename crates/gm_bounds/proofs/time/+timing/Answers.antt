use Rattle.gm_bounds.specs.Time.{interval_rules}
use Rattle.gm_bounds.proofs.Members.{next_all, next_any, at_and, at_or}
use Rattle.gm_bounds.proofs.time.+timing.Goals as goal

pub intervals_in-returns-in-And : goal.intervals_in-returns-in-And
intervals_in-returns-in-And t c =
    at_and (interval_rules c.args.at) c.intervals_in_all.result c.args.filter.now c.in-And.members
    c.deref.result.now c.in-And.is c.deref.ensures.value c.intervals_in_all.ensures

pub intervals_in-returns-in_ok-intervals_in_any-in-Or : goal.intervals_in-returns-in_ok-intervals_in_any-in-Or
intervals_in-returns-in_ok-intervals_in_any-in-Or t c =
    at_or (interval_rules c.args.at) c.counted.result c.args.filter.now c.in-Or.members
    c.deref-in-Or.result.now c.in_ok-intervals_in_any-in-Or.field-0 c.in-Or.is
    c.deref-in-Or.ensures.value c.in_ok-intervals_in_any-in-Or.ensures c.counted.ensures

pub intervals_in_all-members-preserved : goal.intervals_in_all-members-preserved
intervals_in_all-members-preserved t c =
    next_all (interval_rules c.args.at) c.args.filters.now c.members.filter-index
    c.filter-item.result c.members.found c.in_ok-next.next c.in_ok-found.found _
    c.members-test.true c.filter-item.is c.in_ok-next.ensures c.in_ok-found.ensures
    c.members.invariant

pub intervals_in_any-members-preserved : goal.intervals_in_any-members-preserved
intervals_in_any-members-preserved t c =
    next_any (interval_rules c.args.at) c.args.filters.now c.members.filter-index
    c.filter-item.result c.members.found c.in_ok-next.next c.in_ok-found.found _
    c.members-test.true c.filter-item.is c.in_ok-next.ensures c.in_ok-found.ensures
    c.members.invariant
