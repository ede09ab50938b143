use Rattle.gm_bounds.specs.Space.{box_rules}
use Rattle.gm_bounds.proofs.Members.{next_all, next_any, next_kept}
use Rattle.gm_bounds.proofs.space.+boxing.Goals as goal

pub boxes_in_all-members-preserved : goal.boxes_in_all-members-preserved
boxes_in_all-members-preserved t c =
    record {
      has_kept = next_kept c.args.filters.now c.members.filter-index c.filter-item.result
          c.members-test.true c.filter-item.is c.members.invariant.has_kept;
      same = next_all (box_rules c.args.at c.args.points) c.args.filters.now c.members.filter-index
          c.filter-item.result c.members.found c.in_ok-next.next c.in_ok-found.found _
          c.members-test.true c.filter-item.is c.in_ok-next.ensures c.in_ok-found.ensures
          c.members.invariant.same;
    }

pub boxes_in_any-members-preserved : goal.boxes_in_any-members-preserved
boxes_in_any-members-preserved t c =
    record {
      has_kept = next_kept c.args.filters.now c.members.filter-index c.filter-item.result
          c.members-test.true c.filter-item.is c.members.invariant.has_kept;
      same = next_any (box_rules c.args.at c.args.points) c.args.filters.now c.members.filter-index
          c.filter-item.result c.members.found c.in_ok-next.next c.in_ok-found.found _
          c.members-test.true c.filter-item.is c.in_ok-next.ensures c.in_ok-found.ensures
          c.members.invariant.same;
    }
