use Rattle.gm_filter.specs.Tree.{tree}
use Rattle.gm_bounds.specs.Identifiers.{id_rules}
use Rattle.gm_bounds.proofs.IdBounds.{rising_next, rising_now}
use Rattle.gm_bounds.proofs.Members.{next_all, next_any, at_and, at_or}
use Rattle.gm_bounds.proofs.identifiers.+identifying.Goals as goal

pub ids-returns-in-And : goal.ids-returns-in-And
ids-returns-in-And t c =
    at_and id_rules c.ids_in_all.result c.args.filter.now c.in-And.members c.deref.result.now
    c.in-And.is c.deref.ensures.value c.ids_in_all.ensures

pub ids-returns-in_ok-ids_in_any-in-Or : goal.ids-returns-in_ok-ids_in_any-in-Or
ids-returns-in_ok-ids_in_any-in-Or t c =
    at_or id_rules c.sorted.result c.args.filter.now c.in-Or.members c.deref-in-Or.result.now
    c.in_ok-ids_in_any-in-Or.field-0 c.in-Or.is c.deref-in-Or.ensures.value
    c.in_ok-ids_in_any-in-Or.ensures c.sorted.ensures

pub ids_in_all-meet-requires-clause-other_rises : goal.ids_in_all-meet-requires-clause-other_rises
ids_in_all-meet-requires-clause-other_rises t c =
    rising_next c.in_ok-next.next (tree c.filter-item.result) c.in_ok-next.ensures

pub ids_in_all-members-preserved : goal.ids_in_all-members-preserved
ids_in_all-members-preserved t c = record {
  rising = rising_now c.members.found c.in_ok-next.next c.in_ok-found.found
      (tree c.filter-item.result) c.members.invariant.rising c.in_ok-next.ensures
      c.in_ok-found.ensures;
  same = next_all id_rules c.args.filters.now c.members.filter-index c.filter-item.result
      c.members.found c.in_ok-next.next c.in_ok-found.found _ c.members-test.true c.filter-item.is
      c.in_ok-next.ensures c.in_ok-found.ensures c.members.invariant.same;
}

pub ids_in_any-members-preserved : goal.ids_in_any-members-preserved
ids_in_any-members-preserved t c =
    next_any id_rules c.args.filters.now c.members.filter-index c.filter-item.result c.members.found
    c.in_ok-next.next c.in_ok-found.found _ c.members-test.true c.filter-item.is
    c.in_ok-next.ensures c.in_ok-found.ensures c.members.invariant
