use Rattle.std.proofs.Common.{rules}
use Rattle.gm_filter.specs.declared.filter.Filter.TheViews.{the_lemmas}
use Rattle.gm_filter.proofs.Suiting.{next_suits}
use Rattle.gm_filter.proofs.stored.+passing.Goals as goal

pub are_all_passed-is_passed-requires : goal.are_all_passed-is_passed-requires
are_all_passed-is_passed-requires t c = (
  search (rules, the_lemmas),
  (
    next_suits c.args.stored.now.of.now c.args.filters.now c.members.filter-index
        c.filter-item.result c.members-test.true c.filter-item.is c.members.invariant.suits,
    c.requires.stored,
  ),
)

pub is_any_passed-is_passed-requires : goal.is_any_passed-is_passed-requires
is_any_passed-is_passed-requires t c = (
  search (rules, the_lemmas),
  (
    next_suits c.args.stored.now.of.now c.args.filters.now c.members.filter-index
        c.filter-item.result c.members-test.true c.filter-item.is c.members.invariant.suits,
    c.requires.stored,
  ),
)
