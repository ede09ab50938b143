use Rattle.gm_strategy.specs.Branches.{trees_in}
use Rattle.std.proofs.Common.{◌<◌, length, arith}
use Rattle.gm_strategy.proofs.Gathering.{enough_found, left, next_gathered, short}
use Rattle.gm_strategy.proofs.branches.+gathering.Goals as goal

pub gather_all-returns-then-len-gt-BRANCH_LIMIT : goal.gather_all-returns-then-len-gt-BRANCH_LIMIT
gather_all-returns-then-len-gt-BRANCH_LIMIT t c =
    let many : 8 < length c.members.into.items =
    omega (arith, c.len.ensures, c.if-len-gt-BRANCH_LIMIT.true, c.members.into.ok.0) in
    enough_found c.members.into.items (left c.members.filter-index c.args.filters.now) _ many
    c.members.invariant.few c.members.invariant.same

pub gather_all-members-preserved : goal.gather_all-members-preserved
gather_all-members-preserved t c = record {
  few = short c.gather.new.into.items _ c.in_ok-gather.ensures;
  same = next_gathered c.args.filters.now c.members.filter-index c.filter-item.result
      (trees_in c.members.into.items) (trees_in c.gather.new.into.items) _
      c.members-test.true c.filter-item.is c.in_ok-gather.ensures c.members.invariant.same;
}
