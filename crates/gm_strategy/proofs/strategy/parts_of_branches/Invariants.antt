use Rattle.std.proofs.Common.{◌≡◌, true, map, take}
use Rattle.std.specs.List.{list_all}
use Rattle.gm_strategy.specs.Branches.{trees_in}
use Rattle.gm_strategy.specs.Choice.{chosen_of, chosen_for}
use Rattle.gm_strategy.specs.Strategy.{is_bounded}
use Rattle.gm_strategy.proofs.strategy.parts_of_branches.Given as goal

abbrev pub invariant-branches : goal.invariant-branches
invariant-branches l = record {
  bounded : list_all (is_bounded l.of) (trees_in (take l.branch-index l.branches)) ≡ true;
  parts : map chosen_of l.parts ≡ map (chosen_for l.of) (trees_in (take l.branch-index l.branches));
}
