use Rattle.std.proofs.Common.{◌≤◌, ap, ◌∙◌, length, arith}
use Rattle.std.proofs.lemmas.List.{length-map}
use Rattle.std.specs.Borrow.{Bor}
use Rattle.gm_filter.specs.declared.filter.Filter.{Filter}
use Rattle.gm_filter.specs.Tree.{tree}
use Rattle.gm_strategy.specs.Branches.{trees_in}
use Rattle.gm_strategy.proofs.Plans.{few_suit}
use Rattle.gm_strategy.proofs.strategy.split.Goals as goal

pub parts_of_branches-requires : goal.parts_of_branches-requires
parts_of_branches-requires c =
    let found = ap trees_in c.as_slice.ensures.value ∙ c.in_ok-branches.ensures in
    let long = length-map c.as_slice.result.now (λ (filter : Bor Filter). tree filter.now) in
    let few : length (trees_in c.as_slice.result.now) ≤ 8 =
    omega (
      arith,
      long,
      c.as_slice.ensures.len,
      c.len.ensures,
      c.if-len-gt-BRANCH_LIMIT.false,
    ) in
    few_suit c.args.of.now (tree c.args.filter.now) (trees_in c.as_slice.result.now) found
    few c.requires
