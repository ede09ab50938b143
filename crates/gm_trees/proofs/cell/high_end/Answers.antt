use Rattle.std.proofs.Common.{◌≤◌, arith}
use Rattle.gm_trees.specs.ZLaws.{low_side, cell_fits}
use Rattle.gm_trees.proofs.cell.high_end.Goals as goal

pub overflow_mul-result : goal.overflow_mul-result
overflow_mul-result c =
    let few : c.args.below ≤ 31 = omega arith in
    rw (low_side c.args.below few)
    (omega (
      arith,
      cell_fits c.args.index c.args.level c.args.below c.requires.index c.requires.few,
    ))

pub overflow_add-result : goal.overflow_add-result
overflow_add-result c =
    let few : c.args.below ≤ 31 = omega arith in
    rw (low_side c.args.below few)
    (omega (
      arith,
      cell_fits c.args.index c.args.level c.args.below c.requires.index c.requires.few,
    ))
