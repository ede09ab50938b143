use Rattle.gm_filter.specs.Tree.{tree}
use Rattle.gm_filter.proofs.Trials.{may_try}
use Rattle.gm_filter.proofs.truth.holds.Goals as goal

pub is_passed-requires : goal.is_passed-requires
is_passed-requires c =
    may_try c.requires.of c.args.feature.now c.requires.feature_fits (tree c.args.filter.now)
    c.requires.filter_suits
