use Rattle.gm_types.specs.Outline.{outlined}
use Rattle.gm_types.proofs.Told.{told_trees}
use Rattle.gm_types.proofs.facts.trees_of.Goals as goal

pub returns : goal.returns
returns c =
    told_trees (outlined c.args.outline.now) c.in_ok-shards.shards c.in_ok-precision.precision
    c.in_ok-shards.ensures c.in_ok-precision.ensures
