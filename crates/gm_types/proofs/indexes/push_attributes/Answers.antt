use Rattle.gm_types.specs.Index.{has_index}
use Rattle.gm_types.proofs.EnabledIndexes.{next_attribute}
use Rattle.gm_types.proofs.indexes.push_attributes.Goals as goal

pub loop-number-preserved : goal.loop-number-preserved
loop-number-preserved c =
    next_attribute (has_index c.args.of.now) c.args.list.now c.loop-number.list
    c.push_enabled.new.list c.loop-number.number
    c.loop-number.invariant c.in_ok-push_enabled.ensures
