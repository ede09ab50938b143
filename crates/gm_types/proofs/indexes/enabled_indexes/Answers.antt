use Rattle.gm_types.proofs.EnabledIndexes.{all_enabled}
use Rattle.gm_types.proofs.indexes.enabled_indexes.Goals as goal

pub returns : goal.returns
returns c = all_enabled c.args.of.now c.new-list.result c.push_enabled.new.list
    c.push_enabled-2.new.list c.push_enabled-3.new.list
    c.push_enabled-4.new.list c.push_enabled-5.new.list c.push_attributes.new.list
    c.new-list.ensures
    c.in_ok-push_enabled.ensures
    c.in_ok-push_enabled-2.ensures c.in_ok-push_enabled-3.ensures c.in_ok-push_enabled-4.ensures
    c.in_ok-push_enabled-5.ensures
    c.in_ok-push_attributes.ensures
