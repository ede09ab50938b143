use Rattle.gm_types.proofs.TypeLists.{no_types}
use Rattle.gm_types.proofs.type_list.TypeList.new.Goals as goal

pub invariant_of-result : goal.invariant_of-result
invariant_of-result c = no_types c.new.result.items c.new.ensures.items
