use Rattle.gm_types.proofs.SameTypes.{same_decides}
use Rattle.gm_types.proofs.sameness.is_same.Goals as goal

pub returns : goal.returns
returns c = same_decides c.args.one.now c.args.two.now c.attributes-one.ensures.form
    c.attributes-two.ensures.form c.in_ok-text.text c.in_ok-other.other
    c.in_ok-text.ensures c.in_ok-other.ensures c.are_alike.result c.are_alike.ensures
