use Rattle.gm_types.specs.Outline.{outlined}
use Rattle.gm_types.proofs.Told.{told_widths}
use Rattle.gm_types.proofs.facts.widths_of.Goals as goal

pub returns : goal.returns
returns c =
    told_widths (outlined c.args.outline.now) c.in_ok-two.two c.in_ok-three.three
    c.in_ok-two.ensures c.in_ok-three.ensures
