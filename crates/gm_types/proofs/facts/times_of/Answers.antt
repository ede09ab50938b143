use Rattle.gm_types.specs.Outline.{outlined}
use Rattle.gm_types.proofs.Told.{told_times}
use Rattle.gm_types.proofs.facts.times_of.Goals as goal

pub returns : goal.returns
returns c =
    told_times (outlined c.args.outline.now) c.in_ok-period.period c.in_ok-date.date
    c.in_ok-period.ensures c.in_ok-date.ensures
