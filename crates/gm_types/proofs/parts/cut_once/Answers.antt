use Rattle.gm_base.proofs.Lists.{rest_whole}
use Rattle.gm_types.proofs.Cuts.{cut_none, cut_some}
use Rattle.gm_types.proofs.parts.cut_once.Goals as goal

pub returns-then-len-text-clause-cut : goal.returns-then-len-text-clause-cut
returns-then-len-text-clause-cut c = cut_none _ _ _ c.part_len-len.ensures.value c.if-len-text.true

pub returns-clause-cut : goal.returns-clause-cut
returns-clause-cut c =
    rw rest_whole (cut_some _ _ _ c.part_len-len.ensures.value c.if-len-text.false)
