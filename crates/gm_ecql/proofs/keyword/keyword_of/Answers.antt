use Rattle.gm_ecql.specs.Keyword.{keyword_of}
use Rattle.gm_ecql.proofs.keyword.keyword_of.Goals as goal

pub returns : goal.returns
unfolding keyword_of
returns c = c.named.ensures
