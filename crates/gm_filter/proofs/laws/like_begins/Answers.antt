use Rattle.gm_filter.proofs.Fronts.{like_front, like_whole}
use Rattle.gm_filter.proofs.laws.like_begins.Goals as goal

pub returns-clause-front : goal.returns-clause-front
returns-clause-front c = like_front

pub returns-clause-whole : goal.returns-clause-whole
returns-clause-whole c = like_whole
