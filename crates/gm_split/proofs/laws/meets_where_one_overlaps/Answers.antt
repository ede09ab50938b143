use Rattle.gm_split.proofs.Windowless.{one_overlaps, meets_one}
use Rattle.gm_split.proofs.laws.meets_where_one_overlaps.Goals as goal

pub returns : goal.returns
returns c = λ dimensions ws reach. (one_overlaps dimensions reach ws, meets_one dimensions reach ws)
