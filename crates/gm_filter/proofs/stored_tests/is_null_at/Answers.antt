use Rattle.gm_feature.specs.Feature.{value_at}
use Rattle.gm_filter.proofs.Seen.{null_is_told}
use Rattle.gm_filter.proofs.stored_tests.is_null_at.Goals as goal

pub returns : goal.returns
returns c = λ f is. null_is_told (value_at f c.args.at) c.is_null.result (c.is_null.ensures f is)
