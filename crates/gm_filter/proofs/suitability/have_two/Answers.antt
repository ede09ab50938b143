use Rattle.std.proofs.Common.{sym, ap}
use Rattle.std.specs.Prelude.{nat_le}
use Rattle.gm_filter.proofs.Trees.{length-trees}
use Rattle.gm_filter.proofs.suitability.have_two.Goals as goal

pub returns : goal.returns
returns c = ap (λ n. nat_le 2 n) (sym (length-trees c.args.filters.now))
