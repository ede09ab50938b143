use Rattle.gm_scan.proofs.Holding.{few_rows}
use Rattle.gm_scan.proofs.laws.ranges_apart_have_few_rows.Goals as goal

pub returns : goal.returns
returns c = few_rows
