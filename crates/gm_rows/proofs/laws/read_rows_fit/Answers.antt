use Rattle.gm_rows.proofs.RowsFit.{row_fits}
use Rattle.gm_rows.proofs.laws.read_rows_fit.Goals as goal

pub returns : goal.returns
returns c = row_fits
