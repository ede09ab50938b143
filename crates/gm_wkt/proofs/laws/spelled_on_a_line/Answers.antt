use Rattle.gm_wkt.proofs.OnALine.{clear, some}
use Rattle.gm_wkt.proofs.laws.spelled_on_a_line.Goals as goal

pub returns-clause-some : goal.returns-clause-some
returns-clause-some c = some

pub returns-clause-line : goal.returns-clause-line
returns-clause-line c = clear
