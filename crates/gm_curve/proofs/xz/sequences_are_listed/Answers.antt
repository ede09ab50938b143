use Rattle.gm_curve.proofs.Places.{length-listing, listed}
use Rattle.gm_curve.proofs.xz.sequences_are_listed.Goals as goal

pub returns-clause-count : goal.returns-clause-count
returns-clause-count g c = length-listing g.row.D

pub returns-clause-listed : goal.returns-clause-listed
returns-clause-listed g c = listed g.row.D
