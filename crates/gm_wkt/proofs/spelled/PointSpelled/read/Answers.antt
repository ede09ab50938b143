use Rattle.gm_wkt.proofs.Points.{point_found}
use Rattle.gm_wkt.proofs.Readers.{point_none, point_same}
use Rattle.std.proofs.Common.{sym}
use Rattle.gm_wkt.proofs.spelled.PointSpelled.read.Goals as goal

pub returns-in-None-clause-only : goal.returns-in-None-clause-only
returns-in-None-clause-only c =
    λ front tail x spells ends e. point_none c.args.loose c.args.text.now front tail x
    c.in-None.ensures spells ends e

pub returns-in-Some-clause-found : goal.returns-in-Some-clause-found
returns-in-Some-clause-found c =
    point_found c.args.loose c.args.text.now (c.in-Some.read.0, c.in-Some.read.1.now)
    (sym c.in-Some.ensures)

pub returns-in-Some-clause-only : goal.returns-in-Some-clause-only
returns-in-Some-clause-only c =
    λ front tail x spells ends e. point_same c.args.loose c.args.text.now front tail
    c.in-Some.read.1.now c.in-Some.read.0 x c.in-Some.ensures spells ends e
