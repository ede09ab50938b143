use Rattle.gm_wkt.proofs.Readers.{list_founds, list_inside, ok_maps}
use Rattle.gm_wkt.proofs.spelled.ItemsSpelled.read.Goals as goal

pub returns-in-Some-clause-found : goal.returns-in-Some-clause-found
returns-in-Some-clause-found g c =
    ok_maps c.read_members.result _ _
    (λ x u. list_founds (g.T.Spelled.spells c.args.loose) c.args.text.now c.in-Some.inside.now
    x.0 x.1.now c.in-Some.ensures u) c.read_members.ensures.found

pub returns-in-Some-clause-only : goal.returns-in-Some-clause-only
returns-in-Some-clause-only g c =
    λ front tail xs l ends e. c.read_members.ensures.only xs tail
    (list_inside (g.T.Spelled.spells c.args.loose) c.args.text.now c.in-Some.inside.now front xs
    tail c.in-Some.ensures l e)
