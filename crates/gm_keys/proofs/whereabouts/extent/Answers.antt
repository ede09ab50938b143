use Rattle.gm_geom.specs.Geometry.{points_of}
use Rattle.gm_keys.proofs.Places.{extent_in_world, kept_in_world}
use Rattle.gm_keys.proofs.whereabouts.extent.Goals as goal

pub returns-clause-in_world : goal.returns-clause-in_world
returns-clause-in_world c =
    extent_in_world (points_of c.args.geometry.now) c.bounds.result
    (kept_in_world c.args.geometry.now c.requires) c.bounds.ensures.extent
    c.bounds.ensures.least
