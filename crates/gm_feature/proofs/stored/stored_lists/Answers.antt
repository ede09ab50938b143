use Rattle.std.proofs.Common.{refl, sym, ◌∙◌}
use Rattle.gm_geom.specs.Geometry.{points_of}
use Rattle.gm_feature.specs.Writer.{geometry_bytes}
use Rattle.gm_base.proofs.Options.{no_some}
use Rattle.gm_feature.proofs.stored.stored_lists.Goals as goal

pub returns-in-None : goal.returns-in-None
returns-in-None c = λ g rest e len fine many is.
    let extent = c.extents_are_least.ensures.there g fine in
    no_some extent.0 (sym c.in-None.is ∙ is ∙ extent.1)

pub returns-in-Some : goal.returns-in-Some
returns-in-Some c = λ g rest e len fine many is.
    let extent = sym is ∙ c.in-Some.is in
    let least = c.extents_are_least.ensures.least (points_of g) c.in-Some.bounds extent in (
      g,
      record {
        kept = fine;
        many = many;
        same = c.front_of-bytes.ensures (geometry_bytes g) rest e len;
        extent = extent;
        least = least;
      },
      refl,
    )
