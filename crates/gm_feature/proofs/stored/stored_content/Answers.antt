use Rattle.gm_geom.specs.declared.geometry.Geometry.{Geometry}
use Rattle.gm_feature.specs.declared.value.Value.TheVariants as value
use Rattle.gm_feature.specs.Reader.{geometry_from}
use Rattle.gm_feature.proofs.Seen.{made_says}
use Rattle.gm_feature.proofs.stored.stored_content.Goals as goal

pub returns-in-Geo : goal.returns-in-Geo
returns-in-Geo c = λ x e.
    made_says (λ (g : Geometry). value.Geo g) (geometry_from c.in-Geo.field-0 c.args.bytes.now)
    c.stored_geometry.result (c.stored_geometry.ensures c.in-Geo.field-0) x
    (rw c.in-Geo.is at e)
