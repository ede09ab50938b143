use Rattle.std.proofs.Common.{◌≡◌, ◌<◌, ◌^◌, length, None, sym, ap, ◌∙◌, arith}
use Rattle.gm_geom.specs.declared.geometry.Geometry.TheVariants as geo
use Rattle.gm_geom.specs.Validity.{fault_of}
use Rattle.gm_prepared.proofs.Numbers.{few_areas}
use Rattle.gm_prepared.proofs.edge.numbered_edges.Goals as goal

pub push_around-requires : goal.push_around-requires
push_around-requires c =
    let kept : fault_of (geo.ManyAreas c.in-ManyAreas.areas) ≡ None =
    sym (ap fault_of c.in-ManyAreas.is) ∙ c.requires in
    let few : length c.in-ManyAreas.areas < 2 ^ 32 = few_areas c.in-ManyAreas.areas kept in
    let same : length c.as_slice-in-ManyAreas.result.now ≡ length c.in-ManyAreas.areas =
    ap length c.as_slice-in-ManyAreas.ensures in
    omega (arith, few, same)
