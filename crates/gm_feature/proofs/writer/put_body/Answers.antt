use Rattle.gm_feature.proofs.Kept.{counted_rings, counted_many_lines, counted_many_areas}
use Rattle.gm_feature.proofs.writer.put_body.Goals as goal

pub put_lines-requires : goal.put_lines-requires
put_lines-requires c = counted_rings c.args.geometry.now c.in-Area.rings c.in-Area.is c.requires

pub put_lines-requires-in-ManyLines : goal.put_lines-requires-in-ManyLines
put_lines-requires-in-ManyLines c =
    counted_many_lines c.args.geometry.now c.in-ManyLines.lines c.in-ManyLines.is c.requires

pub put_areas-requires : goal.put_areas-requires
put_areas-requires c =
    counted_many_areas c.args.geometry.now c.in-ManyAreas.areas c.in-ManyAreas.is c.requires
