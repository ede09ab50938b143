use Rattle.gm_trees.specs.Z.{z_shape}
use Rattle.gm_plan.proofs.FewRanges.{few_runs}
use Rattle.gm_plan.proofs.Rooms.{z_room}
use Rattle.gm_plan.proofs.laws.points.Goals as goal

pub returns : goal.returns
returns g c = record {
  curve = record {
    ends = c.explained_runs_have_codes.ensures.ends;
    room = z_room g.row.D g.row.B c.requires;
    rise = c.explained_runs_rise.ensures.runs;
    few = few_runs g.row.D (z_shape g.row.D g.row.B) c.stop_level_is_the_stop.ensures
        c.level_runs_are_level_sets.ensures;
  };
  covered = c.points_are_covered.ensures;
}
