use Rattle.gm_trees.specs.Xz.{xz_shape}
use Rattle.gm_plan.proofs.FewRanges.{few_runs}
use Rattle.gm_plan.proofs.Rooms.{xz_room}
use Rattle.gm_plan.proofs.laws.objects.Goals as goal

pub returns : goal.returns
returns g c = record {
  curve = record {
    ends = c.explained_runs_have_codes.ensures.ends;
    room = xz_room g.row.D g.row.G c.requires;
    rise = c.explained_runs_rise.ensures.runs;
    few = few_runs g.row.D (xz_shape g.row.D g.row.G) c.stop_level_is_the_stop.ensures
        c.level_runs_are_level_sets.ensures;
  };
  covered = c.objects_are_covered.ensures;
}
