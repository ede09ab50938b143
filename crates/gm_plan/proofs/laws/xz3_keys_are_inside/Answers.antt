use Rattle.gm_plan.proofs.PlaneReads.{PlaneLaws}
use Rattle.gm_plan.proofs.SpaceReads.{TimeLaws, xz3_read}
use Rattle.gm_plan.proofs.laws.xz3_keys_are_inside.Goals as goal

pub returns : goal.returns
returns c =
    let laws : PlaneLaws = record {
      boxes = c.geometries_are_in_boxes.ensures;
      values = c.fitting_features_have_values.ensures.value;
      rises = c.normal_rises.ensures;
      codes = record {
        codes = c.keys_between_codes.ensures.codes;
        in_bin = c.keys_between_codes.ensures.in_bin;
        bins =
            c.keys_between_codes.ensures.bins;
      };
      shards = record { few = c.shards_are_few.ensures };
    } in
    let times : TimeLaws = record {
      intervals = c.dates_are_in_intervals.ensures;
      dates = c.fitting_features_have_values.ensures.date;
      bins = c.bins.ensures;
    } in
    xz3_read laws times c.xz3_curve.ensures
