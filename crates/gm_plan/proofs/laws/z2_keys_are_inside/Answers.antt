use Rattle.gm_plan.proofs.PlaneReads.{PlaneLaws, z2_read}
use Rattle.gm_plan.proofs.laws.z2_keys_are_inside.Goals as goal

pub returns : goal.returns
returns c =
    let laws : PlaneLaws = record {
      boxes = c.geometries_are_in_boxes.ensures;
      values = c.fitting_features_have_values.ensures.value;
      rises = c.normal_rises.ensures;
      codes = record {
        codes = c.keys_between_codes.ensures.codes;
        in_bin = c.keys_between_codes.ensures.in_bin;
        bins =
            c.keys_between_codes.ensures.bins;
      };
      shards = record { few = c.shards_are_few.ensures };
    } in
    z2_read laws c.z2_curve.ensures
