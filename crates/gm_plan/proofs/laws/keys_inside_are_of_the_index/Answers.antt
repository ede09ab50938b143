use Rattle.gm_plan.proofs.Begins.{BeginLaws, of_the_index}
use Rattle.gm_plan.proofs.laws.keys_inside_are_of_the_index.Goals as goal

pub returns : goal.returns
returns c =
    let laws : BeginLaws = record {
      codes = c.keys_within_begin_alike.ensures.codes;
      in_bin = c.keys_within_begin_alike.ensures.in_bin;
      bins = c.keys_within_begin_alike.ensures.bins;
      values = c.keys_within_begin_alike.ensures.values;
      to_the_end = c.keys_within_begin_alike.ensures.to_the_end;
    } in
    of_the_index laws c.keys_are_laid_out.ensures c.prefixes_tell_indexes_apart.ensures
