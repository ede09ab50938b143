use Rattle.gm_bounds.proofs.InSpace.{SpaceLaws, found_in_boxes}
use Rattle.gm_bounds.proofs.laws.geometries_are_in_boxes.Goals as goal

pub returns : goal.returns
returns c =
    let laws : SpaceLaws = record {
      extent = c.extents_are_least.ensures.there;
      least = c.extents_are_least.ensures.least;
      overlap = c.overlaps_where_meeting.ensures;
      overlap_box = c.overlaps_a_box_it_meets.ensures;
      inside = c.meets_where_within.ensures;
      values = c.fitting_features_have_values.ensures.value;
    } in
    λ s t f d suit fits e place. found_in_boxes laws s t f d suit fits e place
