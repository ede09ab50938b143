use Rattle.gm_plan.proofs.Values.{ValueLaws, value_read}
use Rattle.gm_plan.proofs.laws.attr_keys_are_inside.Goals as goal

pub returns : goal.returns
returns c =
    let laws : ValueLaws = record {
      both = c.keys_between_values.ensures.both;
      to_the_end = c.keys_between_values.ensures.to_the_end;
      first = c.joined_ranges_hold_both.ensures.first;
      second = c.joined_ranges_hold_both.ensures.second;
    } in
    λ number s t target f holds suits applies some fits is.
    value_read laws s t target number f applies
    (c.forms_and_more_are_in_ranges.ensures s t f number f.id suits fits is
    (c.identifiers_are_bytes.ensures f.id fits.identifier))
