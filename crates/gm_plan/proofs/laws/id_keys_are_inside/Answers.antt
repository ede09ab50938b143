use Rattle.gm_plan.proofs.Ids.{IdLaws, id_read}
use Rattle.gm_plan.proofs.laws.id_keys_are_inside.Goals as goal

pub returns : goal.returns
returns c =
    let laws : IdLaws =
    record {
      to_the_end = c.keys_between_values.ensures.to_the_end;
      one = c.keys_of_one_identifier.ensures;
    } in
    λ s t target f holds suits applies some fits is. id_read laws s t target f
    (c.identifiers_are_listed.ensures s t f suits fits is)
