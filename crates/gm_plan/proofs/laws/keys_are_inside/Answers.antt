use Rattle.gm_types.specs.declared.index.IndexKind.TheVariants.{Id, Z2, Z3, Xz2, Xz3, Attr}
use Rattle.gm_plan.proofs.laws.keys_are_inside.Goals as goal

pub returns : goal.returns
returns c Id = c.id_keys_are_inside.ensures
returns c Z2 = c.z2_keys_are_inside.ensures
returns c Z3 = c.z3_keys_are_inside.ensures
returns c Xz2 = c.xz2_keys_are_inside.ensures
returns c Xz3 = c.xz3_keys_are_inside.ensures
returns c (Attr number) = c.attr_keys_are_inside.ensures number
