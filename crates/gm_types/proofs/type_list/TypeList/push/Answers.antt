use Rattle.std.proofs.Common.{List, subst, sym, ◌∙◌, ap, length, arith}
use Rattle.gm_types.specs.Specification.{Specification}
use Rattle.gm_types.specs.TypeList.{AreTypes, number_of_name}
use Rattle.gm_types.proofs.TypeLists.{types_push}
use Rattle.gm_types.proofs.type_list.TypeList.push.Goals as goal

pub invariant_of-self-2 : goal.invariant_of-self-2
invariant_of-self-2 c =
    subst (λ (l : List Specification). AreTypes l) (sym c.in_ok-push.ensures.items)
    (types_push c.self.inside.types.items c.args.of c.self.invariant
    (c.requires.number ∙ ap length (sym c.self.view_is))
    (let is = c.number-number.ensures in omega (arith, is))
    (ap (λ (l : List Specification). number_of_name l c.args.of.name) c.self.view_is
    ∙ c.requires.name))
