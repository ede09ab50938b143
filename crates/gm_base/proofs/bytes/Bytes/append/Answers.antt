use Rattle.std.proofs.Common.{◌≤◌, length, sym, subst, arith}
use Rattle.std.proofs.lemmas.Grind.{common_steps}
use Rattle.gm_base.specs.Front.{IsFront}
use Rattle.gm_base.proofs.Fronts.{IsFront-append}
use Rattle.gm_base.proofs.bytes.Bytes.append.Goals as goal

-- the first bytes are all there, and what is appended changes none of them
pub invariant_of-self-else-before-lt-FRONT : goal.invariant_of-self-else-before-lt-FRONT
invariant_of-self-else-before-lt-FRONT c =
    let enough : 16 ≤ length c.self.inside.items.items = grind (arith, common_steps) in
    subst (IsFront c.self.inside.front) (sym c.in_ok-extend_from_slice.ensures.items)
    (IsFront-append c.self.inside.front c.self.inside.items.items c.args.more.now enough
    c.self.invariant)
