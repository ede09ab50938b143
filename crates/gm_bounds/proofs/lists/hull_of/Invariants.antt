use Rattle.std.proofs.Common.{◌≡◌, Some, None}
use Rattle.std.specs.Prelude.{fold}
use Rattle.gm_bounds.specs.Lists.{widened}
use Rattle.gm_bounds.proofs.lists.hull_of.Given as goal

abbrev pub invariant-places : goal.invariant-places
invariant-places g l =
    l.hull ≡ fold (λ held x. Some (widened g.T.Member.joined held x)) None l.yielded
