use Rattle.std.proofs.Common.{◌≡◌, ◌++◌, drop}
use Rattle.gm_bounds.specs.Lists as spec
use Rattle.gm_bounds.proofs.lists.pairs.Given as goal

abbrev pub invariant-ones : goal.invariant-ones
invariant-ones g l =
    l.all.items ++ spec.pairs g.T.Member.met g.T.Member.is_void (drop l.one-index l.ones) l.others
    ≡ spec.pairs g.T.Member.met g.T.Member.is_void l.ones l.others
