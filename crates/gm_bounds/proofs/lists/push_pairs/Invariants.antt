use Rattle.std.proofs.Common.{◌≡◌, ◌++◌, drop}
use Rattle.gm_bounds.specs.Lists.{pairs_of}
use Rattle.gm_bounds.proofs.lists.push_pairs.Given as goal

abbrev pub invariant-others : goal.invariant-others
invariant-others g l =
    l.into.items ++ pairs_of g.T.Member.met g.T.Member.is_void l.one (drop l.other-index l.others)
    ≡ l.fn.into.items ++ pairs_of g.T.Member.met g.T.Member.is_void l.one l.others
