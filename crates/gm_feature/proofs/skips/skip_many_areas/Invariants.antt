use Rattle.std.proofs.Common.{◌-◌}
use Rattle.std.specs.Option.{ForSome}
use Rattle.gm_feature.specs.Reader.{members_from, lines_from}
use Rattle.gm_feature.proofs.Leaps.{Left}
use Rattle.gm_feature.proofs.skips.skip_many_areas.Given as goal

abbrev pub invariant-members : goal.invariant-members
invariant-members l =
    ForSome (members_from lines_from l.count l.bytes)
    (λ x. Left lines_from (l.count - l.counter) l.rest x.1)
