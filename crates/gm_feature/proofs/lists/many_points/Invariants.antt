use Rattle.std.proofs.Common.{◌≡◌, ◌-◌}
use Rattle.gm_feature.specs.Reader.{members_from, point_from}
use Rattle.gm_feature.proofs.Loop.{with_front}
use Rattle.gm_feature.proofs.lists.many_points.Given as goal

abbrev pub invariant-members : goal.invariant-members
invariant-members l =
    with_front l.points.items (members_from point_from (l.count - l.counter) l.rest)
    ≡ members_from point_from l.count l.bytes
