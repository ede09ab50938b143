use Rattle.std.proofs.Common.{◌≡◌, ◌-◌}
use Rattle.gm_feature.specs.Reader.{members_from, points_from}
use Rattle.gm_feature.proofs.Loop.{with_front}
use Rattle.gm_feature.proofs.lists.many_lines.Given as goal

abbrev pub invariant-members : goal.invariant-members
invariant-members l =
    with_front l.lines.items (members_from points_from (l.count - l.counter) l.rest)
    ≡ members_from points_from l.count l.bytes
