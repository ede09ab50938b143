use Rattle.std.proofs.Common.{◌-◌}
use Rattle.std.specs.Option.{ForSome}
use Rattle.gm_feature.specs.Reader.{members_from, points_from}
use Rattle.gm_feature.proofs.Widening.{by_lines, Owes}
use Rattle.gm_feature.proofs.spans.by_many_lines.Given as goal

abbrev pub invariant-members : goal.invariant-members
invariant-members l =
    ForSome (members_from points_from l.count l.bytes)
    (λ x. Owes points_from by_lines (l.count - l.counter) l.extent l.rest
    (by_lines l.initial.extent x.0) x.1)
