use Rattle.std.proofs.Common.{◌-◌}
use Rattle.std.specs.Option.{ForSome}
use Rattle.gm_feature.specs.Reader.{members_from, point_from}
use Rattle.gm_feature.proofs.Widening.{by_points, Owes}
use Rattle.gm_feature.proofs.spans.by_many_points.Given as goal

abbrev pub invariant-members : goal.invariant-members
invariant-members l =
    ForSome (members_from point_from l.count l.bytes)
    (λ x. Owes point_from by_points (l.count - l.counter) l.extent l.rest
    (by_points l.initial.extent x.0) x.1)
