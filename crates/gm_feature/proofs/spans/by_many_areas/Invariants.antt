use Rattle.std.proofs.Common.{◌-◌}
use Rattle.std.specs.Option.{ForSome}
use Rattle.gm_feature.specs.Reader.{members_from, lines_from}
use Rattle.gm_feature.proofs.Widening.{by_areas, Owes}
use Rattle.gm_feature.proofs.spans.by_many_areas.Given as goal

abbrev pub invariant-members : goal.invariant-members
invariant-members l =
    ForSome (members_from lines_from l.count l.bytes)
    (λ x. Owes lines_from by_areas (l.count - l.counter) l.extent l.rest
    (by_areas l.initial.extent x.0) x.1)
