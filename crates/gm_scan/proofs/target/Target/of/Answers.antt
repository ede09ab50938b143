use Rattle.std.proofs.Common.{ap, ◌∙◌}
use Rattle.gm_geom.specs.Validity.{fault_of}
use Rattle.gm_scan.proofs.target.Target.of.Goals as goal

pub invariant_of-result : goal.invariant_of-result
invariant_of-result c = record {
  near = λ other b fine held met.
      c.overlaps_where_meeting.ensures other c.in_ok-prepared.prepared b c.bounds-extent.result fine
      (ap fault_of c.in_ok-prepared.ensures ∙ c.requires) held
      c.bounds-extent.ensures.least.holds met;
}
