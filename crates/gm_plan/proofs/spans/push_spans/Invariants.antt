use Rattle.std.proofs.Common.{◌≡◌, ◌++◌, drop}
use Rattle.gm_plan.specs.Spans.{spans_in}
use Rattle.gm_plan.proofs.spans.push_spans.Given as goal

abbrev pub invariant-each : goal.invariant-each
invariant-each l =
    l.spans ++ spans_in l.front.prefix.now (drop l.range-index l.ranges) l.front.shard
    ≡ l.fn.spans ++ spans_in l.front.prefix.now l.ranges l.front.shard
