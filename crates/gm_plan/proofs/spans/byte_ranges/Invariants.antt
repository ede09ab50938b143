use Rattle.std.proofs.Common.{◌≡◌}
use Rattle.std.specs.List.{flat_map, range_with_len}
use Rattle.gm_keys.specs.Key.{prefix_of}
use Rattle.gm_plan.specs.Spans.{spans_in}
use Rattle.gm_plan.proofs.spans.byte_ranges.Given as goal

abbrev pub invariant-shards : goal.invariant-shards
invariant-shards l =
    l.spans ≡ flat_map (spans_in (prefix_of l.of l.fn.kind) l.of_ranges.ranges)
    (range_with_len 0 l.shard)
