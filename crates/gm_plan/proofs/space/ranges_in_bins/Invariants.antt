use Rattle.std.proofs.Common.{◌≡◌, ◌++◌, All, drop, List, ℕ}
use Rattle.std.specs.List.{flat_map}
use Rattle.gm_bounds.specs.declared.ranges.Range.{Range}
use Rattle.gm_plan.specs.KeyRanges.{bin_ranges}
use Rattle.gm_plan.specs.Known.{IsKnown}
use Rattle.gm_plan.specs.Windows.{windows_in}
use Rattle.gm_plan.proofs.space.ranges_in_bins.Given as goal

abbrev pub invariant-bins : goal.invariant-bins
invariant-bins g l =
    let ranges : ℕ → List Range =
    λ number. bin_ranges (g.T.Tree.shape l.tree) number
    (windows_in l.extents.period l.extents.bits l.extents.boxes.now l.extents.intervals.now
    number) l.part in record {
      list : l.list.items ++ flat_map ranges (drop l.bin-index l.bins) ≡ flat_map ranges l.bins;
      known : All (IsKnown (g.T.Tree.shape l.tree) l.part) l.known.items;
    }
