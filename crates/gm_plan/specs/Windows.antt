-- Boxes as windows of cells: in the plane, and over the part of a bin that an interval meets.
use Rattle.std.specs.Prelude.{ℕ, List, map, filter}
use Rattle.std.specs.List.{flat_map}
use Rattle.gm_calendar.specs.declared.period.Period.{Period}
use Rattle.gm_geom.specs.declared.point.Box2.{Box2}
use Rattle.gm_trees.specs.declared.window.Window.{Window}
use Rattle.gm_trees.specs.Paths.{cell_of}
use Rattle.gm_keys.specs.Cell.{cells_of, cells_at}
use Rattle.gm_bounds.specs.declared.interval.Interval.{Interval}
use Rattle.gm_plan.specs.Bins.{start_in, end_in, meets_bin, offset_in}

-- from the cell of the one corner to that of the other
abbrev pub window_of : ℕ → Box2 → Window
window_of bits b =
    record { low = cell_of (cells_of bits b.low); high = cell_of (cells_of bits b.high) }

abbrev pub windows_of : ℕ → List Box2 → List Window
windows_of bits boxes = map (window_of bits) boxes

-- the same from the interval's first millisecond in the bin to its last
abbrev pub window_in : Period → ℕ → ℕ → Box2 → Interval → Window
window_in period bits bin_number b i = record {
  low = cell_of
      (cells_at period bits b.low (offset_in period bin_number (start_in period bin_number i)));
  high = cell_of
      (cells_at period bits b.high (offset_in period bin_number (end_in period bin_number i)));
}

-- each box with each interval that meets the bin
abbrev pub windows_in : Period → ℕ → List Box2 → List Interval → ℕ → List Window
windows_in period bits boxes intervals bin_number =
    flat_map (λ b. map (window_in period bits bin_number b)
    (filter (meets_bin period bin_number) intervals)) boxes
