-- Which indexes apply to a filter.
use Rattle.std.specs.Prelude.{Bool, true, false, ◌&&◌, List, is_some}
use Rattle.std.specs.List.{list_all}
use Rattle.gm_types.specs.declared.index.IndexKind.{IndexKind}
use Rattle.gm_types.specs.declared.index.IndexKind.TheVariants.{Id, Z2, Z3, Xz2, Xz3, Attr}
use Rattle.gm_types.specs.Index.{has_index}
use Rattle.gm_types.specs.Specification.{Specification}
use Rattle.gm_filter.specs.Tree.{Tree}
use Rattle.gm_bounds.specs.declared.bound.Bound.{Bound}
use Rattle.gm_bounds.specs.declared.bound.Bound.TheVariants.{World, Listed}
use Rattle.gm_bounds.specs.declared.interval.Interval.{Interval}
use Rattle.gm_bounds.specs.Space.{boxes_of}
use Rattle.gm_bounds.specs.Values.{byte_ranges_of}
use Rattle.gm_bounds.specs.Time.{intervals_of}

abbrev pub is_listed : {X : Type 0} → Bound X → Bool
is_listed World = false
is_listed (Listed xs) = true

abbrev pub has_both_ends : Interval → Bool
has_both_ends i = is_some i.low && is_some i.high

abbrev pub are_all_bounded : List Interval → Bool
are_all_bounded list = list_all has_both_ends list

-- a list of intervals that all have both ends
abbrev pub are_bounded : Bound Interval → Bool
are_bounded World = false
are_bounded (Listed list) = are_all_bounded list

-- the filter says where in the index to look
abbrev pub can_serve : Specification → IndexKind → Tree → Bool
can_serve s Id t = true
can_serve s Z2 t = is_listed (boxes_of s t)
can_serve s Z3 t = is_listed (boxes_of s t) && are_bounded (intervals_of s t)
can_serve s Xz2 t = is_listed (boxes_of s t)
can_serve s Xz3 t = is_listed (boxes_of s t) && are_bounded (intervals_of s t)
can_serve s (Attr a) t = is_listed (byte_ranges_of s a t)

-- the index applies: the type has it, and it can serve
abbrev pub does_apply : Specification → IndexKind → Tree → Bool
does_apply s kind t = has_index s kind && can_serve s kind t
