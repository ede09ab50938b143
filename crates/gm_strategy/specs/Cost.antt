-- What it costs to look for the features of a filter in an index: from 1, little, to 7, all of it.
use Rattle.std.specs.Prelude.{ℕ, if◌then◌else◌, List, slice_get, Option, Some, None}
use Rattle.gm_types.specs.declared.attribute.Attribute.{Attribute}
use Rattle.gm_types.specs.declared.index.IndexKind.{IndexKind}
use Rattle.gm_types.specs.declared.index.IndexKind.TheVariants.{Id, Z2, Z3, Xz2, Xz3, Attr}
use Rattle.gm_types.specs.Specification.{Specification}
use Rattle.gm_filter.specs.Tree.{Tree}
use Rattle.gm_bounds.specs.declared.bound.Bound.{Bound}
use Rattle.gm_bounds.specs.declared.bound.Bound.TheVariants.{World, Listed}
use Rattle.gm_bounds.specs.declared.byte_range.ByteRange.{ByteRange}
use Rattle.gm_bounds.specs.Applicability.{does_apply, is_listed}
use Rattle.gm_bounds.specs.Values.{byte_ranges_of}
use Rattle.gm_bounds.specs.Identifiers.{ids_of}
use Rattle.gm_bounds.specs.OneValue.{are_of_one_value}

-- of an attribute: less where each range is of one value, and least where also its values are said
-- to differ much
abbrev pub value_cost : Option Attribute → List ByteRange → ℕ
value_cost None ranges = 6
value_cost (Some attribute) ranges =
    if are_of_one_value attribute.kind ranges then (if attribute.high then 2 else 4) else 6

abbrev pub ranges_cost : Option Attribute → Bound ByteRange → ℕ
ranges_cost attribute World = 6
ranges_cost attribute (Listed ranges) = value_cost attribute ranges

-- of an index that is read as a whole
abbrev pub dearest : ℕ
dearest = 7

-- of identifiers: little where they are known, and else the whole index
abbrev pub ids_cost : Tree → ℕ
ids_cost t = if is_listed (ids_of t) then 1 else dearest

-- of an index that applies
abbrev pub price_of : Specification → IndexKind → Tree → ℕ
price_of s Id t = ids_cost t
price_of s Z2 t = 5
price_of s Z3 t = 3
price_of s Xz2 t = 5
price_of s Xz3 t = 3
price_of s (Attr a) t = ranges_cost (slice_get s.attributes a) (byte_ranges_of s a t)

-- the cost, where the index applies
abbrev pub cost_of : Specification → IndexKind → Tree → Option ℕ
cost_of s kind t = if does_apply s kind t then Some (price_of s kind t) else None
