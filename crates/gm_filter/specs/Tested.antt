-- Which value a test is of.
use Rattle.std.specs.Prelude.{ℕ, Option, Some, None}
use Rattle.gm_filter.specs.Tree.{Tree, include, exclude, negated, all, any, compare, between, like}
use Rattle.gm_filter.specs.Tree.{one_of, is_null, ids, bbox, intersects, disjoint, within, during}
use Rattle.gm_filter.specs.Tree.{before, after, tequals}

-- the attribute of whose value the filter is a test that no null passes
abbrev pub tested_of : Tree → Option ℕ
tested_of include = None
tested_of exclude = None
tested_of (negated t) = None
tested_of (all ts) = None
tested_of (any ts) = None
tested_of (compare a op l) = Some a
tested_of (between a low high) = Some a
tested_of (like a pattern) = Some a
tested_of (one_of a literals) = Some a
tested_of (is_null a) = None
tested_of (ids texts) = None
tested_of (bbox a b) = Some a
tested_of (intersects a g) = Some a
tested_of (disjoint a g) = Some a
tested_of (within a g) = Some a
tested_of (during a low high) = Some a
tested_of (before a at) = Some a
tested_of (after a at) = Some a
tested_of (tequals a at) = Some a
