-- The filter that a test stands for.
use Rattle.gm_filter.specs.Tree.{Tree, negated, all, any, one_of, ids, intersects, disjoint, within}
use Rattle.gm_filter.specs.Tree.{trees_of, tree}
use Rattle.gm_scan.specs.declared.test.Test.{Test}
use Rattle.gm_scan.specs.declared.test.Test.TheOpen as open_test
use Rattle.gm_scan.specs.declared.test.Test.TheFolds.{fold-Test}

-- one layer of a test, with the trees of its members in their place
abbrev pub layer : open_test.Test-F Tree → Tree
layer (open_test.Plain f) = tree f.now
layer (open_test.Not t) = negated t.value
layer (open_test.And ts) = all (trees_of ts.items)
layer (open_test.Or ts) = any (trees_of ts.items)
layer (open_test.OneOf a l) = one_of a l.plain.now
layer (open_test.Ids i) = ids i.plain.now
layer (open_test.Intersects a g) = intersects a g.prepared
layer (open_test.Disjoint a g) = disjoint a g.prepared
layer (open_test.Within a g) = within a g.prepared

abbrev pub tree_of : Test → Tree
tree_of = fold-Test Tree layer
