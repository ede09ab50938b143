use Rattle.gm_split.proofs.Standing.{all_seen}
use Rattle.std.proofs.Common.{arith}
use Rattle.gm_split.proofs.Taken.{first_taken}
use Rattle.gm_split.proofs.levels.start.Goals as goal

pub add-requires-clause-seen : goal.add-requires-clause-seen
add-requires-clause-seen g c = all_seen g.row.D c.args.windows.now _ c.requires.few

pub add-requires-clause-runs : goal.add-requires-clause-runs
add-requires-clause-runs g c = let none = c.new-front.ensures (g.T.Tree.shape c.args.tree.now) in
    omega (arith, none.runs)

pub add-requires-clause-partial : goal.add-requires-clause-partial
add-requires-clause-partial g c = let none = c.new-front.ensures (g.T.Tree.shape c.args.tree.now) in
    omega (arith, none.partial)

pub returns : goal.returns
returns g c =
    let s = g.T.Tree.shape c.args.tree.now in
    first_taken g.row.D s c.args.windows.now c.root-root.result c.new-front.result c.add.new.into
    c.close.new.self c.root-root.ensures.root (c.new-front.ensures s) c.in_ok-add.ensures
    c.in_ok-close.ensures.pieces c.close.ensures.partial
