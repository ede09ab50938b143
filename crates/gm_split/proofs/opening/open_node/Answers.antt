use Rattle.std.proofs.Common.{◌≤◌, ◌+◌, ◌^◌, ◌++◌, arith}
use Rattle.std.proofs.Math.Nat.{pow-le-pow_right}
use Rattle.gm_split.specs.Opening.{own_pieces, child_pieces}
use Rattle.gm_split.proofs.Standing.{child_seen}
use Rattle.gm_split.proofs.Taken.{few_more, few_opened, child_taken, own_taken}
use Rattle.gm_split.proofs.opening.open_node.Goals as goal

pub loop-q-init : goal.loop-q-init
loop-q-init g c =
    let s = g.T.Tree.shape c.args.tree.now in
    record {
      within = omega arith;
      steps = omega arith;
      took = own_taken g.row.D s c.args.windows.now c.args.node.now c.own.result _ _ c.own.ensures
          (c.in_ok-push_own.ensures s);
    }

pub add-requires-clause-seen : goal.add-requires-clause-seen
add-requires-clause-seen g c =
    child_seen g.row.D (g.T.Tree.shape c.args.tree.now) c.args.windows.now
    (g.T.Tree.Comes c.args.tree.now) (g.met.T.Tree.laws c.args.tree.now c.requires.size)
    c.args.node.now c.child-child.result c.loop-q.q c.args.near
    c.requires.comes c.requires.level (omega (arith, c.loop-q-test.true, c.children-q-end.ensures))
    c.child-child.ensures.child c.requires.near

pub add-requires-clause-runs : goal.add-requires-clause-runs
add-requires-clause-runs g c =
    let s = g.T.Tree.shape c.args.tree.now in
    let most : 2 ^ g.row.D ≤ 2 ^ 3 = pow-le-pow_right (omega arith) c.requires.dimensions in
    let more = few_more s (1 + c.loop-q.q)
    (own_pieces (s.own c.args.node.now)
    ++ child_pieces g.row.D s c.args.windows.now c.args.node.now c.loop-q.q) c.args.into.now
    c.loop-q.into (few_opened g.row.D s c.args.windows.now c.args.node.now c.loop-q.q)
    c.loop-q.invariant.took in
    omega (arith, most, more, c.loop-q.invariant.within, c.requires.runs)

pub add-requires-clause-partial : goal.add-requires-clause-partial
add-requires-clause-partial g c =
    let s = g.T.Tree.shape c.args.tree.now in
    let most : 2 ^ g.row.D ≤ 2 ^ 3 = pow-le-pow_right (omega arith) c.requires.dimensions in
    let more = few_more s (1 + c.loop-q.q)
    (own_pieces (s.own c.args.node.now)
    ++ child_pieces g.row.D s c.args.windows.now c.args.node.now c.loop-q.q) c.args.into.now
    c.loop-q.into (few_opened g.row.D s c.args.windows.now c.args.node.now c.loop-q.q)
    c.loop-q.invariant.took in
    omega (arith, most, more, c.loop-q.invariant.within, c.requires.partial)

pub loop-q-preserved : goal.loop-q-preserved
loop-q-preserved g c =
    let s = g.T.Tree.shape c.args.tree.now in
    let before = c.loop-q.invariant in
    record {
      within = omega (arith, c.loop-q-test.true, c.children-q-end.ensures);
      steps = omega (arith, before.steps, c.child-child.ensures.steps);
      took = child_taken g.row.D s c.args.windows.now c.args.node.now c.child-child.result
          c.loop-q.q c.args.into.now c.loop-q.into c.add.new.into c.child-child.ensures.child
          before.took c.in_ok-add.ensures;
    }
