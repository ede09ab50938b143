use Rattle.std.proofs.Common.{◌≡◌, ◌<◌, ◌≤◌, ◌+◌, ◌*◌, ◌^◌, subst, sym, ap, arith}
use Rattle.std.specs.Prelude.{true, false}
use Rattle.gm_split.specs.Opening.{partials}
use Rattle.gm_split.specs.Front.{HasNext, IsStopAt}
use Rattle.gm_split.proofs.Stop.{Reached, first_joined, first_count, next_joined, next_count}
use Rattle.gm_split.proofs.Stop.{stops_at_end, stops_at_many, stops_settled, level_steps}
use Rattle.gm_split.proofs.levels.descend.Goals as goal

pub loop-level-init : goal.loop-level-init
loop-level-init g c =
    let s = g.T.Tree.shape c.args.tree.now in
    let tree = g.met.T.Tree.laws c.args.tree.now c.requires.size in
    record {
      laws = c.run_laws.ensures;
      depth = c.depth-depth.ensures;
      reached = first_joined g.row.D s c.args.windows.now (g.T.Tree.Comes c.args.tree.now) tree
          c.run_laws.ensures c.args.target c.in_ok-now.now.pieces.items c.requires.least
          c.in_ok-now.ensures.pieces;
      partial = first_count g.row.D s c.args.windows.now (g.T.Tree.Comes c.args.tree.now) tree
          c.run_laws.ensures c.args.target c.in_ok-now.now c.in_ok-now.ensures;
      steps = omega arith;
    }

pub loop-level-preserved : goal.loop-level-preserved
loop-level-preserved g c =
    let D = g.row.D in
    let s = g.T.Tree.shape c.args.tree.now in
    let ws = c.args.windows.now in
    let tree = g.met.T.Tree.laws c.args.tree.now c.requires.size in
    let before = c.loop-level.invariant in
    let more : c.loop-level.level < s.depth = omega (arith, c.loop-level-test.true, before.depth) in
    let ps = c.loop-level.now.pieces.items in
    let f = ap (λ xs. 2 ^ D * partials xs) c.deref.ensures.value in
    let next : HasNext D s ws c.args.target ps c.open_all.new.next c.in_ok-qualifies.qualifies =
    subst (λ xs. HasNext D s ws c.args.target xs c.open_all.new.next
    c.in_ok-qualifies.qualifies) c.deref.ensures.value c.in_ok-qualifies.ensures.next in
    let fits : HasNext D s ws c.args.target ps c.open_all.new.next true =
    subst (HasNext D s ws c.args.target ps c.open_all.new.next) c.if-not-qualifies.false next in
    let reached = next_joined D s ws (g.T.Tree.Comes c.args.tree.now) tree before.laws c.args.target
    c.loop-level.level ps c.open_all.new.next more before.reached fits in
    let partial = next_count D s ws (g.T.Tree.Comes c.args.tree.now) tree before.laws c.args.target
    c.loop-level.level ps c.open_all.new.next fits in
    let swapped = sym c.swap.ensures.x_after in
    record {
      laws = before.laws;
      depth = before.depth;
      reached = subst
          (λ now. Reached D s ws (g.T.Tree.Comes c.args.tree.now) c.args.target
          (c.loop-level.level + 1) now.pieces.items) swapped reached;
      partial = subst (λ now. now.partial ≡ partials now.pieces.items) swapped partial;
      steps = omega (
        arith,
        c.in_ok-qualifies.ensures.steps,
        f,
        before.steps,
        level_steps c.loop-level.level (2 ^ D) (partials ps) (4 * c.args.target)
            before.reached.partial,
      );
    }

pub returns-then-now-eq0-clause-stop : goal.returns-then-now-eq0-clause-stop
returns-then-now-eq0-clause-stop g c =
    let D = g.row.D in
    let s = g.T.Tree.shape c.args.tree.now in
    let ws = c.args.windows.now in
    let tree = g.met.T.Tree.laws c.args.tree.now c.requires.size in
    let before = c.loop-level.invariant in
    let none : partials c.loop-level.now.pieces.items ≡ 0 =
    omega (arith, before.partial, c.if-now-eq0.true) in
    let at = stops_settled D s ws (g.T.Tree.Comes c.args.tree.now) tree before.laws c.args.target
    c.loop-level.level c.loop-level.now.pieces.items before.reached none in
    subst (λ l. IsStopAt D s ws (g.T.Tree.Comes c.args.tree.now) c.args.target l
    c.loop-level.now.pieces.items) (sym before.depth) at

pub returns-then-not-qualifies-clause-stop : goal.returns-then-not-qualifies-clause-stop
returns-then-not-qualifies-clause-stop g c =
    let D = g.row.D in
    let s = g.T.Tree.shape c.args.tree.now in
    let ws = c.args.windows.now in
    let tree = g.met.T.Tree.laws c.args.tree.now c.requires.size in
    let before = c.loop-level.invariant in
    let more : c.loop-level.level < s.depth = omega (arith, c.loop-level-test.true, before.depth) in
    let ps = c.loop-level.now.pieces.items in
    let next : HasNext D s ws c.args.target ps c.open_all.new.next c.in_ok-qualifies.qualifies =
    subst (λ xs. HasNext D s ws c.args.target xs c.open_all.new.next
    c.in_ok-qualifies.qualifies) c.deref.ensures.value c.in_ok-qualifies.ensures.next in
    let many : HasNext D s ws c.args.target ps c.open_all.new.next false =
    subst (HasNext D s ws c.args.target ps c.open_all.new.next) c.if-not-qualifies.true next in
    stops_at_many D s ws (g.T.Tree.Comes c.args.tree.now) tree before.laws c.args.target
    c.loop-level.level ps before.reached more c.open_all.new.next many

pub returns-clause-stop : goal.returns-clause-stop
returns-clause-stop g c =
    let D = g.row.D in
    let s = g.T.Tree.shape c.args.tree.now in
    let ws = c.args.windows.now in
    let tree = g.met.T.Tree.laws c.args.tree.now c.requires.size in
    let before = c.loop-level.invariant in
    let deep : s.depth ≤ c.loop-level.level =
    omega (arith, c.loop-level-test.false, before.depth) in
    stops_at_end D s ws (g.T.Tree.Comes c.args.tree.now) tree before.laws c.args.target
    c.loop-level.level c.loop-level.now.pieces.items before.reached deep
