use Rattle.std.proofs.Common.{inl, inr, ◌+◌, arith}
use Rattle.gm_split.proofs.Turns.{piece_steps}
use Rattle.gm_split.proofs.Taken.{piece_taken, many_taken, all_taken}
use Rattle.gm_split.proofs.opening.open_all.Goals as goal

pub loop-piece-init : goal.loop-piece-init
loop-piece-init g c =
    let s = g.T.Tree.shape c.args.tree.now in
    let none = c.clear.ensures s in
    record {
      within = omega arith;
      steps = omega arith;
      runs = omega (arith, none.runs);
      partial = omega (arith, none.partial);
      taken = none;
    }

pub loop-piece-preserved : goal.loop-piece-preserved
loop-piece-preserved g c =
    let s = g.T.Tree.shape c.args.tree.now in
    let before = c.loop-piece.invariant in
    record {
      within = omega (arith, c.loop-piece-test.true);
      steps = piece_steps g.row.D s c.args.windows.now c.args.pieces.now c.loop-piece.piece-index _
          c.loop-piece-test.true _ _ _ before.steps c.open_piece.ensures.steps;
      runs = omega (arith, c.if-next-target.false);
      partial = omega (arith, c.if-next-target-2.false);
      taken = piece_taken g.row.D s c.args.windows.now c.args.pieces.now c.loop-piece.piece-index _
          c.loop-piece.next c.open_piece.new.into c.loop-piece-test.true before.taken
          c.in_ok-open_piece.ensures.ok;
    }

pub returns-then-next-target-clause-next : goal.returns-then-next-target-clause-next
returns-then-next-target-clause-next g c =
    let s = g.T.Tree.shape c.args.tree.now in
    let more = piece_taken g.row.D s c.args.windows.now c.args.pieces.now c.loop-piece.piece-index _
    c.loop-piece.next c.open_piece.new.into c.loop-piece-test.true c.loop-piece.invariant.taken
    c.in_ok-open_piece.ensures.ok in
    many_taken g.row.D s c.args.windows.now c.args.target c.args.pieces.now
    (c.loop-piece.piece-index + 1) c.open_piece.new.into more (inl c.if-next-target.true)

pub returns-then-next-target-2-clause-next : goal.returns-then-next-target-2-clause-next
returns-then-next-target-2-clause-next g c =
    let s = g.T.Tree.shape c.args.tree.now in
    let more = piece_taken g.row.D s c.args.windows.now c.args.pieces.now c.loop-piece.piece-index _
    c.loop-piece.next c.open_piece.new.into c.loop-piece-test.true c.loop-piece.invariant.taken
    c.in_ok-open_piece.ensures.ok in
    many_taken g.row.D s c.args.windows.now c.args.target c.args.pieces.now
    (c.loop-piece.piece-index + 1) c.open_piece.new.into more (inr c.if-next-target-2.true)

pub returns-clause-next : goal.returns-clause-next
returns-clause-next g c =
    let s = g.T.Tree.shape c.args.tree.now in
    let done = c.loop-piece.invariant in
    all_taken g.row.D s c.args.windows.now c.args.target c.args.pieces.now c.loop-piece.piece-index
    c.loop-piece.next c.close.new.self (omega (arith, c.loop-piece-test.false)) done.taken
    done.runs done.partial c.in_ok-close.ensures.pieces c.close.ensures.partial
