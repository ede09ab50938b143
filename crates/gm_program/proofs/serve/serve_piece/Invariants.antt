use Rattle.std.proofs.Common.{◌≡◌, ◌≤◌, ◌-◌, ℕ, List, take, length}
use Rattle.gm_program.specs.Machine.{Machine}
use Rattle.gm_program.specs.Lines.{complete_from, partial_from, cut}
use Rattle.gm_program.specs.Serve.{moment, Serves, Keeps, HasMachine}
use Rattle.gm_program.proofs.serve.serve_piece.Given as goal

abbrev pub invariant-loop-length : goal.invariant-loop-length
invariant-loop-length g l = record {
  inside : l.at ≤ length l.piece;
  kept : HasMachine l.store.types (g.B.Sorted.rows l.store.table) l.pending;
  served : (start : List ℕ) (m : Machine) → l.fn.held.items ≡ cut start
      → Keeps m l.fn.store.types (g.B.Sorted.rows l.fn.store.table) l.fn.pending
      → Serves l.setting m (complete_from start (take l.at l.piece))
      (moment l.fn.store.types (g.B.Sorted.rows l.fn.store.table) l.fn.pending
      (g.B.Tally.Counter.number l.fn.tally) (g.K.Sink.written l.fn.sink))
      (moment l.store.types (g.B.Sorted.rows l.store.table) l.pending
      (g.B.Tally.Counter.number l.tally) (g.K.Sink.written l.sink));
  held : (start : List ℕ) → l.fn.held.items ≡ cut start
      → l.held.items ≡ cut (partial_from start (take l.at l.piece));
  later : g.K.Sink.faults l.fn.sink ≤ g.K.Sink.faults l.sink;
}

abbrev pub decreases-loop-length : goal.decreases-loop-length
decreases-loop-length g l = length l.piece - l.at
