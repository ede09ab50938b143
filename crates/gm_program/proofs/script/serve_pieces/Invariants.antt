use Rattle.std.proofs.Common.{◌<◌, ◌≤◌, ◌-◌, ◌^◌, []}
use Rattle.gm_program.specs.Serve.{moment, Streams}
use Rattle.gm_program.proofs.script.serve_pieces.Given as goal

abbrev pub invariant-pieces : goal.invariant-pieces
invariant-pieces g l = record {
  streams : Streams l.setting [] l.held.items (g.S.Source.left l.fn.source)
      (g.S.Source.left l.source)
      (moment l.fn.store.types (g.B.Sorted.rows l.fn.store.table) l.fn.pending
      (g.B.Tally.Counter.number l.fn.tally) (g.K.Sink.written l.fn.sink))
      (moment l.store.types (g.B.Sorted.rows l.store.table) l.pending
      (g.B.Tally.Counter.number l.tally) (g.K.Sink.written l.sink)) (2 ^ 40 - l.budget);
  some : 0 < l.budget;
  most : l.budget ≤ 2 ^ 40;
  later_source : g.S.Source.faults l.fn.source ≤ g.S.Source.faults l.source;
  later_sink : g.K.Sink.faults l.fn.sink ≤ g.K.Sink.faults l.sink;
}

abbrev pub decreases-pieces : goal.decreases-pieces
decreases-pieces g l = l.budget
