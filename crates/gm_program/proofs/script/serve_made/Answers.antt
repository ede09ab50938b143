use Rattle.std.proofs.Common.{◌∙◌, refl, subst}
use Rattle.std.proofs.lemmas.Result.{err_from_is_err_and}
use Rattle.gm_program.specs.declared.pending.Pending.TheVariants.{Nothing}
use Rattle.gm_program.specs.Lines.{lines_of}
use Rattle.gm_program.specs.Machine.{machine_at}
use Rattle.gm_program.specs.Serve.{moment, Closes, KeptAt, closing, WritesPart}
use Rattle.gm_program.proofs.Making.{loads, part_heard}
use Rattle.gm_program.proofs.Streaming.{kept_at_start, part_whole}
use Rattle.gm_program.proofs.script.serve_made.Goals as goal

pub load-requires-clause-kept : goal.load-requires-clause-kept
load-requires-clause-kept g c κs within = kept_at_start c.requires.kept

pub returns-in_err-serve_whole-clause-part : goal.returns-in_err-serve_whole-clause-part
returns-in_err-serve_whole-clause-part g c =
    let p = err_from_is_err_and c.from_residual.result c.from_residual.ensures.1 in
    rw p.1 (λ s holds.
    part_heard c.args.setting s c.args.made
    (moment c.load.new.store.types (g.B.Sorted.rows c.load.new.store.table) c.load.new.pending
    (g.B.Tally.Counter.number c.load.new.tally) (g.K.Sink.written c.args.sink.now))
    _ _ (c.in_default.ensures.serves (machine_at s) (record { store = holds; waits = refl }))
    (λ m kept. subst
    (λ script. WritesPart (closing c.args.setting m (lines_of script))
    (g.K.Sink.written c.args.sink.now) (g.K.Sink.written c.serve_whole.new.sink))
    (c.as_bytes-bytes.ensures.value ∙ c.in-Ok.ensures) (c.in_err-serve_whole.ensures.err m kept)))

pub returns-in-Err-flush-clause-part : goal.returns-in-Err-flush-clause-part
returns-in-Err-flush-clause-part g c = λ s holds.
    rw c.flush.ensures.bytes
    (part_heard c.args.setting s c.args.made
    (moment c.load.new.store.types (g.B.Sorted.rows c.load.new.store.table) c.load.new.pending
    (g.B.Tally.Counter.number c.load.new.tally) (g.K.Sink.written c.args.sink.now))
    _ _ (c.in_default.ensures.serves (machine_at s) (record { store = holds; waits = refl }))
    (λ m kept. subst
    (λ script. WritesPart (closing c.args.setting m (lines_of script))
    (g.K.Sink.written c.args.sink.now) (g.K.Sink.written c.serve_whole.new.sink))
    (c.as_bytes-bytes.ensures.value ∙ c.in-Ok.ensures)
    (part_whole _ _ _ (c.in_ok-serve_whole.ensures.ok m kept).written)))

pub returns-clause-done : goal.returns-clause-done
returns-clause-done g c = λ s holds.
    let kept : KeptAt (machine_at s)
    (moment c.args.store.now.types (g.B.Sorted.rows c.args.store.now.table) Nothing
    (g.B.Tally.Counter.number c.args.tally.now) (g.K.Sink.written c.args.sink.now)) =
    record { store = holds; waits = refl } in
    rw c.flush.ensures.bytes
    (loads c.args.setting s c.args.made
    (moment c.args.store.now.types (g.B.Sorted.rows c.args.store.now.table) Nothing
    (g.B.Tally.Counter.number c.args.tally.now) (g.K.Sink.written c.args.sink.now))
    (moment c.load.new.store.types (g.B.Sorted.rows c.load.new.store.table) c.load.new.pending
    (g.B.Tally.Counter.number c.load.new.tally) (g.K.Sink.written c.args.sink.now))
    (moment c.serve_whole.new.store.types (g.B.Sorted.rows c.serve_whole.new.store.table)
    c.serve_whole.new.pending (g.B.Tally.Counter.number c.serve_whole.new.tally)
    (g.K.Sink.written c.serve_whole.new.sink))
    _ kept (c.in_default.ensures.serves (machine_at s) kept)
    (λ m held. subst (λ script. Closes c.args.setting m (lines_of script)
    (moment c.load.new.store.types (g.B.Sorted.rows c.load.new.store.table) c.load.new.pending
    (g.B.Tally.Counter.number c.load.new.tally) (g.K.Sink.written c.args.sink.now))
    (moment c.serve_whole.new.store.types (g.B.Sorted.rows c.serve_whole.new.store.table)
    c.serve_whole.new.pending (g.B.Tally.Counter.number c.serve_whole.new.tally)
    (g.K.Sink.written c.serve_whole.new.sink)))
    (c.as_bytes-bytes.ensures.value ∙ c.in-Ok.ensures) (c.in_ok-serve_whole.ensures.ok m held))
    (λ bytes is. c.in_default-flush.ensures.ok bytes is))
