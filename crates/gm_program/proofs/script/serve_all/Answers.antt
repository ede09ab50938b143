use Rattle.std.proofs.Common.{refl, ap, ◌∙◌, arith}
use Rattle.std.proofs.lemmas.Result.{err_from_is_err_and}
use Rattle.std.specs.Prelude.{Err}
use Rattle.gm_program.specs.declared.stop.Stop.TheVariants.{NoMemory, WriteFault}
use Rattle.gm_program.proofs.Causes.{no_limit, no_read, cause_of_ok, cause_of_err, cause_of_refusal}
use Rattle.gm_program.proofs.Causes.{cause_later}
use Rattle.gm_program.proofs.Streaming.{kept_at_start, state_kept, stopped_from_breaks}
use Rattle.gm_program.proofs.Streaming.{stopped_at_start, stopped_at_end, served_at_end, finishes}
use Rattle.gm_program.proofs.Streaming.{length_of_whole, streams_keep, part_whole}
use Rattle.gm_program.proofs.script.serve_all.Goals as goal

pub returns-in_default-clause-stopped : goal.returns-in_default-clause-stopped
returns-in_default-clause-stopped g c =
    λ s holds script told. stopped_at_start c.args.setting s NoMemory script _ _ told (λ is. cc)

pub serve_pieces-requires-clause-kept : goal.serve_pieces-requires-clause-kept
serve_pieces-requires-clause-kept g c κs within = kept_at_start c.requires.kept

pub returns-in_err-serve_pieces-clause-stopped : goal.returns-in_err-serve_pieces-clause-stopped
returns-in_err-serve_pieces-clause-stopped g c =
    let p = err_from_is_err_and c.from_residual.result c.from_residual.ensures.1 in
    rw (p.1, p.2) (λ s holds script told.
    stopped_from_breaks c.args.setting s c.in_err-serve_pieces.field-0.0 _ _ _ _
    (record { store = holds; waits = refl }) c.in_err-serve_pieces.ensures.breaks script told)

pub serve_last-requires-clause-kept : goal.serve_last-requires-clause-kept
serve_last-requires-clause-kept g c κs within =
    streams_keep c.args.setting _ _ _ _ _ _ _ c.in_ok-serve_pieces.ensures.streams.2
    (kept_at_start c.requires.kept)

pub returns-in_err-serve_last-clause-stopped : goal.returns-in_err-serve_last-clause-stopped
returns-in_err-serve_last-clause-stopped g c =
    let p = err_from_is_err_and c.from_residual-in_err-serve_last.result
    c.from_residual-in_err-serve_last.ensures.1 in
    let refusal = c.in_err-serve_last.field-0.0 in
    let streams = c.in_ok-serve_pieces.ensures.streams in
    rw p.1 (λ s holds script told.
    stopped_at_end c.args.setting s p.0 c.serve_pieces.new.held.items _ _ _ _ _
    streams.0 streams.2 streams.1 (λ is. no_limit refusal p.0 p.2 is)
    (λ is. no_read refusal p.0 p.2 is)
    (λ start m is kept. c.in_err-serve_last.ensures.err start m (c.deref.ensures.value ∙ is) kept)
    (record { store = holds; waits = refl }) script told
    (c.in_ok-serve_pieces.ensures.end script told))

pub returns-in_err-serve_last-clause-cause : goal.returns-in_err-serve_last-clause-cause
returns-in_err-serve_last-clause-cause g c =
    let p = err_from_is_err_and c.from_residual-in_err-serve_last.result
    c.from_residual-in_err-serve_last.ensures.1 in
    rw p.1 (cause_of_refusal c.in_err-serve_last.field-0.0 p.0 _ _ _ _ _ p.2
    c.serve_pieces.ensures.cause.later_source c.serve_pieces.ensures.cause.later_sink
    c.serve_last.ensures.later (λ is. c.in_err-serve_last.ensures.cause (ap Err is)))

pub returns-in-Err-clause-stopped : goal.returns-in-Err-clause-stopped
returns-in-Err-clause-stopped g c = λ s holds script told.
    let streams = c.in_ok-serve_pieces.ensures.streams in
    rw c.flush.ensures.bytes
    (stopped_at_end c.args.setting s WriteFault c.serve_pieces.new.held.items _ _ _ _ _ streams.0
    streams.2 streams.1 (λ is. cc) (λ is. cc)
    (λ start m is kept. part_whole _ _ _
    (c.in_ok-serve_last.ensures.ok start m (c.deref.ensures.value ∙ is) kept).written)
    (record { store = holds; waits = refl }) script told
    (c.in_ok-serve_pieces.ensures.end script told))

pub returns-clause-done : goal.returns-clause-done
returns-clause-done g c = λ s holds script told.
    let streams = c.in_ok-serve_pieces.ensures.streams in
    let whole = c.in_ok-serve_pieces.ensures.end script told in (
      omega (
        arith,
        length_of_whole c.args.setting _ _ _ _ _ streams.0 streams.2 script told whole,
        streams.1,
      ),
      rw c.flush.ensures.bytes
          (finishes c.args.setting s script _ _ _ _
          (served_at_end c.args.setting s c.serve_pieces.new.held.items _ _ _ _ _
          streams.0 streams.2
          (λ start m is kept. c.in_ok-serve_last.ensures.ok start m
          (c.deref.ensures.value ∙ is) kept) (record { store = holds; waits = refl })
          script told whole)
          whole (λ bytes is. c.in_default-flush.ensures.ok bytes is)),
    )

pub returns-in_default-clause-cause : goal.returns-in_default-clause-cause
returns-in_default-clause-cause g c =
    cause_of_err NoMemory _ _ _ _ (omega arith) (omega arith) (λ is. absurd (cc))
    (λ is. absurd (cc))

pub returns-in_err-serve_pieces-clause-cause : goal.returns-in_err-serve_pieces-clause-cause
returns-in_err-serve_pieces-clause-cause g c =
    let p = err_from_is_err_and c.from_residual.result c.from_residual.ensures.1 in
    rw (p.1, p.2) (cause_later c.in_err-serve_pieces.field-0.0 _ _ _ _ _ _ (omega arith)
    (omega arith) c.in_err-serve_pieces.ensures.cause)

pub returns-in-Err-clause-cause : goal.returns-in-Err-clause-cause
returns-in-Err-clause-cause g c =
    cause_of_err WriteFault _ _ _ _ c.serve_pieces.ensures.cause.later_source
    (omega (
      arith,
      c.serve_pieces.ensures.cause.later_sink,
      c.serve_last.ensures.later,
      c.flush.ensures.later,
    )) (λ is. absurd (cc))
    (λ is. omega (
      arith,
      c.in-Err.ensures.cause,
      c.serve_pieces.ensures.cause.later_sink,
      c.serve_last.ensures.later,
    ))

pub returns-clause-cause : goal.returns-clause-cause
returns-clause-cause g c = cause_of_ok tt _ _ _ _ c.serve_pieces.ensures.cause.later_source
    (omega (
      arith,
      c.serve_pieces.ensures.cause.later_sink,
      c.serve_last.ensures.later,
      c.flush.ensures.later,
    ))

pub returns-clause-kept : goal.returns-clause-kept
returns-clause-kept g c = state_kept c.in_ok-serve_last.ensures.kept
