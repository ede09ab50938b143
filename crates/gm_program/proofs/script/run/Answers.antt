use Rattle.std.proofs.Common.{[], length, ap, sym, ◌∙◌, inl, inr, ⊎_elim, arith, refl, subst}
use Rattle.std.proofs.Common.{length-append, Some, None}
use Rattle.std.proofs.lemmas.Result.{IfErr-at_err}
use Rattle.gm_base.proofs.Options.{same_some}
use Rattle.gm_program.specs.Machine.{output}
use Rattle.gm_program.specs.Script.{CanBeRead, setting_of}
use Rattle.gm_program.specs.Words.{options_of}
use Rattle.gm_program.proofs.Asked.{asked, none_asked, usage_asked, source_asked, from_mapped}
use Rattle.gm_program.proofs.Asked.{on_made_done, on_made_write, either_made, made_ends}
use Rattle.gm_program.proofs.Asked.{made_done_or_no_memory, part_of_loaded}
use Rattle.gm_program.proofs.Streaming.{part_of_finished, part_none, part_same}
use Rattle.gm_program.proofs.Streaming.{count_at_limit, count_below_limit, count_most, taken_most}
use Rattle.gm_program.proofs.Causes.{on_done, on_read, on_write, either_way, other_status}
use Rattle.gm_program.proofs.Causes.{limit_or_not, done_or_no_memory}
use Rattle.gm_program.proofs.script.run.Goals as goal

-- ---- faulty words
pub returns-in-Err-Usage-clause-done : goal.returns-in-Err-Usage-clause-done
returns-in-Err-Usage-clause-done g c = λ is. absurd (cc)

pub returns-in-Err-Usage-clause-kept : goal.returns-in-Err-Usage-clause-kept
returns-in-Err-Usage-clause-kept g c = λ is. absurd (cc)

pub returns-in-Err-Usage-clause-prefix : goal.returns-in-Err-Usage-clause-prefix
returns-in-Err-Usage-clause-prefix g c =
    λ s holds options at bytes told. part_none bytes (g.K.Sink.written c.args.sink.now)

pub returns-in-Err-Usage-clause-read : goal.returns-in-Err-Usage-clause-read
returns-in-Err-Usage-clause-read g c = λ is. absurd (cc)

pub returns-in-Err-Usage-clause-usage : goal.returns-in-Err-Usage-clause-usage
returns-in-Err-Usage-clause-usage g c =
    λ is. usage_asked (options_of c.args.words.now) c.in-Err-Usage.field-0 c.in-Err-Usage.field-0-is
    c.in-Err-Usage.ensures

pub returns-in-Err-Usage-clause-faulty : goal.returns-in-Err-Usage-clause-faulty
returns-in-Err-Usage-clause-faulty g c = λ none. inl refl

pub returns-in-Err-Usage-clause-unread : goal.returns-in-Err-Usage-clause-unread
returns-in-Err-Usage-clause-unread g c = λ need. ((λ is. cc), (λ is. cc))

pub returns-in-Err-Usage-clause-too_long : goal.returns-in-Err-Usage-clause-too_long
returns-in-Err-Usage-clause-too_long g c =
    λ script is rest
    at. (
      (λ e. absurd (cc)),
      λ more. absurd (omega (arith, more, ap length (same_some script rest (sym is ∙ at)))),
    )

pub returns-in-Err-Usage-clause-most : goal.returns-in-Err-Usage-clause-most
returns-in-Err-Usage-clause-most g c =
    λ script is rest at. omega (arith, ap length (same_some script rest (sym is ∙ at)))

pub returns-in-Err-Usage-clause-complete : goal.returns-in-Err-Usage-clause-complete
returns-in-Err-Usage-clause-complete g c =
    λ options at. none_asked (options_of c.args.words.now) options
    (usage_asked (options_of c.args.words.now) c.in-Err-Usage.field-0 c.in-Err-Usage.field-0-is
    c.in-Err-Usage.ensures) at

-- ---- no memory to read the words
pub returns-in-Err-NoMemory-clause-done : goal.returns-in-Err-NoMemory-clause-done
returns-in-Err-NoMemory-clause-done g c = λ is. absurd (cc)

pub returns-in-Err-NoMemory-clause-kept : goal.returns-in-Err-NoMemory-clause-kept
returns-in-Err-NoMemory-clause-kept g c = λ is. absurd (cc)

pub returns-in-Err-NoMemory-clause-prefix : goal.returns-in-Err-NoMemory-clause-prefix
returns-in-Err-NoMemory-clause-prefix g c =
    λ s holds options at bytes told. part_none bytes (g.K.Sink.written c.args.sink.now)

pub returns-in-Err-NoMemory-clause-read : goal.returns-in-Err-NoMemory-clause-read
returns-in-Err-NoMemory-clause-read g c = λ is. absurd (cc)

pub returns-in-Err-NoMemory-clause-usage : goal.returns-in-Err-NoMemory-clause-usage
returns-in-Err-NoMemory-clause-usage g c = λ is. absurd (cc)

pub returns-in-Err-NoMemory-clause-faulty : goal.returns-in-Err-NoMemory-clause-faulty
returns-in-Err-NoMemory-clause-faulty g c = λ none. inr refl

pub returns-in-Err-NoMemory-clause-unread : goal.returns-in-Err-NoMemory-clause-unread
returns-in-Err-NoMemory-clause-unread g c = λ need. ((λ is. cc), (λ is. cc))

pub returns-in-Err-NoMemory-clause-too_long : goal.returns-in-Err-NoMemory-clause-too_long
returns-in-Err-NoMemory-clause-too_long g c =
    λ script is rest
    at. (
      (λ e. absurd (cc)),
      λ more. absurd (omega (arith, more, ap length (same_some script rest (sym is ∙ at)))),
    )

pub returns-in-Err-NoMemory-clause-most : goal.returns-in-Err-NoMemory-clause-most
returns-in-Err-NoMemory-clause-most g c =
    λ script is rest at. omega (arith, ap length (same_some script rest (sym is ∙ at)))

pub returns-in-Err-NoMemory-clause-complete : goal.returns-in-Err-NoMemory-clause-complete
returns-in-Err-NoMemory-clause-complete g c = λ options at readable no_write. inr refl

-- ---- a made script
pub returns-in-Some-clause-done : goal.returns-in-Some-clause-done
returns-in-Some-clause-done g c = λ is s holds options at.
    rw (asked _ c.in-Ok.options options (Some c.in-Some.made) c.in-Ok.ensures c.in-Some.is at)
    (on_made_done c.serve_made.result c.serve_made.ensures.done
    (sym c.status_of_made.ensures ∙ is) s holds)

pub returns-in-Some-clause-kept : goal.returns-in-Some-clause-kept
returns-in-Some-clause-kept g c =
    λ is. on_made_done c.serve_made.result c.serve_made.ensures.kept
    (sym c.status_of_made.ensures ∙ is)

pub returns-in-Some-clause-prefix : goal.returns-in-Some-clause-prefix
returns-in-Some-clause-prefix g c = λ s holds options at.
    rw (asked _ c.in-Ok.options options (Some c.in-Some.made) c.in-Ok.ensures c.in-Some.is at)
    (λ bytes told. part_same _ _ _ _ (same_some _ bytes told)
    (either_made c.serve_made.result c.serve_made.ensures.done c.serve_made.ensures.part
    (λ done. part_of_loaded (setting_of c.args.words.now) s c.in-Some.made _ _ _ _ _ _ _
    (done s holds))
    (λ part. part s holds)))

pub returns-in-Some-clause-read : goal.returns-in-Some-clause-read
returns-in-Some-clause-read g c =
    λ is. absurd ((made_ends c.serve_made.result).read (sym c.status_of_made.ensures ∙ is))

pub returns-in-Some-clause-usage : goal.returns-in-Some-clause-usage
returns-in-Some-clause-usage g c =
    λ is. absurd ((made_ends c.serve_made.result).usage (sym c.status_of_made.ensures ∙ is))

pub returns-in-Some-clause-faulty : goal.returns-in-Some-clause-faulty
returns-in-Some-clause-faulty g c =
    λ none. none_asked (options_of c.args.words.now) c.in-Ok.options none c.in-Ok.ensures

pub returns-in-Some-clause-untouched_sink : goal.returns-in-Some-clause-untouched_sink
returns-in-Some-clause-untouched_sink g c =
    λ none. none_asked (options_of c.args.words.now) c.in-Ok.options none c.in-Ok.ensures

pub returns-in-Some-clause-unread : goal.returns-in-Some-clause-unread
returns-in-Some-clause-unread g c = λ need. (
  (λ is. (made_ends c.serve_made.result).read (sym c.status_of_made.ensures ∙ is)),
  (λ is. (made_ends c.serve_made.result).limit (sym c.status_of_made.ensures ∙ is)),
)

pub returns-in-Some-clause-read_fault : goal.returns-in-Some-clause-read_fault
returns-in-Some-clause-read_fault g c =
    λ is. absurd ((made_ends c.serve_made.result).read (sym c.status_of_made.ensures ∙ is))

pub returns-in-Some-clause-write_fault : goal.returns-in-Some-clause-write_fault
returns-in-Some-clause-write_fault g c =
    λ is. on_made_write c.serve_made.result c.serve_made.ensures.cause
    (sym c.status_of_made.ensures ∙ is)

pub returns-in-Some-clause-no_folder_fault : goal.returns-in-Some-clause-no_folder_fault
returns-in-Some-clause-no_folder_fault g c =
    λ is. (made_ends c.serve_made.result).folder (sym c.status_of_made.ensures ∙ is)

pub returns-in-Some-clause-not_damaged : goal.returns-in-Some-clause-not_damaged
returns-in-Some-clause-not_damaged g c =
    λ is. (made_ends c.serve_made.result).damaged (sym c.status_of_made.ensures ∙ is)

pub returns-in-Some-clause-too_long : goal.returns-in-Some-clause-too_long
returns-in-Some-clause-too_long g c = λ script told rest at. (
  (λ is. absurd ((made_ends c.serve_made.result).limit (sym c.status_of_made.ensures ∙ is))),
  λ more. absurd (omega (arith, more, ap length (same_some script rest (sym told ∙ at)))),
)

pub returns-in-Some-clause-most : goal.returns-in-Some-clause-most
returns-in-Some-clause-most g c =
    λ script told rest at. omega (arith, ap length (same_some script rest (sym told ∙ at)))

pub returns-in-Some-clause-complete : goal.returns-in-Some-clause-complete
returns-in-Some-clause-complete g c = λ options at readable no_write.
    rw c.status_of_made.ensures
    (made_done_or_no_memory c.serve_made.result
    (λ is. no_write (c.serve_made.ensures.cause is)))

-- ---- the source's script
pub returns-clause-done : goal.returns-clause-done
returns-clause-done g c = λ is s holds options asks.
    rw (asked _ c.in-Ok.options options None c.in-Ok.ensures c.in_default.is asks)
    (λ script at. (on_done c.serve_all.result c.serve_all.ensures.done
    (sym c.status_of.ensures ∙ is) s holds script at).1)

pub returns-clause-prefix : goal.returns-clause-prefix
returns-clause-prefix g c = λ s holds options asks.
    rw (asked _ c.in-Ok.options options None c.in-Ok.ensures c.in_default.is asks)
    (λ bytes told.
    let known = from_mapped (output (setting_of c.args.words.now) s)
    (g.S.Source.left c.args.source.now) bytes told in
    part_same _ _ _ _ known.2
    (either_way c.serve_all.result _ _ c.serve_all.ensures.done c.serve_all.ensures.stopped
    (λ done. part_of_finished (setting_of c.args.words.now) s known.0 _ _ _ _ _ _ _ _
    (done s holds known.0 known.1).1)
    (λ error stopped. (stopped s holds known.0 known.1).part)))

pub returns-clause-read : goal.returns-clause-read
returns-clause-read g c = λ is s holds script at.
    let stopped = on_read c.serve_all.result
    (λ fault. (IfErr-at_err _ fault c.serve_all.ensures.stopped s holds script at))
    (sym c.status_of.ensures ∙ is) in
    (stopped.taken, stopped.rest, stopped.parts, stopped.leaves, stopped.whole refl)

pub returns-clause-usage : goal.returns-clause-usage
returns-clause-usage g c =
    λ is. absurd ((other_status c.serve_all.result).0 (sym c.status_of.ensures ∙ is))

pub returns-clause-faulty : goal.returns-clause-faulty
returns-clause-faulty g c =
    λ none. none_asked (options_of c.args.words.now) c.in-Ok.options none c.in-Ok.ensures

pub returns-clause-untouched_sink : goal.returns-clause-untouched_sink
returns-clause-untouched_sink g c =
    λ none. none_asked (options_of c.args.words.now) c.in-Ok.options none c.in-Ok.ensures

pub returns-clause-untouched_source : goal.returns-clause-untouched_source
returns-clause-untouched_source g c =
    λ need. source_asked (options_of c.args.words.now) c.in-Ok.options c.in-Ok.ensures
    c.in_default.is need

pub returns-clause-unread : goal.returns-clause-unread
returns-clause-unread g c =
    λ need. source_asked (options_of c.args.words.now) c.in-Ok.options c.in-Ok.ensures
    c.in_default.is need

pub returns-clause-read_fault : goal.returns-clause-read_fault
returns-clause-read_fault g c =
    λ is. on_read c.serve_all.result c.serve_all.ensures.cause.read (sym c.status_of.ensures ∙ is)

pub returns-clause-write_fault : goal.returns-clause-write_fault
returns-clause-write_fault g c =
    λ is. on_write c.serve_all.result c.serve_all.ensures.cause.write (sym c.status_of.ensures ∙ is)

pub returns-clause-no_folder_fault : goal.returns-clause-no_folder_fault
returns-clause-no_folder_fault g c =
    λ is. (other_status c.serve_all.result).1 (sym c.status_of.ensures ∙ is)

pub returns-clause-not_damaged : goal.returns-clause-not_damaged
returns-clause-not_damaged g c =
    λ is. (other_status c.serve_all.result).2 (sym c.status_of.ensures ∙ is)

pub returns-clause-too_long : goal.returns-clause-too_long
returns-clause-too_long g c = λ script at rest left.
    let r = c.serve_all.result in
    let s = c.requires.kept.0 in
    let holds = c.requires.kept.1 in
    rw c.status_of.ensures (limit_or_not r _ _ c.serve_all.ensures.done c.serve_all.ensures.stopped
    (λ done other.
    let d = done s holds script at in (
      (λ is. absurd (other is)),
      λ more. absurd
          (omega (arith, more, d.0, ap length (same_some [] rest (sym d.1.whole ∙ left)))),
    ))
    (λ error stopped cases.
    let st = stopped s holds script at in
    ⊎_elim
    (λ limit. (
      (λ _. count_at_limit st.taken st.rest rest script st.parts (sym st.leaves ∙ left)
          (st.at_limit limit.0)),
      λ _. limit.1,
    ))
    (λ other. (
      (λ is. absurd (other.1 is)),
      λ more. absurd
          (count_below_limit st.taken st.rest rest script st.parts (sym st.leaves ∙ left)
          (st.below_limit other.0) more),
    ))
    cases))

pub returns-clause-most : goal.returns-clause-most
returns-clause-most g c = λ script at rest left.
    let s = c.requires.kept.0 in
    let holds = c.requires.kept.1 in
    either_way c.serve_all.result _ _ c.serve_all.ensures.done c.serve_all.ensures.stopped
    (λ done. omega (arith, (done s holds script at).0))
    (λ error stopped.
    let st = stopped s holds script at in
    count_most st.taken st.rest rest script st.parts (sym st.leaves ∙ left)
    (taken_most error st.taken st.at_limit st.below_limit))

pub returns-clause-complete : goal.returns-clause-complete
returns-clause-complete g c = λ options asks can no_write.
    let s = c.requires.kept.0 in
    let holds = c.requires.kept.1 in
    let read : CanBeRead None (g.S.Source.left c.args.source.now)
    (g.S.Source.faults c.args.source.now) (g.S.Source.faults c.serve_all.new.source) =
    subst (λ generate. CanBeRead generate (g.S.Source.left c.args.source.now)
    (g.S.Source.faults c.args.source.now) (g.S.Source.faults c.serve_all.new.source))
    (asked _ c.in-Ok.options options None c.in-Ok.ensures c.in_default.is asks) can in
    rw c.status_of.ensures (done_or_no_memory c.serve_all.result
    (λ is. read.1 (c.serve_all.ensures.cause.read is))
    (λ is. no_write (c.serve_all.ensures.cause.write is))
    (λ is.
    let st = IfErr-at_err _ is c.serve_all.ensures.stopped s holds (read.0.0) (read.0.1) in
    omega (arith, read.0.2, ap length st.parts, length-append st.taken st.rest, st.at_limit refl)))

pub returns-clause-kept : goal.returns-clause-kept
returns-clause-kept g c =
    λ is. on_done c.serve_all.result c.serve_all.ensures.kept (sym c.status_of.ensures ∙ is)
