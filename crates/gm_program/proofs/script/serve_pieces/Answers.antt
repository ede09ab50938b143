use Rattle.std.proofs.Common.{◌+◌, ◌-◌, ◌^◌, [], arith, sym, ◌∙◌, refl}
use Rattle.gm_program.proofs.Cutting.{cut-none}
use Rattle.gm_program.proofs.Causes.{cause_later, cause_of_ok}
use Rattle.gm_program.proofs.Streaming.{streams_on, streams_none, streams_keep, breaks_on}
use Rattle.gm_program.proofs.script.serve_pieces.Goals as goal

pub pieces-init : goal.pieces-init
pieces-init g c = record {
  streams = streams_none c.args.setting [] _ _ _ (c.requires.none ∙ sym cut-none)
      ((g.met.B.Tally.Counter g.world.𝓛 g.world.𝓜 g.world.𝓡
      ((λ s x. x), (λ x. x), (λ x. x), λ x. x)).fits c.args.tally.now);
  some = omega arith;
  most = omega arith;
  later_source = omega arith;
  later_sink = omega arith;
}

pub serve_next-requires-clause-kept : goal.serve_next-requires-clause-kept
serve_next-requires-clause-kept g c κs within =
    streams_keep c.args.setting _ _ _ _ _ _ _ c.pieces.invariant.streams c.requires.kept

pub returns-in-Err-clause-breaks : goal.returns-in-Err-clause-breaks
returns-in-Err-clause-breaks g c =
    breaks_on c.args.setting c.in-Err.stop c.pieces.budget (2 ^ 40) _ _ _ _ _ _ _ _
    (2 ^ 40 - c.pieces.budget) c.pieces.invariant.streams c.in-Err.ensures.breaks
    (omega (arith, c.pieces.invariant.most))

pub returns-in-Err-clause-cause : goal.returns-in-Err-clause-cause
returns-in-Err-clause-cause g c =
    cause_later c.in-Err.stop _ _ _ _ _ _ c.pieces.invariant.later_source
    c.pieces.invariant.later_sink (rw c.in-Err.is at c.serve_next.ensures.cause)

pub returns-in-Ok-eq0-clause-streams : goal.returns-in-Ok-eq0-clause-streams
returns-in-Ok-eq0-clause-streams g c = (
  2 ^ 40 - c.pieces.budget + c.in-Ok-eq0.field-0,
  omega (arith, c.pieces.invariant.some, c.pieces.invariant.most, c.in-Ok-eq0.field-0-test),
  streams_on c.args.setting _ _ _ _ _ _ _ _ _ (2 ^ 40 - c.pieces.budget) c.in-Ok-eq0.field-0 _
      c.pieces.invariant.streams c.in-Ok-eq0.ensures.streams refl,
)

pub returns-in-Ok-eq0-clause-end : goal.returns-in-Ok-eq0-clause-end
returns-in-Ok-eq0-clause-end g c = λ script is.
    let at = c.pieces.invariant.streams.source script is in
    c.in-Ok-eq0.ensures.end c.in-Ok-eq0.field-0-test at.0 at.2

pub pieces-preserved : goal.pieces-preserved
pieces-preserved g c = record {
  streams = streams_on c.args.setting _ _ _ _ _ _ _ _ _ (2 ^ 40 - c.pieces.budget) c.in-Ok.n _
      c.pieces.invariant.streams c.in-Ok.ensures.streams
      (omega (arith, c.pieces.invariant.some, c.pieces.invariant.most, c.in-Ok.ensures.below));
  some = omega (arith, c.in-Ok.ensures.below);
  most = omega (arith, c.pieces.invariant.most);
  later_source =
      omega (arith, c.pieces.invariant.later_source, c.serve_next.ensures.cause.later_source);
  later_sink = omega (arith, c.pieces.invariant.later_sink, c.serve_next.ensures.cause.later_sink);
}

pub returns-in-Ok-eq0-clause-cause : goal.returns-in-Ok-eq0-clause-cause
returns-in-Ok-eq0-clause-cause g c = cause_of_ok tt _ _ _ _
    (omega (arith, c.pieces.invariant.later_source, c.serve_next.ensures.cause.later_source))
    (omega (arith, c.pieces.invariant.later_sink, c.serve_next.ensures.cause.later_sink))
