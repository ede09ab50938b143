use Rattle.std.proofs.Common.{◌≡◌, [], take, Some, refl, ap, ◌∙◌, arith}
use Rattle.std.proofs.lemmas.Grind.{common_steps}
use Rattle.std.proofs.lemmas.Result.{err_from_is_err_and}
use Rattle.std.specs.Prelude.{Err}
use Rattle.gm_program.specs.declared.stop.Stop.TheVariants.{ReadFault, TooLong}
use Rattle.gm_program.specs.Lines.{complete_from}
use Rattle.gm_program.specs.Machine.{replies}
use Rattle.gm_program.proofs.Streaming.{part_none, breaks_none}
use Rattle.gm_program.proofs.Causes.{no_limit, no_read, cause_of_ok, cause_of_err, cause_of_refusal}
use Rattle.gm_program.proofs.script.serve_next.Goals as goal

pub returns-in_default-clause-breaks : goal.returns-in_default-clause-breaks
returns-in_default-clause-breaks g c =
    λ start is. rw c.in_default.ensures.err
    (breaks_none c.args.setting ReadFault c.args.budget start _ _ (λ same. cc)
    c.requires.budget)

pub returns-then-n-budget-clause-breaks : goal.returns-then-n-budget-clause-breaks
returns-then-n-budget-clause-breaks g c = λ start is. record {
  taken = take c.in-Ok.n c.read.new.into;
  source = λ script told. let gives = c.in-Ok.ensures.bytes script told in
      (gives.rest, gives.parts, gives.stays);
  part = λ m kept. part_none
      (replies c.args.setting m (complete_from start (take c.in-Ok.n c.read.new.into))) _;
  whole = λ fault. absurd (cc);
  at_limit = λ _. grind (arith, common_steps);
  below_limit = λ other. absurd (other refl);
}

pub returns-in_err-serve_piece-clause-breaks : goal.returns-in_err-serve_piece-clause-breaks
returns-in_err-serve_piece-clause-breaks g c =
    let p = err_from_is_err_and c.from_residual.result c.from_residual.ensures.1 in
    let refusal = c.in_err-serve_piece.field-0.0 in
    rw p.1 (λ start is. record {
      taken = take c.in-Ok.n c.read.new.into;
      source = λ script told. let gives = c.in-Ok.ensures.bytes script told in
          (gives.rest, gives.parts, gives.stays);
      part = λ m kept. c.in_err-serve_piece.ensures.err start m is kept;
      whole = λ fault. absurd (no_read refusal p.0 p.2 fault);
      at_limit = λ limit. absurd (no_limit refusal p.0 p.2 limit);
      below_limit = λ _. grind (arith, common_steps);
    })

pub returns-clause-streams : goal.returns-clause-streams
returns-clause-streams g c = λ start is. record {
  taken = take c.in-Ok.n c.read.new.into;
  count = grind (arith, common_steps);
  source = λ script told. let gives = c.in-Ok.ensures.bytes script told in
      (gives.rest, gives.parts, gives.stays);
  holds = c.in_ok-serve_piece.ensures.held start is;
  serves = λ m kept. c.in_ok-serve_piece.ensures.ok start m is kept;
}

pub returns-clause-end : goal.returns-clause-end
returns-clause-end g c = λ none bytes is.
    let gives = c.in-Ok.ensures.bytes bytes is in
    let rest : gives.rest ≡ [] =
    grind (arith, common_steps, gives.parts, gives.end (rw none refl)) in
    gives.stays ∙ ap Some rest

pub returns-in_default-clause-cause : goal.returns-in_default-clause-cause
returns-in_default-clause-cause g c =
    cause_of_err ReadFault _ _ _ _ c.read.ensures.later (omega arith)
    (λ _. c.in_default.ensures.cause) (λ is. absurd (cc))

pub returns-then-n-budget-clause-cause : goal.returns-then-n-budget-clause-cause
returns-then-n-budget-clause-cause g c =
    cause_of_err TooLong _ _ _ _ c.read.ensures.later (omega arith) (λ is. absurd (cc))
    (λ is. absurd (cc))

pub returns-in_err-serve_piece-clause-cause : goal.returns-in_err-serve_piece-clause-cause
returns-in_err-serve_piece-clause-cause g c =
    let p = err_from_is_err_and c.from_residual.result c.from_residual.ensures.1 in
    rw p.1 (cause_of_refusal c.in_err-serve_piece.field-0.0 p.0 _ _ _ _ _ p.2
    c.read.ensures.later (omega arith) c.serve_piece.ensures.later
    (λ is. c.in_err-serve_piece.ensures.cause (ap Err is)))

pub returns-clause-cause : goal.returns-clause-cause
returns-clause-cause g c =
    cause_of_ok c.in-Ok.n _ _ _ _ c.read.ensures.later c.serve_piece.ensures.later
