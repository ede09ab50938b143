use Rattle.std.proofs.Common.{◌+◌, ◌-◌, ◌++◌, take, drop, sym, ap, ◌∙◌, arith}
use Rattle.std.proofs.lemmas.Result.{err_from_is_err_and}
use Rattle.gm_base.proofs.Lists.{rest_whole}
use Rattle.gm_program.specs.Lines.{complete_from, partial_from, cut}
use Rattle.gm_program.specs.Machine.{after}
use Rattle.gm_program.proofs.Cutting.{none_from, part_inside, part_whole_line, part_and_rest}
use Rattle.gm_program.proofs.Cutting.{part_fits, complete_from-all, partial_from-all}
use Rattle.gm_program.proofs.Streaming.{serves_none, serves_more, part_more, held_more, part_all}
use Rattle.gm_program.proofs.serve.serve_piece.Goals as goal

pub loop-length-init : goal.loop-length-init
loop-length-init g c = record {
  inside = omega arith;
  kept = c.requires.kept;
  served = λ start m is kept. serves_none c.args.setting m _ kept
      ((g.met.B.Tally.Counter g.world.𝓛 g.world.𝓜 g.world.𝓡
      ((λ s x. x), (λ x. x), (λ x. x), λ x. x)).fits c.args.tally.now);
  held = λ start is. is;
  later = omega arith;
}

pub serve_ended-requires-clause-kept : goal.serve_ended-requires-clause-kept
serve_ended-requires-clause-kept g c κs within = c.loop-length.invariant.kept

pub loop-length-preserved : goal.loop-length-preserved
loop-length-preserved g c =
    let at = c.loop-length.at in
    let n = c.in-Some.length in
    let piece = c.args.piece.now in
    let part = take (at + n - at) (drop at piece) in
    let inside = part_inside piece at n c.in-Some.ensures in
    let whole = part_whole_line piece at n c.in-Some.ensures in
    record {
      inside = part_fits piece at n c.loop-length.invariant.inside c.in-Some.ensures;
      kept = c.in_ok-serve_ended.ensures.kept;
      served = λ start m is kept.
          let before = c.loop-length.invariant.served start m is kept in
          serves_more c.args.setting m start (take at piece) part (take (at + (n + 1)) piece) _ _ _
          inside whole before
          (c.in_ok-serve_ended.ensures.ok (partial_from start (take at piece))
          (after c.args.setting m (complete_from start (take at piece)))
          (c.loop-length.invariant.held start is) before.keeps);
      held = λ start is. c.in_ok-serve_ended.ensures.held
          ∙ held_more start (take at piece) part (take (at + (n + 1)) piece) inside whole;
      later = omega (arith, c.loop-length.invariant.later, c.serve_ended.ensures.later);
    }

pub returns-in_err-serve_ended-clause-err : goal.returns-in_err-serve_ended-clause-err
returns-in_err-serve_ended-clause-err g c =
    let p = err_from_is_err_and c.from_residual.result c.from_residual.ensures.1 in
    rw p.1 (λ start m is kept.
    let at = c.loop-length.at in
    let n = c.in-Some.length in
    let piece = c.args.piece.now in
    let part = take (at + n - at) (drop at piece) in
    let before = c.loop-length.invariant.served start m is kept in
    part_more c.args.setting m start (take at piece) part piece (drop (at + (n + 1)) piece) _ _ _
    (part_inside piece at n c.in-Some.ensures)
    (part_and_rest piece at n c.in-Some.ensures) before
    (c.in_err-serve_ended.ensures.err (partial_from start (take at piece))
    (after c.args.setting m (complete_from start (take at piece)))
    (c.loop-length.invariant.held start is) before.keeps))

pub returns-in-Err-clause-err : goal.returns-in-Err-clause-err
returns-in-Err-clause-err g c = λ start m is kept.
    let at = c.loop-length.at in
    let piece = c.args.piece.now in
    part_all c.args.setting m start at piece _ _ (none_from piece at c.in_default.ensures)
    (c.loop-length.invariant.served start m is kept)

pub returns-clause-ok : goal.returns-clause-ok
returns-clause-ok g c = λ start m is kept.
    let at = c.loop-length.at in
    let piece = c.args.piece.now in
    rw (complete_from-all start at piece (none_from piece at c.in_default.ensures))
    (c.loop-length.invariant.served start m is kept)

pub returns-clause-held : goal.returns-clause-held
returns-clause-held g c = λ start is.
    let at = c.loop-length.at in
    let piece = c.args.piece.now in
    c.in_default-hold.ensures (partial_from start (take at piece))
    (c.loop-length.invariant.held start is)
    ∙ ap (λ rest. cut (partial_from start (take at piece) ++ rest)) (rest_whole piece at)
    ∙ sym (ap cut (partial_from-all start at piece (none_from piece at c.in_default.ensures)))

pub returns-clause-kept : goal.returns-clause-kept
returns-clause-kept g c = c.loop-length.invariant.kept
