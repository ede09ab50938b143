use Rattle.std.proofs.Common.{[], append-nil, sym}
use Rattle.std.proofs.lemmas.Result.{err_from_is_err_and}
use Rattle.gm_wkt.proofs.Wholes.{whole_same, not_empty}
use Rattle.gm_wkt.proofs.reader.read_whole.Goals as goal

pub returns-in_err-value-clause-only : goal.returns-in_err-value-clause-only
returns-in_err-value-clause-only g c = λ x s.
    let p = err_from_is_err_and c.from_residual.result c.from_residual.ensures.1 in
    rw (p.1, p.2) (c.in_err-value.ensures.only c.args.text.now [] x s tt
    (sym (append-nil c.args.text.now)))

pub returns-then-not-is_empty-clause-only : goal.returns-then-not-is_empty-clause-only
returns-then-not-is_empty-clause-only g c =
    λ x s. not_empty c.in_ok-value.rest.now c.if-not-is_empty.ensures
    (whole_same (g.T.Spelled.spells c.args.loose) c.args.text.now c.in_ok-value.rest.now
    c.in_ok-value.value x (λ front tail y. c.in_ok-value.ensures.only front tail y) s).1

pub returns-clause-only : goal.returns-clause-only
returns-clause-only g c =
    λ x s. (whole_same (g.T.Spelled.spells c.args.loose) c.args.text.now c.in_ok-value.rest.now
    c.in_ok-value.value x (λ front tail y. c.in_ok-value.ensures.only front tail y) s).0
