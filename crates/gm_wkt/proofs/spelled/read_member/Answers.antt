use Rattle.std.proofs.Common.{sym, ◌∙◌, subst, List, ℕ}
use Rattle.std.proofs.lemmas.Result.{err_from_is_err_and}
use Rattle.gm_wkt.specs.Reader.{Takes}
use Rattle.gm_wkt.proofs.Members.{member_found, member_item}
use Rattle.gm_wkt.proofs.Readers.{member_same, member_none}
use Rattle.gm_wkt.proofs.spelled.read_member.Goals as goal

pub returns-in_err-item-clause-only : goal.returns-in_err-item-clause-only
returns-in_err-item-clause-only g c = λ y other tail m.
    let at = member_item (g.T.Spelled.spells c.args.loose) (g.met.T.Spelled.starts c.args.loose)
    c.args.text.now y other tail m in
    let p = err_from_is_err_and c.from_residual.result c.from_residual.ensures.1 in
    rw (p.1, p.2) (c.in_err-item.ensures.only at.0 at.1 y at.2 at.3 (c.skip_blanks.ensures ∙ at.4))

pub returns-in-None-clause-only : goal.returns-in-None-clause-only
returns-in-None-clause-only g c =
    member_none (g.T.Spelled.spells c.args.loose) (g.met.T.Spelled.starts c.args.loose)
    c.args.text.now c.skip_blanks.result.now c.in_ok-item.after.now c.in_ok-item.item
    c.skip_blanks.ensures (λ front tail x. c.in_ok-item.ensures.only front tail x)
    c.in-None.ensures

pub returns-in-Some-clause-found : goal.returns-in-Some-clause-found
returns-in-Some-clause-found g c =
    let P : List ℕ → Type 0 =
    λ t. Takes (g.T.Spelled.spells c.args.loose) t c.in_ok-item.item c.in_ok-item.after.now in
    member_found (g.T.Spelled.spells c.args.loose) c.args.text.now c.in_ok-item.after.now
    c.in_ok-item.item (c.in-Some.more, c.in-Some.rest.now)
    (subst P c.skip_blanks.ensures c.in_ok-item.ensures.found) (sym c.in-Some.ensures)

pub returns-in-Some-clause-only : goal.returns-in-Some-clause-only
returns-in-Some-clause-only g c =
    member_same (g.T.Spelled.spells c.args.loose) (g.met.T.Spelled.starts c.args.loose)
    c.args.text.now c.skip_blanks.result.now c.in_ok-item.after.now c.in-Some.rest.now
    c.in_ok-item.item c.in-Some.more c.skip_blanks.ensures
    (λ front tail x. c.in_ok-item.ensures.only front tail x) c.in-Some.ensures
