use Rattle.std.proofs.Common.{◌++◌, ◌∷◌, [], true, false, Bool, sym, ◌∙◌, subst, List}
use Rattle.std.proofs.lemmas.Result.{err_from_is_err_and}
use Rattle.gm_wkt.specs.Grammar.{SpellsMember}
use Rattle.gm_wkt.specs.Reader.{separator, UpTo}
use Rattle.gm_wkt.proofs.Readers.{more_found, more_remains, last_remains, first_member, Remains}
use Rattle.gm_wkt.proofs.Readers.{Same}
use Rattle.gm_wkt.proofs.spelled.read_members.Goals as goal

pub returns-in_err-item-clause-only : goal.returns-in_err-item-clause-only
returns-in_err-item-clause-only g c = λ xs tail u.
    let r = c.members.invariant.only xs tail u in
    let m = first_member (g.T.Spelled.spells c.args.loose) c.members.rest.now r.later
    tail r.spells in
    let p = err_from_is_err_and c.from_residual.result c.from_residual.ensures.1 in
    rw (p.1, p.2) (c.in_err-item.ensures.only m.0 m.1 m.2 m.3)

pub returns-then-not-more-clause-only : goal.returns-then-not-more-clause-only
returns-then-not-more-clause-only g c = λ xs tail u.
    let r = c.members.invariant.only xs tail u in
    let P : Bool → Type 0 =
    λ b. Same (g.T.Spelled.spells c.args.loose) c.members.rest.now c.in_ok-item.item b
    c.in_ok-item.later.now in
    let same : P false =
    subst P c.if-not-more.true (λ y other t m. c.in_ok-item.ensures.only y other t m) in
    let e = last_remains (g.T.Spelled.spells c.args.loose) c.members.rest.now c.in_ok-item.later.now
    c.members.items xs c.in_ok-item.item tail r.later same r.whole r.spells in
    (c.in_ok-push.ensures.ok ∙ e.0, e.1)

pub returns-then-not-more-clause-found : goal.returns-then-not-more-clause-found
returns-then-not-more-clause-found g c =
    let P : Bool → Type 0 =
    λ b. SpellsMember (g.T.Spelled.spells c.args.loose) c.members.rest.now c.in_ok-item.item
    (separator b ∷ c.in_ok-item.later.now) in
    let member : P false = subst P c.if-not-more.true c.in_ok-item.ensures.found in
    let Q : List g.row.T.Denot → Type 0 =
    λ l. UpTo (g.T.Spelled.spells c.args.loose) c.args.text.now l c.in_ok-item.later.now in
    subst Q (sym c.in_ok-push.ensures.ok)
    (c.members.invariant.found (c.in_ok-item.item ∷ []) c.in_ok-item.later.now member)

pub members-preserved : goal.members-preserved
members-preserved g c =
    let P : Bool → Type 0 =
    λ b. SpellsMember (g.T.Spelled.spells c.args.loose) c.members.rest.now c.in_ok-item.item
    (separator b ∷ c.in_ok-item.later.now) in
    let member : P true = subst P c.if-not-more.false c.in_ok-item.ensures.found in
    let S : Bool → Type 0 =
    λ b. Same (g.T.Spelled.spells c.args.loose) c.members.rest.now c.in_ok-item.item b
    c.in_ok-item.later.now in
    let same : S true =
    subst S c.if-not-more.false (λ y other t m. c.in_ok-item.ensures.only y other t m) in
    record {
      found = λ xs tail u.
          let Q : List g.row.T.Denot → Type 0 =
          λ l. UpTo (g.T.Spelled.spells c.args.loose) c.args.text.now (l ++ xs) tail in
          subst Q (sym c.in_ok-push.ensures.ok)
          (more_found (g.T.Spelled.spells c.args.loose) c.args.text.now c.members.rest.now
          c.in_ok-item.later.now c.members.items c.in_ok-item.item c.members.invariant.found
          member xs tail u);
      only = λ xs tail u.
          let r = c.members.invariant.only xs tail u in
          let R : List g.row.T.Denot → Type 0 =
          λ l. Remains (g.T.Spelled.spells c.args.loose) c.in_ok-item.later.now l xs tail in
          subst R (sym c.in_ok-push.ensures.ok)
          (more_remains (g.T.Spelled.spells c.args.loose) c.members.rest.now
          c.in_ok-item.later.now c.members.items xs c.in_ok-item.item tail r.later same
          r.whole r.spells);
    }
