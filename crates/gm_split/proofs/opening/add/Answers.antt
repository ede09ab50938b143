use Rattle.std.proofs.Common.{◌≡◌, sym, ap, ◌∙◌, subst}
use Rattle.std.specs.Prelude.{Some, option_to_list}
use Rattle.std.proofs.lemmas.Result.{on_ok_weaker}
use Rattle.gm_split.specs.declared.pieces.Piece.TheVariants.{Codes}
use Rattle.gm_split.specs.Opening.{piece_of}
use Rattle.gm_split.specs.Near.{lie_of}
use Rattle.gm_split.specs.Front.{Takes}
use Rattle.gm_split.proofs.Standing.{none_stands, part_stands, inside_stands}
use Rattle.gm_split.proofs.Taken.{takes_none}
use Rattle.gm_split.proofs.opening.add.Goals as goal

pub returns-then-near-eq0 : goal.returns-then-near-eq0
returns-then-near-eq0 g c =
    let s = g.T.Tree.shape c.args.tree.now in
    let is = none_stands g.row.D s c.args.windows.now c.args.node.now c.in-Near.near
    (sym c.in-Near.is ∙ c.lie_among.ensures
    ∙ ap (lie_of g.row.D c.args.windows.now) c.reach.ensures) c.if-near-eq0.true in
    subst (λ o. Takes s (option_to_list o) c.args.into.now c.args.into.now) is
    (takes_none s c.args.into.now)

pub returns-in-Inside : goal.returns-in-Inside
returns-in-Inside g c =
    let s = g.T.Tree.shape c.args.tree.now in
    let is : Some (Codes c.args.node.now.first c.last.result)
    ≡ piece_of g.row.D s c.args.windows.now c.args.node.now =
    ap (λ k. Some (Codes c.args.node.now.first k)) c.last.ensures
    ∙ inside_stands g.row.D s c.args.windows.now c.args.node.now
    (sym c.in-Inside.is ∙ c.lie_among.ensures
    ∙ ap (lie_of g.row.D c.args.windows.now) c.reach.ensures) in
    on_ok_weaker c.settle.result
    (λ t. subst (λ o. Takes s (option_to_list o) c.args.into.now c.settle.new.self) is (t s))
    c.settle.ensures

pub returns-else-near-eq0 : goal.returns-else-near-eq0
returns-else-near-eq0 g c =
    let s = g.T.Tree.shape c.args.tree.now in
    let is = part_stands g.row.D s c.args.windows.now c.args.node.now c.in-Near.near
    (sym c.in-Near.is ∙ c.lie_among.ensures
    ∙ ap (lie_of g.row.D c.args.windows.now) c.reach.ensures) c.if-near-eq0.false in
    on_ok_weaker c.keep.result
    (λ t. subst (λ o. Takes s (option_to_list o) c.args.into.now c.keep.new.self) is
    (t s (sym c.last-in-Near.ensures))) c.keep.ensures
