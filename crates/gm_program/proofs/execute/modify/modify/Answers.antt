use Rattle.std.proofs.Common.{◌≡◌, ◌∙◌, IfOk, ℕ, sym, ap, subst}
use Rattle.gm_base.proofs.Options.{same_some}
use Rattle.gm_filter.specs.Suitability.{Suits}
use Rattle.gm_filter.specs.Tree.{Tree, tree}
use Rattle.gm_types.specs.Specification.{Specification}
use Rattle.gm_script.specs.Order.{Asked}
use Rattle.gm_program.specs.Matched.{MayTake}
use Rattle.gm_program.specs.Serve.{Executes}
use Rattle.gm_program.specs.Step.{plain, modify_step}
use Rattle.gm_program.proofs.Changing.{type_there, read_known}
use Rattle.gm_program.proofs.Planned.{type_of}
use Rattle.gm_program.proofs.execute.modify.modify.Goals as goal

pub modify_of-requires-clause-typed : goal.modify_of-requires-clause-typed
modify_of-requires-clause-typed g c κs within =
    let types = c.args.store.now.types in
    let t = c.index-as_slice-from.result in
    let s = c.requires.kept.0 in
    let holds = c.requires.kept.1 in
    let there = type_there s types c.args.type_number t holds.state holds.same_types
    (read_known types c.as_slice.result.now c.args.type_number c.from.result t c.requires.suits.of
    c.as_slice.ensures.list c.from.ensures c.index-as_slice-from.is c.requires.suits.there) in
    (s, type_of s t types (g.B.Sorted.rows c.args.store.now.table) holds there.0)

pub modify_of-requires-clause-plain : goal.modify_of-requires-clause-plain
modify_of-requires-clause-plain g c κs within =
    let types = c.args.store.now.types in
    let t = c.index-as_slice-from.result in
    let holds = c.requires.kept.1 in
    let there = type_there c.requires.kept.0 types c.args.type_number t holds.state holds.same_types
    (read_known types c.as_slice.result.now c.args.type_number c.from.result t c.requires.suits.of
    c.as_slice.ensures.list c.from.ensures c.index-as_slice-from.is c.requires.suits.there) in
    let wanted : tree c.plainly-ask.result.filter ≡ tree c.args.change.filter =
    ap (λ (a : Asked). a.wanted) c.plainly-ask.ensures in
    c.plainly-ask.ensures ∙ ap (λ (n : ℕ). plain n (tree c.args.change.filter)) (sym there.1)
    ∙ ap (plain t.number) (sym wanted)

pub modify_of-requires-clause-suits : goal.modify_of-requires-clause-suits
modify_of-requires-clause-suits g c κs within =
    let types = c.args.store.now.types in
    let t = c.index-as_slice-from.result in
    let of = c.requires.suits.of in
    let known = read_known types c.as_slice.result.now c.args.type_number c.from.result t of
    c.as_slice.ensures.list c.from.ensures c.index-as_slice-from.is c.requires.suits.there in
    let same : of ≡ t = same_some of t (sym c.requires.suits.there ∙ known) in
    let wanted : tree c.plainly-ask.result.filter ≡ tree c.args.change.filter =
    ap (λ (a : Asked). a.wanted) c.plainly-ask.ensures in
    subst (λ (u : Specification). Suits u (tree c.plainly-ask.result.filter)) same
    (subst (λ (w : Tree). Suits of w) (sym wanted) c.requires.suits.suits)

pub modify_of-requires-clause-takes : goal.modify_of-requires-clause-takes
modify_of-requires-clause-takes g c κs within =
    let t = c.index-as_slice-from.result in
    let of = c.requires.suits.of in
    let known = read_known c.args.store.now.types c.as_slice.result.now c.args.type_number
    c.from.result
    t of c.as_slice.ensures.list c.from.ensures c.index-as_slice-from.is
    c.requires.suits.there in
    let same : of ≡ t = same_some of t (sym c.requires.suits.there ∙ known) in
    subst (λ (u : Specification). MayTake u c.args.change.attribute c.args.change.value) same
    (record { holds = c.requires.suits.holds; dated = c.requires.suits.dated })

pub returns : goal.returns
returns g c = λ s holds.
    let types = c.args.store.now.types in
    let t = c.index-as_slice-from.result in
    let there = type_there s types c.args.type_number t holds.state holds.same_types
    (read_known types c.as_slice.result.now c.args.type_number c.from.result t c.requires.suits.of
    c.as_slice.ensures.list c.from.ensures c.index-as_slice-from.is c.requires.suits.there) in
    let wanted : tree c.plainly-ask.result.filter ≡ tree c.args.change.filter =
    ap (λ (a : Asked). a.wanted) c.plainly-ask.ensures in
    subst (λ (n : ℕ). IfOk c.modify_of.result
    (λ reply. Executes
    (modify_step n c.args.change.attribute c.args.change.value (tree c.args.change.filter)
    s) reply types
    (g.B.Sorted.rows c.modify_of.new.table) (g.B.Tally.Counter.number c.args.tally.now)
    (g.B.Tally.Counter.number c.modify_of.new.tally))) there.1
    (subst (λ (w : Tree). IfOk c.modify_of.result
    (λ reply. Executes
    (modify_step t.number c.args.change.attribute c.args.change.value w s) reply types
    (g.B.Sorted.rows c.modify_of.new.table) (g.B.Tally.Counter.number c.args.tally.now)
    (g.B.Tally.Counter.number c.modify_of.new.tally))) wanted
    (c.modify_of.ensures s types holds there.0))
