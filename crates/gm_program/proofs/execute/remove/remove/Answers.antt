use Rattle.std.proofs.Common.{◌≡◌, ◌∙◌, IfOk, ℕ, sym, ap, subst}
use Rattle.gm_base.proofs.Options.{same_some}
use Rattle.gm_filter.specs.Suitability.{Suits}
use Rattle.gm_filter.specs.Tree.{Tree, tree}
use Rattle.gm_types.specs.Specification.{Specification}
use Rattle.gm_script.specs.Order.{Asked}
use Rattle.gm_program.specs.Serve.{Executes}
use Rattle.gm_program.specs.Step.{plain, remove_step}
use Rattle.gm_program.proofs.Changing.{type_there, read_known}
use Rattle.gm_program.proofs.Planned.{type_of}
use Rattle.gm_program.proofs.execute.remove.remove.Goals as goal

pub remove_of-requires-clause-typed : goal.remove_of-requires-clause-typed
remove_of-requires-clause-typed g c κs within =
    let types = c.args.store.now.types in
    let t = c.index-as_slice-from.result in
    let s = c.requires.kept.0 in
    let holds = c.requires.kept.1 in
    let there = type_there s types c.args.type_number t holds.state holds.same_types
    (read_known types c.as_slice.result.now c.args.type_number c.from.result t c.requires.suits.of
    c.as_slice.ensures.list c.from.ensures c.index-as_slice-from.is c.requires.suits.there) in
    (s, type_of s t types (g.B.Sorted.rows c.args.store.now.table) holds there.0)

pub remove_of-requires-clause-plain : goal.remove_of-requires-clause-plain
remove_of-requires-clause-plain g c κs within =
    let types = c.args.store.now.types in
    let t = c.index-as_slice-from.result in
    let holds = c.requires.kept.1 in
    let there = type_there c.requires.kept.0 types c.args.type_number t holds.state holds.same_types
    (read_known types c.as_slice.result.now c.args.type_number c.from.result t c.requires.suits.of
    c.as_slice.ensures.list c.from.ensures c.index-as_slice-from.is c.requires.suits.there) in
    let wanted : tree c.plainly.result.filter ≡ tree c.args.filter =
    ap (λ (a : Asked). a.wanted) c.plainly.ensures in
    c.plainly.ensures ∙ ap (λ (n : ℕ). plain n (tree c.args.filter)) (sym there.1)
    ∙ ap (plain t.number) (sym wanted)

pub remove_of-requires-clause-suits : goal.remove_of-requires-clause-suits
remove_of-requires-clause-suits g c κs within =
    let types = c.args.store.now.types in
    let t = c.index-as_slice-from.result in
    let of = c.requires.suits.of in
    let known = read_known types c.as_slice.result.now c.args.type_number c.from.result t of
    c.as_slice.ensures.list c.from.ensures c.index-as_slice-from.is c.requires.suits.there in
    let same : of ≡ t = same_some of t (sym c.requires.suits.there ∙ known) in
    let wanted : tree c.plainly.result.filter ≡ tree c.args.filter =
    ap (λ (a : Asked). a.wanted) c.plainly.ensures in
    subst (λ (u : Specification). Suits u (tree c.plainly.result.filter)) same
    (subst (λ (w : Tree). Suits of w) (sym wanted) c.requires.suits.suits)

pub returns : goal.returns
returns g c = λ s holds.
    let types = c.args.store.now.types in
    let t = c.index-as_slice-from.result in
    let there = type_there s types c.args.type_number t holds.state holds.same_types
    (read_known types c.as_slice.result.now c.args.type_number c.from.result t c.requires.suits.of
    c.as_slice.ensures.list c.from.ensures c.index-as_slice-from.is c.requires.suits.there) in
    let wanted : tree c.plainly.result.filter ≡ tree c.args.filter =
    ap (λ (a : Asked). a.wanted) c.plainly.ensures in
    subst (λ (n : ℕ). IfOk c.remove_of.result
    (λ reply. Executes (remove_step n (tree c.args.filter) s) reply types
    (g.B.Sorted.rows c.remove_of.new.table) (g.B.Tally.Counter.number c.args.tally.now)
    (g.B.Tally.Counter.number c.remove_of.new.tally))) there.1
    (subst (λ (w : Tree). IfOk c.remove_of.result
    (λ reply. Executes (remove_step t.number w s) reply types
    (g.B.Sorted.rows c.remove_of.new.table) (g.B.Tally.Counter.number c.args.tally.now)
    (g.B.Tally.Counter.number c.remove_of.new.tally))) wanted
    (c.remove_of.ensures s types holds there.0))
