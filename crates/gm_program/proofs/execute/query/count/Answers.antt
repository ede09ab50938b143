use Rattle.std.proofs.Common.{◌≡◌, Some, map, sym, subst}
use Rattle.std.specs.Prelude.{All}
use Rattle.gm_filter.specs.Suitability.{Suits}
use Rattle.gm_engine_rows.specs.State.{type_at}
use Rattle.gm_script.specs.Order.{asked_by}
use Rattle.gm_strategy.specs.Choice.{IsServed, chosen_of}
use Rattle.gm_program.specs.declared.execute.plan.Planned.{Planned}
use Rattle.gm_program.specs.Plan.{IsPlanned}
use Rattle.gm_program.specs.Collecting.{Counts}
use Rattle.gm_program.specs.Found.{tests_of}
use Rattle.gm_program.specs.Question.{rows_examined}
use Rattle.gm_program.specs.Step.{counted}
use Rattle.gm_program.specs.Store.{HasType, IsTypeOf}
use Rattle.gm_base.specs.Counter.{capped_sum}
use Rattle.gm_engine_rows.specs.Rows.{rows_of}
use Rattle.gm_program.proofs.Planned.{type_of}
use Rattle.gm_program.proofs.Queried.{count_reply}
use Rattle.gm_program.proofs.Questions.{asked_type, type_known, has_type, refused_reply}
use Rattle.gm_program.proofs.execute.query.count.Goals as goal

pub count_plan-requires-clause-typed : goal.count_plan-requires-clause-typed
count_plan-requires-clause-typed g c κs within =
    let a = asked_by c.args.ask.now in
    let types = c.args.store.now.types in
    let t = c.index-as_slice-from.result in
    let q = c.requires.suits in
    let same : t ≡ q.of =
    asked_type types c.as_slice.result.now a c.from.result t q c.as_slice.ensures.list
    c.from.ensures c.index-as_slice-from.is in
    subst (λ u. HasType u (g.B.Sorted.rows c.args.store.now.table)) (sym same)
    (has_type types (g.B.Sorted.rows c.args.store.now.table) a q c.requires.kept)

pub count_plan-requires-clause-served : goal.count_plan-requires-clause-served
count_plan-requires-clause-served g c κs within =
    let a = asked_by c.args.ask.now in
    let types = c.args.store.now.types in
    let t = c.index-as_slice-from.result in
    let q = c.requires.suits in
    let same : t ≡ q.of =
    asked_type types c.as_slice.result.now a c.from.result t q c.as_slice.ensures.list
    c.from.ensures c.index-as_slice-from.is in
    let planned = subst (λ (p : Planned). IsPlanned t a p) c.in-Parts.is c.in_ok-code.ensures in
    let suits : Suits t a.wanted = subst (λ u. Suits u a.wanted) (sym same) q.suits in
    subst (λ ps. All (IsServed t) (map chosen_of ps)) (sym c.as_slice-in-Parts.ensures)
    (c.parts_are_served.ensures.served t a.wanted a.hint (map chosen_of c.in-Parts.plan)
    suits planned.2)

pub returns-in-Refused : goal.returns-in-Refused
returns-in-Refused g c = λ s holds.
    let a = asked_by c.args.ask.now in
    let types = c.args.store.now.types in
    let t = c.index-as_slice-from.result in
    let q = c.requires.suits in
    let same : t ≡ q.of =
    asked_type types c.as_slice.result.now a c.from.result t q c.as_slice.ensures.list
    c.from.ensures c.index-as_slice-from.is in
    let rows = g.B.Sorted.rows c.args.store.now.table in
    let known = subst (λ u. (type_at u.number s ≡ Some u) × (u.number ≡ a.number)) (sym same)
    (type_known s types rows a q holds) in
    refused_reply s a t (counted a s) c.in-Refused.code types rows
    (g.B.Tally.Counter.number c.args.tally.now)
    ((g.met.B.Tally.Counter g.world.𝓛 g.world.𝓜 g.world.𝓡
    ((λ s x. x), (λ x. x), (λ x. x), λ x. x)).fits c.args.tally.now) holds known.0 known.1
    (subst (λ (p : Planned). IsPlanned t a p) c.in-Refused.is c.in_ok-code.ensures)

pub returns-in_ok-counted-in-Parts : goal.returns-in_ok-counted-in-Parts
returns-in_ok-counted-in-Parts g c = λ s holds.
    let a = asked_by c.args.ask.now in
    let types = c.args.store.now.types in
    let t = c.index-as_slice-from.result in
    let q = c.requires.suits in
    let same : t ≡ q.of =
    asked_type types c.as_slice.result.now a c.from.result t q c.as_slice.ensures.list
    c.from.ensures c.index-as_slice-from.is in
    let rows = g.B.Sorted.rows c.args.store.now.table in
    let known = subst (λ u. (type_at u.number s ≡ Some u) × (u.number ≡ a.number)) (sym same)
    (type_known s types rows a q holds) in
    let own = subst (λ u. IsTypeOf s u rows) (sym same)
    (type_of s q.of types rows holds (type_known s types rows a q holds).0) in
    let planned = subst (λ (p : Planned). IsPlanned t a p) c.in-Parts.is c.in_ok-code.ensures in
    let read = c.in_ok-counted-in-Parts.counted in
    let plan_is = c.as_slice-in-Parts.ensures in
    let counts = subst (λ ps. Counts s t.number (tests_of (map chosen_of ps)) read.matched) plan_is
    (c.in_ok-counted-in-Parts.ensures.matched s own) in
    let examined =
    subst (λ ps. (read.examined
    ≡ rows_examined t c.in-Parts.target (rows_of s) (map chosen_of ps))
    × (g.B.Tally.Counter.number c.count_plan.new.tally
    ≡ capped_sum (g.B.Tally.Counter.number c.args.tally.now) read.examined)) plan_is
    (c.in_ok-counted-in-Parts.ensures.examined s own) in
    count_reply c.parts_find_all.ensures s a t c.in-Parts.plan c.in-Parts.target read.matched
    read.examined
    (g.B.Tally.Counter.number c.args.tally.now) (g.B.Tally.Counter.number c.count_plan.new.tally)
    types rows holds known.0 known.1 planned counts examined
