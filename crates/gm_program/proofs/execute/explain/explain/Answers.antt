use Rattle.std.proofs.Common.{◌≡◌, ◌∙◌, Some, map, sym, ap, subst}
use Rattle.std.specs.Prelude.{All}
use Rattle.gm_filter.specs.Suitability.{Suits}
use Rattle.gm_engine_rows.specs.State.{type_at}
use Rattle.gm_script.specs.Order.{asked_by}
use Rattle.gm_strategy.specs.Choice.{IsServed, chosen_of}
use Rattle.gm_program.specs.declared.execute.plan.Planned.{Planned}
use Rattle.gm_program.specs.Plan.{IsPlanned}
use Rattle.gm_program.specs.Question.{plan_lines}
use Rattle.gm_program.specs.Step.{explained}
use Rattle.gm_program.proofs.Questions.{asked_type, type_known, refused_reply, explain_reply}
use Rattle.gm_program.proofs.execute.explain.explain.Goals as goal

pub plan_lines-requires-clause-served : goal.plan_lines-requires-clause-served
plan_lines-requires-clause-served c =
    let a = asked_by c.args.ask.now in
    let types = c.args.types.now in
    let t = c.index-as_slice-from.result in
    let q = c.requires in
    let same : t ≡ q.of =
    asked_type types c.as_slice.result.now a c.from.result t q c.as_slice.ensures.list
    c.from.ensures c.index-as_slice-from.is in
    let planned = subst (λ (p : Planned). IsPlanned t a p) c.in-Parts.is c.in_ok-code.ensures in
    let suits : Suits t a.wanted = subst (λ u. Suits u a.wanted) (sym same) q.suits in
    subst (λ ps. All (IsServed t) (map chosen_of ps)) (sym c.as_slice-in-Parts.ensures)
    (c.parts_are_served.ensures.served t a.wanted a.hint (map chosen_of c.in-Parts.plan)
    suits planned.2)

pub returns-in-Refused : goal.returns-in-Refused
returns-in-Refused c = λ s rows tally fits holds.
    let a = asked_by c.args.ask.now in
    let types = c.args.types.now in
    let t = c.index-as_slice-from.result in
    let q = c.requires in
    let same : t ≡ q.of =
    asked_type types c.as_slice.result.now a c.from.result t q c.as_slice.ensures.list
    c.from.ensures c.index-as_slice-from.is in
    let known = subst (λ u. (type_at u.number s ≡ Some u) × (u.number ≡ a.number)) (sym same)
    (type_known s types rows a q holds) in
    refused_reply s a t (explained a s) c.in-Refused.code types rows tally fits holds known.0
    known.1 (subst (λ (p : Planned). IsPlanned t a p) c.in-Refused.is c.in_ok-code.ensures)

pub returns-in_ok-lines-in-Parts : goal.returns-in_ok-lines-in-Parts
returns-in_ok-lines-in-Parts c = λ s rows tally fits holds.
    let a = asked_by c.args.ask.now in
    let types = c.args.types.now in
    let t = c.index-as_slice-from.result in
    let q = c.requires in
    let same : t ≡ q.of =
    asked_type types c.as_slice.result.now a c.from.result t q c.as_slice.ensures.list
    c.from.ensures c.index-as_slice-from.is in
    let known = subst (λ u. (type_at u.number s ≡ Some u) × (u.number ≡ a.number)) (sym same)
    (type_known s types rows a q holds) in
    let planned = subst (λ (p : Planned). IsPlanned t a p) c.in-Parts.is c.in_ok-code.ensures in
    explain_reply s a t c.in-Parts.plan c.in-Parts.target c.in_ok-lines-in-Parts.lines tally types
    rows fits holds known.0 known.1 planned
    (c.in_ok-lines-in-Parts.ensures
    ∙ ap (λ ps. plan_lines t c.in-Parts.target 1 (map chosen_of ps))
    c.as_slice-in-Parts.ensures)
