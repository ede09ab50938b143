-- What a question is answered.
use Rattle.std.proofs.Common.{◌≡◌, ◌<◌, ◌^◌, ℕ, List, map}
use Rattle.std.proofs.Common.{Option, Some, None, sym, ap, subst, ◌∙◌, arith}
use Rattle.std.specs.Prelude.{get_or}
use Rattle.std.specs.List.{list_any}
use Rattle.gm_base.proofs.Options.{same_some}
use Rattle.gm_base.specs.declared.code.Code.{Code}
use Rattle.gm_table.specs.Sorted.{Rows}
use Rattle.gm_types.specs.declared.index.IndexKind.{IndexKind}
use Rattle.gm_types.specs.Specification.{Specification}
use Rattle.gm_feature.specs.declared.feature.Feature.{Feature}
use Rattle.gm_filter.specs.Tree.{Tree}
use Rattle.gm_filter.specs.Truth.{is_true}
use Rattle.gm_engine_rows.specs.State.{State, type_at}
use Rattle.gm_script.specs.declared.reply.Reply.TheVariants as reply
use Rattle.gm_script.specs.Order.{Asked}
use Rattle.gm_script.specs.Suits.{IsQuestion}
use Rattle.gm_strategy.specs.declared.part.Part.{Part}
use Rattle.gm_strategy.specs.Choice.{Chosen, chosen_of}
use Rattle.gm_strategy.specs.Strategy.{plan_of}
use Rattle.gm_program.specs.declared.execute.plan.Planned.TheVariants as plan
use Rattle.gm_program.specs.Found.{tests_of}
use Rattle.gm_program.specs.Plan.{IsPlanned}
use Rattle.gm_program.specs.Question.{plan_lines}
use Rattle.gm_program.specs.Serve.{Executes}
use Rattle.gm_program.specs.Step.{Outcome, asked_of, explained, explain_step}
use Rattle.gm_program.specs.Store.{Types, Holds, HasState, HasType}
use Rattle.gm_program.proofs.Changing.{type_there, read_known}
use Rattle.gm_program.proofs.Planned.{step_refused, step_answered, executes_refused, type_of}
use Rattle.gm_program.proofs.Planned.{any_test}

-- the law of parts
abbrev pub FindAll : Type 0
FindAll = (s : Specification) (t : Tree) (hint : Option IndexKind) (parts : List Chosen)
    → plan_of s t hint ≡ Some parts → (f : Feature)
    → is_true f t ≡ list_any (λ part. is_true f part.wanted) parts

-- ---- the type of a question
-- what is read of the types at the number of a question is its type
pub asked_type : (types seen : Types) (a : Asked) (at : ℕ) (t : Specification)
    → (q : IsQuestion types a) → seen ≡ types → at ≡ a.number → t ≡ get_or seen at t → t ≡ q.of
asked_type types seen a at t q same number is =
    same_some t q.of
    (sym (read_known types seen a.number at t q.of same number is q.there) ∙ q.there)

pub type_known : (s : State) (types : Types) (rows : Rows) (a : Asked) (q : IsQuestion types a)
    → Holds s types rows → (type_at q.of.number s ≡ Some q.of) × (q.of.number ≡ a.number)
type_known s types rows a q holds =
    type_there s types a.number q.of holds.state holds.same_types q.there

pub has_type : (types : Types) (rows : Rows) (a : Asked) (q : IsQuestion types a)
    → HasState types rows → HasType q.of rows
has_type types rows a q (s, holds) =
    (s, type_of s q.of types rows holds (type_known s types rows a q holds).0)

-- ---- a refusal
pub refused_reply : (s : State) (a : Asked) (t : Specification)
    (outcome : Specification → List Chosen → Outcome) (code : Code) (types : Types) (rows : Rows)
    (tally : ℕ) → tally < 2 ^ 64 → Holds s types rows
    → type_at t.number s ≡ Some t → t.number ≡ a.number → IsPlanned t a (plan.Refused code)
    → Executes (asked_of (type_at a.number s) a s outcome) (Some (reply.Refusal code None)) types
    rows tally tally
refused_reply s a t outcome code types rows tally fits holds typed number is =
    executes_refused s (asked_of (type_at a.number s) a s outcome) code types rows tally fits holds
    (step_refused s a t outcome code (ap (λ (n : ℕ). type_at n s) (sym number) ∙ typed)
    (is s (outcome t)))

-- ---- the filters of the parts
pub tests_same : FindAll → (t : Specification) (a : Asked) (parts : List Part)
    → plan_of t a.wanted a.hint ≡ Some (map chosen_of parts)
    → (f : Feature)
    → is_true f a.wanted ≡ list_any (λ test. is_true f test) (tests_of (map chosen_of parts))
tests_same all t a parts plan f =
    all t a.wanted a.hint (map chosen_of parts) plan f ∙ any_test f (map chosen_of parts)

-- ---- the lines of a plan
pub explain_reply : (s : State) (a : Asked) (t : Specification) (parts : List Part) (target : ℕ)
    (lines : List (List ℕ)) (tally : ℕ) (types : Types) (rows : Rows) → tally < 2 ^ 64
    → Holds s types rows → type_at t.number s ≡ Some t → t.number ≡ a.number
    → IsPlanned t a (plan.Parts parts target) → lines ≡ plan_lines t target 1 (map chosen_of parts)
    → Executes (explain_step a s) (Some (reply.Explained lines)) types rows tally tally
explain_reply s a t parts target lines tally types rows fits holds typed number planned are =
    let at : type_at a.number s ≡ Some t = ap (λ (n : ℕ). type_at n s) (sym number) ∙ typed in
    subst (λ o. Executes o (Some (reply.Explained lines)) types rows tally tally)
    (sym (step_answered s a t (explained a s) (map chosen_of parts) at planned.2 planned.1))
    (record {
      store = holds;
      reply = ap (λ ls. Some (reply.Explained ls))
          (are ∙ ap (λ (n : ℕ). plan_lines t n 1 (map chosen_of parts)) planned.0);
      tally = omega (arith, fits);
    })
