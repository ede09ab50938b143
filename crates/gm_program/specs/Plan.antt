-- Which parts are read for a question.
use Rattle.std.specs.Prelude.{◌≡◌, true, map, List, Some}
use Rattle.gm_types.specs.Specification.{Specification}
use Rattle.gm_engine_rows.specs.State.{State}
use Rattle.gm_script.specs.Order.{Asked}
use Rattle.gm_strategy.specs.Choice.{Chosen, chosen_of}
use Rattle.gm_strategy.specs.Strategy.{plan_of}
use Rattle.gm_program.specs.declared.execute.plan.Planned.{Planned}
use Rattle.gm_program.specs.declared.execute.plan.Planned.TheVariants as plan
use Rattle.gm_program.specs.Step.{Outcome, planned, refused, is_target}

-- the parts of the plan, each with the target that is asked for; or the refusal, whatever the parts
-- would answer
abbrev pub IsPlanned : Specification → Asked → Planned → Type 0
IsPlanned t a (plan.Refused code) =
    (s : State) (outcome : List Chosen → Outcome)
    → planned s a.target (plan_of t a.wanted a.hint) outcome ≡ refused s code 0
IsPlanned t a (plan.Parts parts target) =
    (target ≡ a.target) × (is_target a.target ≡ true)
    × (plan_of t a.wanted a.hint ≡ Some (map chosen_of parts))
