-- What is found for a command that acts on the features of a filter.
use Rattle.std.specs.Prelude.{◌≡◌, ℕ, true, List, Some}
use Rattle.gm_base.specs.Counter.{capped_sum}
use Rattle.gm_types.specs.Specification.{Specification}
use Rattle.gm_feature.specs.declared.feature.Feature.{Feature}
use Rattle.gm_engine_rows.specs.Rows.{rows_of}
use Rattle.gm_engine_rows.specs.State.{State}
use Rattle.gm_feature.specs.declared.value.Value.{Value}
use Rattle.gm_ecql.specs.Outcome.{MayHold}
use Rattle.gm_script.specs.Bins.{keeps_bins}
use Rattle.gm_script.specs.Order.{Asked}
use Rattle.gm_strategy.specs.Choice.{Chosen}
use Rattle.gm_strategy.specs.Strategy.{plan_of}
use Rattle.gm_program.specs.declared.execute.matched.Matched.{Matched}
use Rattle.gm_program.specs.declared.execute.matched.Matched.TheVariants as matched
use Rattle.gm_program.specs.Question.{answer, rows_examined}
use Rattle.gm_program.specs.Step.{Outcome, planned, refused, is_target}

-- the attribute in that place may take the value
pub record MayTake (t : Specification) (attribute : ℕ) (value : Value) : Type 0 where
  pub holds : MayHold t attribute value
  pub dated : keeps_bins t attribute value ≡ true

-- the answer, read by the parts of the plan
pub record IsAnswer (s : State) (t : Specification) (a : Asked) (features : List Feature)
    (examined before after : ℕ) : Type 0 where
  pub parts : List Chosen
  pub plan : plan_of t a.wanted a.hint ≡ Some parts
  pub target : is_target a.target ≡ true
  pub features_are : features ≡ answer a.number a.wanted s
  pub read : examined ≡ rows_examined t a.target (rows_of s) parts
  pub tally : after ≡ capped_sum before examined

-- the answer; or the refusal, whatever the parts would answer
abbrev pub IsMatched : State → Specification → Asked → ℕ → ℕ → Matched → Type 0
IsMatched s t a before after (matched.Refused code) =
    ((outcome : List Chosen → Outcome)
    → planned s a.target (plan_of t a.wanted a.hint) outcome ≡ refused s code 0)
    × (after ≡ before)
IsMatched s t a before after (matched.Features features examined) =
    IsAnswer s t a features examined before after
