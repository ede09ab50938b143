-- What an order does to a plain map of features.
use Rattle.std.specs.Prelude.{ℕ, Bool, ◌&&◌, nat_le, if◌then◌else◌, List, [], map, length}
use Rattle.std.specs.Prelude.{slice_set, Option, Some, None, is_some}
use Rattle.std.specs.List.{flat_map}
use Rattle.gm_script.specs.Ask.{standard_target}
use Rattle.gm_base.specs.declared.code.Code.{Code}
use Rattle.gm_base.specs.declared.code.Code.TheVariants.{E06, E13, E18, E19}
use Rattle.gm_types.specs.Specification.{Specification}
use Rattle.gm_feature.specs.declared.feature.Feature.{Feature}
use Rattle.gm_feature.specs.declared.value.Value.{Value}
use Rattle.gm_filter.specs.Tree.{Tree}
use Rattle.gm_engine_rows.specs.declared.exchange.Exchange.{Exchange}
use Rattle.gm_engine_rows.specs.Exchange.{exchanged_in}
use Rattle.gm_engine_rows.specs.State.{State, type_at, feature_at, changed_in, with_type}
use Rattle.gm_engine_rows.specs.Rows.{rows_of}
use Rattle.gm_script.specs.Description.{description_of}
use Rattle.gm_script.specs.Order.{Order, Asked, asked, nothing, create, put, delete, remove, modify}
use Rattle.gm_script.specs.Order.{query, count, explain, describe}
use Rattle.gm_script.specs.Reply.{row_line}
use Rattle.gm_script.specs.declared.reply.Reply.{Reply}
use Rattle.gm_script.specs.declared.reply.Reply.TheVariants as reply
use Rattle.gm_strategy.specs.Choice.{Chosen}
use Rattle.gm_strategy.specs.Strategy.{plan_of}
use Rattle.gm_program.specs.declared.setting.Setting.{Setting}
use Rattle.gm_program.specs.Limits.{has_too_many_rows}
use Rattle.gm_program.specs.Question.{answer, rows_examined, plan_lines}

-- the state after it, the reply if there is one, and how many rows are examined
pub record Outcome : Type 0 where
  pub state : State
  pub reply : Option Reply
  pub examined : ℕ

-- what changes nothing
abbrev pub answered : State → Reply → ℕ → Outcome
answered s said examined_rows = record { state = s; reply = Some said; examined = examined_rows }

-- a refusal changes nothing
abbrev pub refused : State → Code → ℕ → Outcome
refused s code examined_rows = answered s (reply.Refusal code None) examined_rows

-- a change, unless there would be too many rows after it
abbrev pub changed : State → State → Reply → ℕ → Outcome
changed s next said examined_rows =
    if has_too_many_rows next then refused s E19 examined_rows
    else record { state = next; reply = Some said; examined = examined_rows }

-- the row of a feature that is looked up
abbrev pub row_of_one : Option Feature → ℕ
row_of_one held = if is_some held then 1 else 0

-- a further type
abbrev pub create_step : Specification → State → Outcome
create_step t s =
    record { state = with_type t s; reply = Some (reply.Created t.name); examined = 0 }

-- the identifier is bound to the feature
abbrev pub put_step : ℕ → Feature → State → Outcome
put_step n feature s =
    let held = feature_at n feature.id s in
    changed s (changed_in n feature.id (Some feature) s) (reply.Stored feature.id (is_some held))
    (row_of_one held)

-- the identifier is unbound
abbrev pub delete_step : ℕ → List ℕ → State → Outcome
delete_step n id s =
    if is_some (feature_at n id s)
    then record { state = changed_in n id None s; reply = Some (reply.Deleted id); examined = 1 }
    else refused s E13 0

-- what the type is
abbrev pub description : Option Specification → List (List ℕ)
description None = []
description (Some t) = description_of t

abbrev pub describe_step : ℕ → State → Outcome
describe_step n s = answered s (reply.Described (description (type_at n s))) 0

abbrev pub most_target : ℕ
most_target = 10000

-- a target is from 1 to 10,000
abbrev pub is_target : ℕ → Bool
is_target target = nat_le 1 target && nat_le target most_target

-- what the parts of a plan answer, where there is a plan and the target is one
abbrev pub planned : State → ℕ → Option (List Chosen) → (List Chosen → Outcome) → Outcome
planned s target None outcome = refused s E18 0
planned s target (Some parts) outcome = if is_target target then outcome parts else refused s E19 0

-- a question of a type
abbrev pub asked_of : Option Specification → Asked → State
    → (Specification → List Chosen → Outcome) → Outcome
asked_of None a s outcome = refused s E06 0
asked_of (Some t) a s outcome = planned s a.target (plan_of t a.wanted a.hint) (outcome t)

-- the features of which the filter is true
abbrev pub found : Asked → State → Specification → List Chosen → Outcome
found a s t parts =
    let examined_rows = rows_examined t a.target (rows_of s) parts in
    let features = answer a.number a.wanted s in
    answered s (reply.Found (flat_map row_line features) (length features) examined_rows)
    examined_rows

abbrev pub query_step : Asked → State → Outcome
query_step a s = asked_of (type_at a.number s) a s (found a s)

-- how many they are
abbrev pub counted : Asked → State → Specification → List Chosen → Outcome
counted a s t parts =
    let examined_rows = rows_examined t a.target (rows_of s) parts in
    answered s (reply.Counted (length (answer a.number a.wanted s)) examined_rows) examined_rows

abbrev pub count_step : Asked → State → Outcome
count_step a s = asked_of (type_at a.number s) a s (counted a s)

-- which ranges are read for them
abbrev pub explained : Asked → State → Specification → List Chosen → Outcome
explained a s t parts = answered s (reply.Explained (plan_lines t a.target 1 parts)) 0

abbrev pub explain_step : Asked → State → Outcome
explain_step a s = asked_of (type_at a.number s) a s (explained a s)

-- a question without words
abbrev pub plain : ℕ → Tree → Asked
plain n wanted = asked n None standard_target wanted

-- a feature that goes
abbrev pub gone : Feature → Exchange
gone feature = record { old = feature; new = None }

-- the features of which the filter is true go
abbrev pub removed : Asked → State → Specification → List Chosen → Outcome
removed a s t parts =
    let features = answer a.number a.wanted s in record {
      state = exchanged_in a.number (map gone features) s;
      reply = Some (reply.Removed (length features));
      examined = rows_examined t a.target (rows_of s) parts;
    }

abbrev pub remove_step : ℕ → Tree → State → Outcome
remove_step n wanted s = asked_of (type_at n s) (plain n wanted) s (removed (plain n wanted) s)

-- a feature with another value in that place
abbrev pub with_value : ℕ → Value → Feature → Feature
with_value attribute value feature =
    record feature { values = slice_set feature.values attribute value }

-- a feature that gives its place to that one
abbrev pub given : ℕ → Value → Feature → Exchange
given attribute value feature =
    record { old = feature; new = Some (with_value attribute value feature) }

-- the features of which the filter is true have the value, unless there would be too many rows
abbrev pub modified : ℕ → Value → Asked → State → Specification → List Chosen → Outcome
modified attribute value a s t parts =
    let features = answer a.number a.wanted s in
    changed s (exchanged_in a.number (map (given attribute value) features) s)
    (reply.Modified (length features)) (rows_examined t a.target (rows_of s) parts)

abbrev pub modify_step : ℕ → ℕ → Value → Tree → State → Outcome
modify_step n attribute value wanted s =
    asked_of (type_at n s) (plain n wanted) s (modified attribute value (plain n wanted) s)

-- what the words of a run say to its commands is the setting; no command of this language asks it
abbrev pub step : Setting → State → Order → Outcome
step setting s nothing = record { state = s; reply = None; examined = 0 }
step setting s (create t) = create_step t s
step setting s (put n feature) = put_step n feature s
step setting s (delete n id) = delete_step n id s
step setting s (remove n wanted) = remove_step n wanted s
step setting s (modify n attribute value wanted) = modify_step n attribute value wanted s
step setting s (query a) = query_step a s
step setting s (count a) = count_step a s
step setting s (explain a) = explain_step a s
step setting s (describe n) = describe_step n s
