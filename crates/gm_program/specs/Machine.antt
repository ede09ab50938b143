-- A machine that reads lines, and keeps a plain map of features and what it still waits for.
use Rattle.std.specs.Prelude.{ℕ, ◌+◌, List, [], ◌∷◌, ◌++◌, Result, Ok, Err, Option, Some, None}
use Rattle.gm_engine_rows.specs.State.{State, types_of}
use Rattle.gm_program.specs.declared.pending.Pending.{Pending}
use Rattle.gm_program.specs.declared.pending.Pending.TheVariants.{Nothing}
use Rattle.gm_script.specs.declared.fault.LineFault.{LineFault}
use Rattle.gm_script.specs.declared.fault.LineFault.TheVariants as fault
use Rattle.gm_script.specs.declared.reply.Reply.{Reply}
use Rattle.gm_script.specs.Order.{Order, nothing}
use Rattle.gm_script.specs.Reading.{reading}
use Rattle.gm_script.specs.Reply.{reply_bytes}
use Rattle.gm_program.specs.declared.setting.Setting.{Setting}
use Rattle.gm_program.specs.Step.{Outcome, step, refused}
use Rattle.gm_program.specs.Lines.{lines_of}

pub record Machine : Type 0 where
  pub state : State
  pub pending : Pending

-- what a line, or the end, makes of it: the machine after it, its reply if there is one, and the
-- rows examined
pub record Turn : Type 0 where
  pub machine : Machine
  pub reply : Option Reply
  pub examined : ℕ

abbrev pub turn_of : Outcome → Turn
turn_of outcome =
    record {
      machine = record { state = outcome.state; pending = Nothing };
      reply = outcome.reply;
      examined = outcome.examined;
    }

-- the outcome of a line that was read so
abbrev pub outcome_of : Setting → State → Result Order LineFault → Outcome
outcome_of setting s (Ok order) = step setting s order
outcome_of setting s (Err (fault.Refused code lines)) = refused s code 0
outcome_of setting s (Err fault.NoMemory) = step setting s nothing

-- one line
abbrev pub line_turn : Setting → Machine → List ℕ → Turn
line_turn setting m line = turn_of (outcome_of setting m.state (reading (types_of m.state) line))

-- the end of the script
abbrev pub end_turn : Setting → Machine → Turn
end_turn setting m = record { machine = m; reply = None; examined = 0 }

abbrev pub said : Option Reply → List ℕ
said None = []
said (Some reply) = reply_bytes reply

-- the machine after these lines
abbrev pub after : Setting → Machine → List (List ℕ) → Machine
after setting m [] = m
after setting m (line ∷ lines) = after setting (line_turn setting m line).machine lines

-- the bytes of the replies to these lines
abbrev pub replies : Setting → Machine → List (List ℕ) → List ℕ
replies setting m [] = []
replies setting m (line ∷ lines) =
    said (line_turn setting m line).reply
    ++ replies setting (line_turn setting m line).machine lines

-- how many rows these lines examine
abbrev pub examined_by : Setting → Machine → List (List ℕ) → ℕ
examined_by setting m [] = 0
examined_by setting m (line ∷ lines) =
    (line_turn setting m line).examined
    + examined_by setting (line_turn setting m line).machine lines

-- at the start of a script nothing is waited for
abbrev pub machine_at : State → Machine
machine_at s = record { state = s; pending = Nothing }

-- the machine that has read a script to its last line, and then what the end makes of it
abbrev pub last_turn : Setting → State → List ℕ → Turn
last_turn setting s script = end_turn setting (after setting (machine_at s) (lines_of script))

-- the bytes written for a script, from this state: the replies to its lines, and what its end says
abbrev pub output : Setting → State → List ℕ → List ℕ
output setting s script =
    replies setting (machine_at s) (lines_of script) ++ said (last_turn setting s script).reply

-- how many rows a script examines
abbrev pub examined : Setting → State → List ℕ → ℕ
examined setting s script =
    examined_by setting (machine_at s) (lines_of script) + (last_turn setting s script).examined

-- the state after a script
abbrev pub state_after : Setting → State → List ℕ → State
state_after setting s script = (last_turn setting s script).machine.state
