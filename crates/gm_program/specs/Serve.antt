-- What serving some lines makes of the store and of the outside.
use Rattle.std.specs.Prelude.{◌≡◌, ◌≢◌, ◌≤◌, ◌<◌, ◌+◌, ℕ, List, [], ◌++◌, Option, Some, length}
use Rattle.std.specs.Prelude.{Result, IsErrOf}
use Rattle.std.specs.Option.{ForSome}
use Rattle.gm_program.specs.Limits.{script_limit}
use Rattle.gm_base.specs.Counter.{capped_sum}
use Rattle.gm_outside.specs.Failed.{Rose}
use Rattle.gm_table.specs.Sorted.{Rows}
use Rattle.gm_program.specs.declared.pending.Pending.{Pending}
use Rattle.gm_script.specs.declared.reply.Reply.{Reply}
use Rattle.gm_program.specs.declared.setting.Setting.{Setting}
use Rattle.gm_program.specs.declared.stop.Stop.{Stop}
use Rattle.gm_program.specs.declared.stop.Stop.TheVariants.{ReadFault, WriteFault, TooLong}
use Rattle.gm_program.specs.Lines.{complete_from, partial_from, cut}
use Rattle.gm_engine_rows.specs.State.{State}
use Rattle.gm_program.specs.Store.{Types, Holds}
use Rattle.gm_program.specs.Step.{Outcome}
use Rattle.gm_program.specs.Machine.{Machine, Turn, said, end_turn, after, machine_at, replies}
use Rattle.gm_program.specs.Machine.{examined_by, output}

-- what a run has between two turns: the types and the rows of its store, what is pending, the
-- number of the tally, and the bytes written, where they are told
pub record Moment : Type 0 where
  pub types : Types
  pub rows : Rows
  pub pending : Pending
  pub tally : ℕ
  pub written : Option (List ℕ)

abbrev pub moment : Types → Rows → Pending → ℕ → Option (List ℕ) → Moment
moment types rows pending tally written =
    record { types = types; rows = rows; pending = pending; tally = tally; written = written }

-- the store and what is pending are those of this machine
pub record Keeps (m : Machine) (types : Types) (rows : Rows) (pending : Pending) : Type 0 where
  pub store : Holds m.state types rows
  pub waits : pending ≡ m.pending

abbrev pub KeptAt : Machine → Moment → Type 0
KeptAt m now = Keeps m now.types now.rows now.pending

-- they are those of some machine
abbrev pub HasMachine : Types → Rows → Pending → Type 0
HasMachine types rows pending = (m : Machine) × Keeps m types rows pending

-- a command was done as its outcome says
pub record Executes (outcome : Outcome) (given : Option Reply) (types : Types) (rows : Rows)
    (tally_before tally_after : ℕ) : Type 0 where
  pub store : Holds outcome.state types rows
  pub reply : given ≡ outcome.reply
  pub tally : tally_after ≡ capped_sum tally_before outcome.examined

-- a turn was taken as it says
pub record Takes (turn : Turn) (given : Option Reply) (types : Types) (rows : Rows)
    (pending : Pending) (tally_before tally_after : ℕ) : Type 0 where
  pub keeps : Keeps turn.machine types rows pending
  pub reply : given ≡ turn.reply
  pub tally : tally_after ≡ capped_sum tally_before turn.examined

-- further bytes were written
abbrev pub Writes : List ℕ → Option (List ℕ) → Option (List ℕ) → Type 0
Writes bytes written_before written_after =
    ForSome written_before (λ before. written_after ≡ Some (before ++ bytes))

-- the first of these bytes were written, some or none or all of them
pub record WritesPart (bytes : List ℕ)
    (written_before written_after : Option (List ℕ)) : Type 0 where
  pub front : List ℕ
  pub rest : List ℕ
  pub parts : bytes ≡ front ++ rest
  pub written : Writes front written_before written_after

-- from one moment to another these bytes were said, so many rows examined, and the store is that of
-- the machine m
pub record Goes (m : Machine) (bytes : List ℕ) (examined_rows : ℕ)
    (before now : Moment) : Type 0 where
  pub keeps : KeptAt m now
  pub tally : now.tally ≡ capped_sum before.tally examined_rows
  pub written : Writes bytes before.written now.written

-- from the machine m these lines were served
abbrev pub Serves : Setting → Machine → List (List ℕ) → Moment → Moment → Type 0
Serves setting m lines before now =
    Goes (after setting m lines) (replies setting m lines) (examined_by setting m lines) before now

-- the replies to these lines, and then what the end says
abbrev pub closing : Setting → Machine → List (List ℕ) → List ℕ
closing setting m lines =
    replies setting m lines ++ said (end_turn setting (after setting m lines)).reply

-- from the machine m these lines were served, and then the end
abbrev pub Closes : Setting → Machine → List (List ℕ) → Moment → Moment → Type 0
Closes setting m lines before now =
    let last = end_turn setting (after setting m lines) in
    Goes last.machine (closing setting m lines)
    (examined_by setting m lines + last.examined) before now

-- some bytes were taken from a source
abbrev pub Took : List ℕ → Option (List ℕ) → Option (List ℕ) → Type 0
Took taken left_before left =
    ForSome left_before (λ script. (rest : List ℕ) × (script ≡ taken ++ rest) × (left ≡ Some rest))

-- n bytes were taken from a source, where so much of a line was before them, and the lines that
-- they end were served
pub record Streams (setting : Setting) (start held : List ℕ) (left_before left : Option (List ℕ))
    (before now : Moment) (n : ℕ) : Type 0 where
  pub taken : List ℕ
  pub count : length taken ≡ n
  pub source : Took taken left_before left
  pub holds : held ≡ cut (partial_from start taken)
  pub serves : (m : Machine) → KeptAt m before
      → Serves setting m (complete_from start taken) before now

-- some bytes were taken from a source, and a part of the replies to the lines that they end was
-- written: after a failed read all of them
pub record Breaks (setting : Setting) (error : Stop) (budget : ℕ) (start : List ℕ)
    (left_before left : Option (List ℕ)) (before : Moment)
    (written : Option (List ℕ)) : Type 0 where
  pub taken : List ℕ
  pub source : Took taken left_before left
  pub part : (m : Machine) → KeptAt m before
      → WritesPart (replies setting m (complete_from start taken)) before.written written
  pub whole : error ≡ ReadFault → (m : Machine) → KeptAt m before
      → Writes (replies setting m (complete_from start taken)) before.written written
  pub at_limit : error ≡ TooLong → length taken ≡ budget
  pub below_limit : error ≢ TooLong → length taken < budget

-- how a run from the state s stopped with this error: what was taken of the script, and that a part
-- of its output was written, after a failed read all replies to the lines that were taken whole
pub record Stopped (setting : Setting) (s : State) (error : Stop) (script : List ℕ)
    (left : Option (List ℕ)) (written_before written : Option (List ℕ)) : Type 0 where
  pub taken : List ℕ
  pub rest : List ℕ
  pub parts : script ≡ taken ++ rest
  pub leaves : left ≡ Some rest
  pub at_limit : error ≡ TooLong → length taken ≡ script_limit
  pub below_limit : error ≢ TooLong → length taken < script_limit
  pub part : WritesPart (output setting s script) written_before written
  pub whole : error ≡ ReadFault
      → Writes (replies setting (machine_at s) (complete_from [] taken)) written_before written

-- the counts of faults did not fall, and a stop for a fault comes only where its count rose
pub record HasCause {T : Type 0} (ended : Result T Stop)
    (source_before source_after sink_before sink_after : ℕ) : Type 0 where
  pub later_source : source_before ≤ source_after
  pub later_sink : sink_before ≤ sink_after
  pub read : IsErrOf ended ReadFault → Rose source_before source_after
  pub write : IsErrOf ended WriteFault → Rose sink_before sink_after
