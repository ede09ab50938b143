-- What a run makes of a script, one of the source or one that is made.
use Rattle.std.specs.Prelude.{◌≡◌, ◌<◌, ℕ, false, List, [], ◌++◌, length, Option, Some, None}
use Rattle.std.specs.Prelude.{IsSome, option_map, ⊤}
use Rattle.std.specs.Option.{ForSome}
use Rattle.gm_program.specs.Limits.{script_limit}
use Rattle.gm_base.specs.Counter.{capped_sum}
use Rattle.gm_outside.specs.Failed.{Rose}
use Rattle.gm_table.specs.Sorted.{Rows}
use Rattle.gm_program.specs.declared.options.Made.{Made}
use Rattle.gm_program.specs.declared.options.Options.{Options}
use Rattle.gm_program.specs.declared.setting.Setting.{Setting}
use Rattle.gm_program.specs.Lines.{complete_from}
use Rattle.gm_engine_rows.specs.State.{State}
use Rattle.gm_program.specs.Store.{Types, Holds}
use Rattle.gm_program.specs.Generator.{loading, counting, generated_script}
use Rattle.gm_program.specs.Machine.{machine_at, replies, output, examined, state_after}

-- what the words say to commands: none of them names a folder in this language
abbrev pub setting_of : List (List ℕ) → Setting
setting_of words = record { folder_named = false }

-- from the state s the script was served: the source has nothing left, the bytes written are its
-- output and are flushed, the tally has risen by what it examines, and the store has the types and
-- the rows of the state after it
pub record Finishes (setting : Setting) (s : State) (script : List ℕ) (left : Option (List ℕ))
    (types : Types) (rows : Rows) (tally_before tally_after : ℕ)
    (written_before written_after : Option (List ℕ)) (flushed : ℕ) : Type 0 where
  pub whole : left ≡ Some []
  pub replies : ForSome written_before
      (λ before. (written_after ≡ Some (before ++ output setting s script))
      × (flushed ≡ length (before ++ output setting s script)))
  pub counted : tally_after ≡ capped_sum tally_before (examined setting s script)
  pub store : Holds (state_after setting s script) types rows

-- the bytes written for a made script: its output but for the replies to its create and put lines
abbrev pub made_output : Setting → State → Made → List ℕ
made_output setting s made =
    output setting (state_after setting s (loading made.seed made.count)) counting

-- from the state s a made script was served: its output without the replies to create and put lines
-- is written and flushed, the tally has risen by what the whole script examines, and the store has
-- the types and the rows of the state after it
pub record Loads (setting : Setting) (s : State) (made : Made) (types : Types) (rows : Rows)
    (tally_before tally_after : ℕ) (written_before written_after : Option (List ℕ))
    (flushed : ℕ) : Type 0 where
  pub replies : ForSome written_before
      (λ before. (written_after ≡ Some (before ++ made_output setting s made))
      × (flushed ≡ length (before ++ made_output setting s made)))
  pub counted : tally_after
      ≡ capped_sum tally_before (examined setting s (generated_script made.seed made.count))
  pub store : Holds (state_after setting s (generated_script made.seed made.count)) types rows

-- the source's script was served, where the source tells it, or the made one
abbrev pub Ends : Option Made → Setting → State → Option (List ℕ) → Option (List ℕ) → Types → Rows
    → ℕ → ℕ → Option (List ℕ) → Option (List ℕ) → ℕ → Type 0
Ends None setting s left_before left types rows tally_before tally_after written_before
    written_after flushed =
    ForSome left_before
    (λ script. Finishes setting s script left types rows tally_before tally_after written_before
    written_after flushed)
Ends (Some made) setting s left_before left types rows tally_before tally_after written_before
    written_after flushed =
    Loads setting s made types rows tally_before tally_after written_before written_after flushed

-- all that is to be written: for the source's script, where the source tells it, or for the made
-- one
abbrev pub whole_output : Option Made → Setting → State → Option (List ℕ) → Option (List ℕ)
whole_output None setting s left = option_map (output setting s) left
whole_output (Some made) setting s left = Some (made_output setting s made)

-- nothing of the source is in the way: it has a script below the limit and does not fail, or is not
-- read
abbrev pub CanBeRead : Option Made → Option (List ℕ) → ℕ → ℕ → Type 0
CanBeRead None left faults_before faults_after =
    ((script : List ℕ) × (left ≡ Some script) × (length script < script_limit))
    × (Rose faults_before faults_after → ⊥)
CanBeRead (Some made) left faults_before faults_after = ⊤

-- the words are faulty, or name a made script
abbrev pub NeedNoSource : Option Options → Type 0
NeedNoSource None = ⊤
NeedNoSource (Some options) = IsSome options.generate

-- of the script some bytes were taken, and written are the replies to exactly those commands whose
-- lines, each with its 0x0A, were all among them
abbrev pub RepliesToTaken : Setting → State → List ℕ → Option (List ℕ) → Option (List ℕ)
    → Option (List ℕ) → Type 0
RepliesToTaken setting s script left written_before written =
    (taken : List ℕ) × (rest : List ℕ) × (script ≡ taken ++ rest) × (left ≡ Some rest)
    × ForSome written_before
    (λ before. written ≡ Some (before ++ replies setting (machine_at s) (complete_from [] taken)))
