-- The status of a run.
use Rattle.std.specs.Prelude.{ℕ, Result, Ok, Err, ⊤}
use Rattle.gm_outside.specs.declared.sink.SinkRefusal.{SinkRefusal}
use Rattle.gm_outside.specs.declared.sink.SinkRefusal.TheVariants as refusal
use Rattle.gm_program.specs.declared.stop.Stop.{Stop}
use Rattle.gm_program.specs.declared.stop.Stop.TheVariants as stop
use Rattle.gm_program.specs.declared.status.Status.{Status}
use Rattle.gm_program.specs.declared.status.Status.TheVariants as status

-- the exit status of the program
abbrev pub status_number : Status → ℕ
status_number status.Done = 0
status_number status.NoMemory = 1
status_number status.Usage = 2
status_number status.ReadFault = 3
status_number status.WriteFault = 4
status_number status.FolderFault = 5
status_number status.Damaged = 6
status_number status.TooLong = 7

abbrev pub of_stop : Stop → Status
of_stop stop.NoMemory = status.NoMemory
of_stop stop.ReadFault = status.ReadFault
of_stop stop.WriteFault = status.WriteFault
of_stop stop.TooLong = status.TooLong

-- the stop of a run whose sink refused so
abbrev pub stop_from : SinkRefusal → Stop
stop_from refusal.Failed = stop.WriteFault
stop_from refusal.NoMemory = stop.NoMemory

-- the status of a run whose serving ended so
abbrev pub status_from : Result ⊤ Stop → Status
status_from (Ok _) = status.Done
status_from (Err error) = of_stop error

-- the status of a run whose made script ended so
abbrev pub made_status : Result ⊤ SinkRefusal → Status
made_status (Ok _) = status.Done
made_status (Err refusal) = of_stop (stop_from refusal)
