use Rattle.gm_calendar.proofs.RoundTrip.{round_trip}
use Rattle.gm_calendar.proofs.PrintedForm.{begins_with_date}
use Rattle.gm_calendar.specs.Spelling.{instant_text}
use Rattle.gm_calendar.proofs.Spelled.{printed_is_spelled, spelled_bytes}
use Rattle.gm_calendar.proofs.printer.printed_instants_are_read.Goals as goal

pub returns-clause-reads_back : goal.returns-clause-reads_back
returns-clause-reads_back c = round_trip

pub returns-clause-date : goal.returns-clause-date
returns-clause-date c = begins_with_date

pub returns-clause-bytes : goal.returns-clause-bytes
returns-clause-bytes c = λ at h. spelled_bytes (instant_text at) at (printed_is_spelled at h)

pub returns-clause-spelled : goal.returns-clause-spelled
returns-clause-spelled c = printed_is_spelled
