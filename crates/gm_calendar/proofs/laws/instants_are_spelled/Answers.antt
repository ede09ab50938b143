use Rattle.gm_calendar.proofs.Spelled.{instant_is_spelled, one_instant, spelled_bytes}
use Rattle.gm_calendar.proofs.Spelled.{spelled_lacks, spelled_length}
use Rattle.gm_calendar.proofs.laws.instants_are_spelled.Goals as goal

pub returns-clause-instant : goal.returns-clause-instant
returns-clause-instant c = instant_is_spelled

pub returns-clause-one : goal.returns-clause-one
returns-clause-one c = one_instant

pub returns-clause-bytes : goal.returns-clause-bytes
returns-clause-bytes c = spelled_bytes

pub returns-clause-long : goal.returns-clause-long
returns-clause-long c = spelled_length

pub returns-clause-lacks : goal.returns-clause-lacks
returns-clause-lacks c = spelled_lacks
