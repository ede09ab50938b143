use Rattle.gm_ecql.proofs.Lists.{one_list}
use Rattle.gm_ecql.proofs.Utf8.{spelled_is_utf8}
use Rattle.gm_ecql.proofs.laws.one_list.Goals as goal

pub returns-clause-one : goal.returns-clause-one
returns-clause-one c = λ text ts us s r. one_list text ts us s.spelled r.spelled

pub returns-clause-utf8 : goal.returns-clause-utf8
returns-clause-utf8 c = λ text ts s. spelled_is_utf8 text ts s.spelled
