use Rattle.gm_filter.proofs.Truths.{all_members, any_member}
use Rattle.gm_filter.proofs.laws.members_decide.Goals as goal

pub returns-clause-and : goal.returns-clause-and
returns-clause-and c = all_members

pub returns-clause-or : goal.returns-clause-or
returns-clause-or c = any_member
