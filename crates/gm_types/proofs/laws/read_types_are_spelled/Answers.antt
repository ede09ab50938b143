use Rattle.gm_types.proofs.Outlined.{read_valid}
use Rattle.gm_types.proofs.ReadSpelled.{read_is_spelled}
use Rattle.gm_types.proofs.laws.read_types_are_spelled.Goals as goal

pub returns-clause-spells : goal.returns-clause-spells
returns-clause-spells c = read_is_spelled

pub returns-clause-named : goal.returns-clause-named
returns-clause-named c = λ name number text t e. let read = read_valid name number text t e in
    (read.name_is, read.number_is)
