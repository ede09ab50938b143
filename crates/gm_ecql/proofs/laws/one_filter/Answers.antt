use Rattle.gm_ecql.proofs.OneMeaning.{one_tree, spelled_tree_suits}
use Rattle.gm_ecql.proofs.laws.one_filter.Goals as goal

pub returns-clause-one : goal.returns-clause-one
returns-clause-one c = λ s text t u a b. one_tree s text t u a b

pub returns-clause-suits : goal.returns-clause-suits
returns-clause-suits c = λ s text t a. spelled_tree_suits s text t a
