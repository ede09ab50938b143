use Rattle.gm_bounds.proofs.InForms.{identifier_small}
use Rattle.gm_bounds.proofs.laws.identifiers_are_bytes.Goals as goal

pub returns : goal.returns
returns c = λ id h. identifier_small id h
