use Rattle.gm_types.proofs.Canonical.{canonical_spells, canonical_read, canonical_once}
use Rattle.gm_types.proofs.Canonical.{canonical_tells}
use Rattle.gm_types.proofs.laws.canonical_texts_read_back.Goals as goal

pub returns-clause-spells : goal.returns-clause-spells
returns-clause-spells c = λ t typed. canonical_spells t typed.valid

pub returns-clause-read : goal.returns-clause-read
returns-clause-read c = λ t typed. canonical_read t typed.valid

pub returns-clause-once : goal.returns-clause-once
returns-clause-once c = λ t u typed e. canonical_once t u typed.valid e

pub returns-clause-one : goal.returns-clause-one
returns-clause-one c =
    λ t u a b name number text. canonical_tells t u a.valid b.valid name number text
