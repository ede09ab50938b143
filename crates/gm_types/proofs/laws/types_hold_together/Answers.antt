use Rattle.gm_types.proofs.Together.{holds_together}
use Rattle.gm_types.proofs.laws.types_hold_together.Goals as goal

pub returns-clause-together : goal.returns-clause-together
returns-clause-together c = holds_together _ c.attributes-attributes.ensures.form

pub returns-clause-law : goal.returns-clause-law
returns-clause-law c = holds_together
