use Rattle.gm_bounds.proofs.IdBounds.{found_in_ids}
use Rattle.gm_bounds.proofs.laws.identifiers_are_listed.Goals as goal

pub returns : goal.returns
returns c = λ s t f suit fits e. found_in_ids s f fits.identifier t suit e
