use Rattle.gm_keys.proofs.Apart.{laid_out}
use Rattle.gm_keys.proofs.laws.keys_are_laid_out.Goals as goal

pub returns : goal.returns
returns c = laid_out
