use Rattle.gm_program.proofs.Making.{output_in_parts}
use Rattle.gm_program.proofs.laws.loading_is_left_out.Goals as goal

pub returns : goal.returns
returns c = λ setting s made. output_in_parts setting s made
