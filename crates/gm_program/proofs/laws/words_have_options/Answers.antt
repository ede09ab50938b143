use Rattle.std.proofs.Common.{refl}
use Rattle.clap.proofs.OnLiterals.{clap_on_literals}
use Rattle.gm_program.proofs.laws.words_have_options.Goals as goal

pub returns-clause-nothing : goal.returns-clause-nothing
unfolding clap_on_literals
returns-clause-nothing c = refl

pub returns-clause-generate : goal.returns-clause-generate
unfolding clap_on_literals
returns-clause-generate c = refl

pub returns-clause-equals : goal.returns-clause-equals
unfolding clap_on_literals
returns-clause-equals c = refl

pub returns-clause-greatest : goal.returns-clause-greatest
unfolding clap_on_literals
returns-clause-greatest c = refl

pub returns-clause-dashes : goal.returns-clause-dashes
unfolding clap_on_literals
returns-clause-dashes c = refl
