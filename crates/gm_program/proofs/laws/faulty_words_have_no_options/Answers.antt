use Rattle.std.proofs.Common.{refl}
use Rattle.clap.proofs.OnLiterals.{clap_on_literals}
use Rattle.gm_program.proofs.laws.faulty_words_have_no_options.Goals as goal

pub returns-clause-none : goal.returns-clause-none
unfolding clap_on_literals
returns-clause-none c = refl

pub returns-clause-many : goal.returns-clause-many
unfolding clap_on_literals
returns-clause-many c = refl

pub returns-clause-great : goal.returns-clause-great
unfolding clap_on_literals
returns-clause-great c = refl

pub returns-clause-padded : goal.returns-clause-padded
unfolding clap_on_literals
returns-clause-padded c = refl

pub returns-clause-sign : goal.returns-clause-sign
unfolding clap_on_literals
returns-clause-sign c = refl

pub returns-clause-half : goal.returns-clause-half
unfolding clap_on_literals
returns-clause-half c = refl

pub returns-clause-colons : goal.returns-clause-colons
unfolding clap_on_literals
returns-clause-colons c = refl

pub returns-clause-twice : goal.returns-clause-twice
unfolding clap_on_literals
returns-clause-twice c = refl

pub returns-clause-alone : goal.returns-clause-alone
unfolding clap_on_literals
returns-clause-alone c = refl

pub returns-clause-short : goal.returns-clause-short
unfolding clap_on_literals
returns-clause-short c = refl

pub returns-clause-folder : goal.returns-clause-folder
unfolding clap_on_literals
returns-clause-folder c = refl

pub returns-clause-threads : goal.returns-clause-threads
unfolding clap_on_literals
returns-clause-threads c = refl

pub returns-clause-help : goal.returns-clause-help
unfolding clap_on_literals
returns-clause-help c = refl

pub returns-clause-version : goal.returns-clause-version
unfolding clap_on_literals
returns-clause-version c = refl

pub returns-clause-word : goal.returns-clause-word
unfolding clap_on_literals
returns-clause-word c = refl

pub returns-clause-empty : goal.returns-clause-empty
unfolding clap_on_literals
returns-clause-empty c = refl
