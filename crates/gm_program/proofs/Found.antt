-- The value that clap finds, and the options that it gives.
use Rattle.std.proofs.Common.{◌≡◌, ◌∙◌, false, List, Option, codes, refl, ap}
use Rattle.clap.specs.Words.{Text, first_of, first_value, matches_of, rows_of}
use Rattle.clap.specs.declared.parser.matches.Found.{Found}
use Rattle.clap.proofs.WalkLemmas.{first_value-rows}
use Rattle.gm_program.specs.Words.{generate_value, gm_command, has_fault, options_from, options_of}
use Rattle.gm_program.specs.Words.{value_of}

pub value_is : (f : Found) (words : List Text) (name : Text) (o : Option Text)
    → rows_of f ≡ matches_of gm_command words
    → o ≡ first_value f name → o ≡ value_of name words
value_is f words name o rows found = found ∙ first_value-rows f name ∙ ap (first_of name) rows

pub options_are : (words : List Text) (generate : Option Text) → has_fault words ≡ false
    → generate ≡ value_of (codes "generate") words
    → options_from (generate_value generate) ≡ options_of words
options_are words generate fine g = rw (g, fine) refl
