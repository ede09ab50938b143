use Rattle.std.proofs.Common.{rules, ap, ap₂, true, codes, ◌≡◌, ◌∙◌}
use Rattle.clap.specs.Words.{app_of, rule_of, with_rule, new_app}
use Rattle.clap.specs.Simple.{app_of_fields, on_top}
use Rattle.gm_program.specs.Words.{bare_command, option_rule}
use Rattle.gm_program.proofs.words.command.Goals as goal

pub returns : goal.returns
returns c =
    let generate_is : rule_of c.long-generate.result ≡ option_rule (codes "generate") =
    search rules in
    let new_is : app_of c.new-2.result ≡ new_app (codes "gm") = search rules in
    let bare_is : app_of c.disable_help_flag-bare.result ≡ bare_command =
    ap app_of_fields c.disable_help_flag-bare.ensures
    ∙ ap (on_top (λ s. record s { disable_help_flag = true }))
    (ap app_of_fields c.no_binary_name.ensures
    ∙ ap (on_top (λ s. record s { no_binary_name = true })) new_is) in
    c.in_ok-whole.ensures.shape (search rules) ∙ ap₂ with_rule bare_is generate_is
