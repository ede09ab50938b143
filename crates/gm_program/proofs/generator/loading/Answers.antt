use Rattle.std.proofs.Common.{rules, ◌≡◌, ◌++◌, ◌∙◌, [], ap}
use Rattle.std.specs.String.{string_bytes}
use Rattle.gm_program.specs.Generator.{first_line, loading, put_lines}
use Rattle.gm_program.proofs.generator.loading.Goals as goal

pub returns : goal.returns
unfolding loading
returns c =
    let none : string_bytes c.new-script.result ≡ [] = search rules in
    let e1 : string_bytes c.append.new.script ≡ first_line =
    c.in_ok-append.ensures ∙ ap (λ s. s ++ first_line) none in
    c.in_ok-append_puts.ensures ∙ ap (λ s. s ++ put_lines c.args.count 1 c.args.seed) e1
