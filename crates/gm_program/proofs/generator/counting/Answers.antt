use Rattle.std.proofs.Common.{rules, ◌≡◌, ◌++◌, ◌∙◌, [], ap}
use Rattle.std.specs.String.{string_bytes}
use Rattle.gm_program.specs.Generator as spec
use Rattle.gm_program.proofs.generator.counting.Goals as goal

pub returns : goal.returns
returns c =
    let none : string_bytes c.new-script.result ≡ [] = search rules in
    c.in_ok-append_counts.ensures ∙ ap (λ s. s ++ spec.counting) none
