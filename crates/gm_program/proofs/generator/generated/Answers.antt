use Rattle.std.proofs.Common.{rules, ◌≡◌, ◌++◌, ◌∙◌, ap}
use Rattle.std.specs.String.{string_bytes}
use Rattle.gm_program.specs.Generator as spec
use Rattle.gm_program.proofs.generator.generated.Goals as goal

pub returns : goal.returns
unfolding spec.generated_script
returns c =
    let whole : string_bytes c.append_counts.new.script
    ≡ spec.loading c.args.seed c.args.count ++ spec.counting =
    c.in_ok-append_counts.ensures ∙ ap (λ s. s ++ spec.counting) c.in_ok-script.ensures in
    let bytes : c.from_vec.result ≡ string_bytes c.append_counts.new.script = search rules in
    bytes ∙ whole
