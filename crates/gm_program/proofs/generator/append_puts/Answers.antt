use Rattle.std.proofs.Common.{◌+◌, ◌-◌, ◌++◌, ◌∙◌, ap}
use Rattle.std.specs.String.{string_bytes}
use Rattle.gm_program.specs.Generator.{put_lines}
use Rattle.gm_program.proofs.Joins.{put_next}
use Rattle.gm_program.proofs.generator.append_puts.Goals as goal

pub puts-preserved : goal.puts-preserved
puts-preserved c =
    let is = put_next (string_bytes c.puts.script) (string_bytes c.append_put.new.script)
    c.args.count c.puts.feature_place c.puts.state
    (string_bytes c.args.script.now ++ put_lines c.args.count 1 c.args.seed) c.puts-test.true
    c.puts.invariant c.in_ok-append_put.ensures.script
    in ap (λ s. string_bytes c.append_put.new.script
    ++ put_lines (c.args.count - (c.puts.feature_place + 1)) (c.puts.feature_place + 1 + 1) s)
    c.in_ok-append_put.ensures.state ∙ is
