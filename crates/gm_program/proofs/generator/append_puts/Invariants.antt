use Rattle.std.specs.Prelude.{◌≡◌, ◌+◌, ◌-◌, ◌++◌}
use Rattle.std.specs.String.{string_bytes}
use Rattle.gm_program.specs.Generator.{put_lines}
use Rattle.gm_program.proofs.generator.append_puts.Given as goal

abbrev pub invariant-puts : goal.invariant-puts
invariant-puts l =
    string_bytes l.script ++ put_lines (l.count - l.feature_place) (l.feature_place + 1) l.state
    ≡ string_bytes l.fn.script ++ put_lines l.count 1 l.seed
