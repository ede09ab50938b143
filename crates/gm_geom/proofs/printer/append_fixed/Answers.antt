use Rattle.std.proofs.Common.{◌≡◌, ◌++◌, ◌/◌, ◌%◌, rules}
use Rattle.std.specs.Prelude.{unsigned_abs, OnOk}
use Rattle.std.specs.String.{string_bytes}
use Rattle.std.specs.Fmt.{decimal}
use Rattle.std.proofs.lemmas.Result.{on_ok_weaker}
use Rattle.gm_base.proofs.Lists.{before}
use Rattle.gm_geom.specs.Number.{fraction_text, minus_text, degree}
use Rattle.gm_geom.proofs.printer.append_fixed.Goals as goal

pub returns-clause-text : goal.returns-clause-text
returns-clause-text c =
    let minus = minus_text c.args.value in
    let whole = decimal (unsigned_abs c.args.value / degree) in
    let rest = fraction_text (unsigned_abs c.args.value % degree) in
    let first : string_bytes c.append_minus.new.out ≡ string_bytes c.args.out.now ++ minus =
    search rules in
    let second : string_bytes c.append_whole.new.out
    ≡ string_bytes c.append_minus.new.out ++ whole = search rules in
    let third : OnOk c.append_fraction.result
    (string_bytes c.append_fraction.new.out ≡ string_bytes c.append_whole.new.out ++ rest) =
    search rules in
    on_ok_weaker c.append_fraction.result
    (λ last. before (string_bytes c.args.out.now) minus (whole ++ rest)
    (before (string_bytes c.append_minus.new.out) whole rest last second) first)
    third
