use Rattle.std.proofs.Common.{arith, ◌^◌, ◌<◌}
use Rattle.std.specs.String.{string_bytes}
use Rattle.gm_base.proofs.Options.{on_ok}
use Rattle.gm_geom.proofs.Pieces.{last_digit, only_digit}
use Rattle.gm_geom.proofs.printer.+append_whole.Goals as goal

pub returns-then-whole-lt10-clause-text : goal.returns-then-whole-lt10-clause-text
returns-then-whole-lt10-clause-text t c =
    on_ok c.append_digit.result _ _
    (only_digit (string_bytes c.args.out.now) (string_bytes c.append_digit.new.out) c.args.whole
    c.if-whole-lt10.true) c.append_digit.ensures.text

pub returns-clause-text : goal.returns-clause-text
returns-clause-text t c =
    let wide : c.args.whole < 2 ^ 64 = omega (arith, c.ranges.whole) in
    on_ok c.append_digit-2.result _ _
    (last_digit (string_bytes c.args.out.now) (string_bytes c.append_whole.new.out)
    (string_bytes c.append_digit-2.new.out) c.args.whole c.if-whole-lt10.false wide
    c.in_ok-append_whole.ensures.text)
    c.append_digit-2.ensures.text
