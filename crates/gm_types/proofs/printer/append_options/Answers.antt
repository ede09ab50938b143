use Rattle.std.proofs.Common.{◌∷◌, take}
use Rattle.std.specs.String.{string_bytes}
use Rattle.gm_types.specs.Spelling.{pair_text, options_text}
use Rattle.gm_types.proofs.Printed.{one_more, options_push}
use Rattle.gm_types.proofs.printer.append_options.Goals as goal

pub loop-option-preserved : goal.loop-option-preserved
loop-option-preserved c =
    one_more options_text c.args.options.now c.loop-option.option-index c.option-item.result
    (string_bytes c.args.out.now) (string_bytes c.loop-option.out)
    (string_bytes c.append_option.new.out) (58 ∷ pair_text c.option-item.result)
    c.loop-option-test.true c.option-item.is
    (options_push (take c.loop-option.option-index c.args.options.now) c.option-item.result)
    c.loop-option.invariant c.in_ok-append_option.ensures
