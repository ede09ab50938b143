use Rattle.std.specs.String.{string_bytes}
use Rattle.gm_types.proofs.Printed.{data_printed, nothing_printed}
use Rattle.gm_types.proofs.printer.append_data_part.Goals as goal

pub returns-then-is_empty : goal.returns-then-is_empty
returns-then-is_empty c =
    nothing_printed (string_bytes c.args.out.now) c.args.list.now c.if-is_empty.ensures

pub returns : goal.returns
returns c = data_printed (string_bytes c.args.out.now) (string_bytes c.push_str.new.self)
    (string_bytes c.append_data.new.out) c.args.list.now
    c.if-is_empty.ensures c.in_ok-push_str.ensures.bytes c.in_ok-append_data.ensures
