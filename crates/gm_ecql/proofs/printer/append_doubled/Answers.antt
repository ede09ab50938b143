use Rattle.std.proofs.Common.{◌∙◌, sym, map-id, string_bytes}
use Rattle.std.proofs.lemmas.Iterator.{YieldsList-from_chars}
use Rattle.std.proofs.lemmas.Iterator.Consumers.{YieldsList-end}
use Rattle.gm_ecql.proofs.Doubling.{doubled_chars}
use Rattle.gm_ecql.proofs.printer.append_doubled.Goals as goal

pub returns : goal.returns
returns c =
    let done = YieldsList-end (YieldsList-from_chars c.args.raw.now c.utf8.raw cc)
    c.characters.yielded _ c.characters.yielded_by _ _ c.in-None.is c.next.ensures.steps in
    doubled_chars c.args.raw.now c.characters.yielded (string_bytes c.args.out.now)
    (string_bytes c.characters.out) c.utf8.raw
    (sym (map-id c.characters.yielded) ∙ done.0) c.characters.invariant
