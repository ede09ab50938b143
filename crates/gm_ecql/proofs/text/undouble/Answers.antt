use Rattle.std.proofs.Common.{◌∙◌, sym, map-id, string_bytes}
use Rattle.std.proofs.lemmas.Iterator.{YieldsList-from_chars}
use Rattle.std.proofs.lemmas.Iterator.Consumers.{YieldsList-end}
use Rattle.gm_ecql.proofs.Undoubling.{undoubled_chars}
use Rattle.gm_ecql.proofs.text.undouble.Goals as goal

pub returns : goal.returns
returns c =
    let done = YieldsList-end (YieldsList-from_chars c.args.raw.now c.utf8.raw cc)
    c.characters.yielded _ c.characters.yielded_by _ _ c.in-None.is c.next.ensures.steps in
    c.from_string.ensures
    ∙ undoubled_chars c.args.raw.now c.characters.yielded (string_bytes c.characters.text)
    c.characters.behind c.utf8.raw
    (sym (map-id c.characters.yielded) ∙ done.0) c.characters.invariant
