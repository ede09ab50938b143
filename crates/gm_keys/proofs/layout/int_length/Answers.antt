use Rattle.std.proofs.Common.{ap, sym, ◌∙◌, ◌++◌, Some, length}
use Rattle.gm_lexi.specs.Lexicode.{int_bytes}
use Rattle.gm_keys.proofs.Layouts.{length-int, form_at, second_is}
use Rattle.gm_keys.proofs.layout.int_length.Goals as goal

pub returns-clause-found : goal.returns-clause-found
returns-clause-found c =
    let told = c.in_ok-length.ensures in
    let number = c.in_ok-length.field-0-0 in
    let at = form_at (int_bytes number) c.args.bytes.now c.in_ok-length.length
    (length-int number ∙ sym told.found.1) told.found.2 in
    (at.0, (number, told.found.0, at.1))

pub returns-clause-only : goal.returns-clause-only
returns-clause-only c = λ form rest is same.
    let told = c.in_ok-length.ensures in
    let read = told.only is.0 rest is.1 (same ∙ ap (λ x. x ++ rest) is.2) in
    ap Some
    (second_is c.in_ok-length.field-0-0 is.0 c.in_ok-length.length 4 read ∙ sym (length-int is.0)
    ∙ ap length (sym is.2))
