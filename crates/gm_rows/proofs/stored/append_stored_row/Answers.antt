use Rattle.std.proofs.Common.{◌≡◌, ◌++◌, ℕ, List, map, ap, subst, sym, ◌∙◌, append_assoc}
use Rattle.std.specs.Str.{IsUtf8}
use Rattle.std.specs.String.{string_bytes}
use Rattle.std.proofs.lemmas.Result.{on_ok_weaker}
use Rattle.gm_rows.specs.Printer.{printed, field_of, further}
use Rattle.gm_rows.proofs.stored.append_stored_row.Goals as goal

pub returns-clause-text : goal.returns-clause-text
returns-clause-text c = λ f is.
    let row = string_bytes c.args.into.now in
    let id = c.id.ensures f is in
    let utf8 = subst IsUtf8 (sym id)
    (c.stored_texts_are_utf8.ensures.identifier c.args.stored.now f is) in
    let first : string_bytes c.append_text.new.row ≡ row ++ printed f.id =
    c.in_ok-append_text.ensures.text utf8 ∙ ap (λ (t : List ℕ). row ++ printed t) id in
    let rest = further (map field_of f.values) in
    on_ok_weaker c.append_stored_values.result
    (λ e. e ∙ ap (λ (t : List ℕ). t ++ rest) first ∙ append_assoc row (printed f.id) rest)
    (c.append_stored_values.ensures.text f is)
