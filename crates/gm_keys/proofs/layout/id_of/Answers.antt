use Rattle.std.proofs.Common.{◌≡◌, true, sym, ◌∙◌, ◌++◌}
use Rattle.gm_base.proofs.Options.{same_some, none_some}
use Rattle.gm_types.specs.Index.{has_index}
use Rattle.gm_keys.proofs.Layouts.{id_found}
use Rattle.gm_keys.proofs.layout.id_of.Goals as goal

pub returns-in_err-rest-clause-only : goal.returns-in_err-rest-clause-only
returns-in_err-rest-clause-only c = λ middle id has laid.
    let told = c.in_err-rest.ensures in
    absurd (none_some (middle ++ id) (told.only (middle ++ id) laid.parts))

pub returns-in_err-id-clause-only : goal.returns-in_err-id-clause-only
returns-in_err-id-clause-only c = λ middle id has laid.
    let told = c.in_err-id.ensures in
    let before = c.in_ok-rest.ensures in
    absurd (none_some id
    (told.only middle id laid.middle_is
    (same_some c.in_ok-rest.rest.now (middle ++ id)
    (before.only (middle ++ id) laid.parts))))

pub returns-then-is_identifier-clause-found : goal.returns-then-is_identifier-clause-found
returns-then-is_identifier-clause-found c =
    let before = c.in_ok-rest.ensures in
    let told = c.in_ok-id.ensures in
    let has : has_index c.args.of.now c.args.kind ≡ true =
    sym c.has.ensures.value ∙ c.if-not-has.false in
    id_found c.args.of.now c.args.kind c.args.key.now c.in_ok-rest.rest.now c.in_ok-id.id.now
    told.found.0 has before.found told.found.1 told.found.2
    (sym c.is_identifier.ensures ∙ c.if-is_identifier.true)
