use Rattle.gm_keys.proofs.Layouts.{identifier_is, no_identifier}
use Rattle.gm_keys.proofs.layout.is_identifier.Goals as goal

pub returns-in-Ok : goal.returns-in-Ok
returns-in-Ok c = let told = c.in-Ok.ensures in
    identifier_is c.args.bytes.now c.has_identifier_form.result told.cases.1
    c.has_identifier_form.ensures

pub returns-in-Err : goal.returns-in-Err
returns-in-Err c = let told = c.in-Err.ensures in no_identifier c.args.bytes.now told.cases.0
