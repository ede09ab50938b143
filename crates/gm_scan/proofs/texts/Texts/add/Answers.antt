use Rattle.gm_scan.proofs.Adding.{text_added}
use Rattle.gm_scan.proofs.texts.Texts.add.Goals as goal

pub returns : goal.returns
returns c = λ other. text_added c.args.text.now other _ _
    (c.in_ok-insert.ensures.updates.0 (record { ref_ptr = c.args.text.ref_ptr; now = other }))
