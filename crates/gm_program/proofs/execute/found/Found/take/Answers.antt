use Rattle.std.proofs.Common.{◌∙◌, sym, ap}
use Rattle.std.specs.Ordering.{nat_cmp}
use Rattle.std.specs.Cmp.Lexicographic.{slice_cmp}
use Rattle.std.specs.BTreeMap.{insert_entry}
use Rattle.gm_program.proofs.Collected.{collected-more}
use Rattle.gm_program.proofs.execute.found.Found.take.Goals as goal

pub features-preserved-in_ok-insert : goal.features-preserved-in_ok-insert
features-preserved-in_ok-insert c =
    let f = c.in-Some.feature in
    c.in_ok-insert.ensures.entries
    ∙ ap (λ es. insert_entry (slice_cmp nat_cmp) es f.id f.values) c.features.invariant
    ∙ sym (collected-more c.args.self.now.values.entries c.features.yielded f)

pub features-preserved : goal.features-preserved
features-preserved c =
    let f = c.in-Some.feature in
    c.in_ok-insert.ensures.entries
    ∙ ap (λ es. insert_entry (slice_cmp nat_cmp) es f.id f.values) c.features.invariant
    ∙ sym (collected-more c.args.self.now.values.entries c.features.yielded f)
