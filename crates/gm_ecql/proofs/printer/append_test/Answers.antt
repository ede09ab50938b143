use Rattle.std.proofs.Common.{◌++◌, ◌∙◌, sym, ap, string_bytes}
use Rattle.gm_filter.specs.Tree.{tree}
use Rattle.gm_ecql.specs.Printer.{test_text}
use Rattle.gm_ecql.proofs.Turns.{tree_intersects}
use Rattle.gm_ecql.proofs.printer.append_test.Goals as goal

pub returns-in_ok-append_related-in-Intersects : goal.returns-in_ok-append_related-in-Intersects
returns-in_ok-append_related-in-Intersects c =
    c.in_ok-append_related-in-Intersects.ensures
    ∙ ap (λ t. string_bytes c.args.out.now ++ test_text c.args.of.now t)
    (sym (ap tree c.in-Intersects.is
    ∙ tree_intersects c.in-Intersects.at c.in-Intersects.geometry))
