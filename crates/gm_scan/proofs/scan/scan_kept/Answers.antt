use Rattle.std.proofs.Common.{◌≡◌, ap, ◌∙◌}
use Rattle.gm_filter.specs.Tree.{tree}
use Rattle.gm_table.specs.Spans.{rows_in}
use Rattle.gm_scan.specs.Trial.{type_of, filter_of}
use Rattle.gm_scan.proofs.Visits.{admitted, kept_all, on_ok}
use Rattle.gm_scan.proofs.scan.scan_kept.Goals as goal

pub read-answer-requires-clause-admits : goal.read-answer-requires-clause-admits
read-answer-requires-clause-admits g c κs within =
    let t = type_of c.behind-kept.result.trial.now in
    let typed : t ≡ c.args.of.now =
    ap type_of c.behind-kept.ensures.same ∙ c.in_ok-trial.ensures.of_type in
    admitted (rows_in c.args.ranges.now (g.S.Sorted.rows c.args.table.now)) c.args.of.now t typed
    c.requires.features

pub returns-clause-found : goal.returns-clause-found
returns-clause-found g c = λ held hold.
    let typed : type_of c.behind-kept.result.trial.now ≡ c.args.of.now =
    ap type_of c.behind-kept.ensures.same ∙ c.in_ok-trial.ensures.of_type in
    let filtered : filter_of c.behind-kept.result.trial.now ≡ tree c.args.filter.now =
    ap filter_of c.behind-kept.ensures.same ∙ c.in_ok-trial.ensures.of_filter in
    on_ok c.read-answer.result (λ handed. c.into_rows.ensures
    ∙ kept_all (rows_in c.args.ranges.now (g.S.Sorted.rows c.args.table.now)) held
    c.behind-kept.result c.read-answer.new.visit c.args.of.now (tree c.args.filter.now)
    c.args.keeping c.args.found.now typed filtered c.behind-kept.ensures.way
    (c.behind-kept.ensures.before ∙ c.replace-before.ensures.value) hold handed)
    c.read-answer.ensures.handed
