use Rattle.std.proofs.Common.{◌≡◌, ap, ◌∙◌}
use Rattle.gm_filter.specs.Tree.{tree}
use Rattle.gm_table.specs.Spans.{rows_in}
use Rattle.gm_scan.specs.Trial.{type_of, filter_of}
use Rattle.gm_scan.proofs.Visits.{admitted, found_all}
use Rattle.gm_scan.proofs.scan.scan_one.Goals as goal

pub read-requires-clause-admits : goal.read-requires-clause-admits
read-requires-clause-admits g c κs within =
    let t = type_of c.new-found.result.trial.now in
    let typed : t ≡ c.args.of.now =
    ap type_of c.new-found.ensures.same ∙ c.in_ok-trial.ensures.of_type in
    admitted (rows_in c.args.ranges.now (g.S.Sorted.rows c.args.table.now)) c.args.of.now t typed
    c.requires.features

pub returns-clause-found : goal.returns-clause-found
returns-clause-found g c = λ held hold.
    let typed : type_of c.new-found.result.trial.now ≡ c.args.of.now =
    ap type_of c.new-found.ensures.same ∙ c.in_ok-trial.ensures.of_type in
    let filtered : filter_of c.new-found.result.trial.now ≡ tree c.args.filter.now =
    ap filter_of c.new-found.ensures.same ∙ c.in_ok-trial.ensures.of_filter in
    c.into_features.ensures
    ∙ found_all (rows_in c.args.ranges.now (g.S.Sorted.rows c.args.table.now)) held
    c.new-found.result c.read.new.visit c.args.of.now (tree c.args.filter.now)
    typed filtered c.new-found.ensures.none hold c.in_ok-read.ensures.handed
