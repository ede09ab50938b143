use Rattle.std.proofs.Common.{◌≡◌, ◌<◌, ◌^◌, ℕ, length, ap, subst, ◌∙◌}
use Rattle.gm_filter.specs.Tree.{tree}
use Rattle.gm_table.specs.Spans.{rows_in}
use Rattle.gm_scan.specs.Trial.{type_of, filter_of}
use Rattle.gm_scan.proofs.Visits.{admitted, counted_all}
use Rattle.gm_scan.proofs.scan.count_one.Goals as goal

pub read-requires-clause-admits : goal.read-requires-clause-admits
read-requires-clause-admits g c κs within =
    let t = type_of c.new-counted.result.trial.now in
    let typed : t ≡ c.args.of.now =
    ap type_of c.new-counted.ensures.same ∙ c.in_ok-trial.ensures.of_type in
    admitted (rows_in c.args.ranges.now (g.S.Sorted.rows c.args.table.now)) c.args.of.now t typed
    c.requires.features

pub returns-clause-matched : goal.returns-clause-matched
returns-clause-matched g c = λ held hold.
    let rows = g.S.Sorted.rows c.args.table.now in
    let typed : type_of c.new-counted.result.trial.now ≡ c.args.of.now =
    ap type_of c.new-counted.ensures.same ∙ c.in_ok-trial.ensures.of_type in
    let filtered : filter_of c.new-counted.result.trial.now ≡ tree c.args.filter.now =
    ap filter_of c.new-counted.ensures.same ∙ c.in_ok-trial.ensures.of_filter in
    let few = c.ranges_apart_have_few_rows.ensures c.args.ranges.now rows c.requires.apart in
    let fits : length rows < 2 ^ 64 =
    subst (λ (k : ℕ). k < 2 ^ 64) c.count-rows.ensures c.count-rows.type_inv in
    c.matched.ensures
    ∙ counted_all (rows_in c.args.ranges.now rows) rows held c.new-counted.result c.read.new.visit
    c.args.of.now (tree c.args.filter.now)
    typed filtered c.new-counted.ensures.none few fits hold c.in_ok-read.ensures.handed
