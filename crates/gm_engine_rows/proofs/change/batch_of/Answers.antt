use Rattle.std.proofs.Common.{◌≡◌, rules, ap, sym, ◌∙◌}
use Rattle.std.specs.Option.{option_copied}
use Rattle.gm_engine_rows.specs.Change.{keys_at, removes_of, puts_of}
use Rattle.gm_engine_rows.proofs.Distinct.{distinct_as, all_go}
use Rattle.gm_engine_rows.proofs.change.batch_of.Goals as goal

pub returns-in_ok-rows_at-in-Some-clause-distinct : goal.returns-in_ok-rows_at-in-Some-clause-distinct
returns-in_ok-rows_at-in-Some-clause-distinct c =
    let t = c.args.of.now in
    let removes : c.without.result
    ≡ removes_of t (option_copied c.args.old) (option_copied c.args.new) = search rules in
    let puts : c.in_ok-rows_at-in-Some.field-0 ≡ puts_of t (option_copied c.args.new) =
    search rules in
    distinct_as c.keys_tell_features_apart.ensures t (option_copied c.args.old)
    (option_copied c.args.new) c.without.result c.in_ok-rows_at-in-Some.field-0
    c.types_hold_together.ensures.typed c.requires.old c.requires.new removes puts

pub returns-in-None-clause-removes : goal.returns-in-None-clause-removes
returns-in-None-clause-removes c =
    c.in_ok-olds.ensures ∙ sym (all_go (keys_at c.args.of.now (option_copied c.args.old)))
    ∙ ap (λ new. removes_of c.args.of.now (option_copied c.args.old) (option_copied new))
    (sym c.in-None.is)

pub returns-in-None-clause-distinct : goal.returns-in-None-clause-distinct
returns-in-None-clause-distinct c =
    let t = c.args.of.now in
    let removes : c.in_ok-olds.olds
    ≡ removes_of t (option_copied c.args.old) (option_copied c.args.new) =
    c.in_ok-olds.ensures ∙ sym (all_go (keys_at t (option_copied c.args.old)))
    ∙ ap (λ new. removes_of t (option_copied c.args.old) (option_copied new)) (sym c.in-None.is) in
    let puts : c.new.result ≡ puts_of t (option_copied c.args.new) =
    c.new.ensures ∙ ap (λ new. puts_of t (option_copied new)) (sym c.in-None.is) in
    distinct_as c.keys_tell_features_apart.ensures t (option_copied c.args.old)
    (option_copied c.args.new) c.in_ok-olds.olds c.new.result
    c.types_hold_together.ensures.typed c.requires.old c.requires.new removes puts
