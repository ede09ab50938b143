use Rattle.std.proofs.Common.{◌≡◌, ◌≤◌, ◌++◌, ◌∙◌, List, ap, length, map, rules, take}
use Rattle.std.proofs.lemmas.List.{take_all}
use Rattle.gm_table.specs.Batch.{are_distinct}
use Rattle.gm_table.specs.Row.{key_of as key_of_row}
use Rattle.gm_engine_rows.specs.declared.exchange.Exchange.{Exchange}
use Rattle.gm_engine_rows.specs.Exchange.{puts_of_all, removes_of_all}
use Rattle.gm_engine_rows.proofs.Exchanges.{all_distinct}
use Rattle.gm_engine_rows.proofs.exchange.batch_of_all.Goals as goal

pub returns-clause-distinct : goal.returns-clause-distinct
returns-clause-distinct c =
    let t = c.args.of.now in
    let exchanges : List Exchange = c.args.exchanges.now in
    let end : length exchanges ≤ c.exchanges.exchange-index = search rules in
    let whole : take c.exchanges.exchange-index exchanges ≡ exchanges =
    take_all c.exchanges.exchange-index exchanges end in
    let removes : c.from_vec.result ≡ removes_of_all t exchanges =
    c.from_vec.ensures ∙ c.exchanges.invariant.0 ∙ ap (removes_of_all t) whole in
    let puts : c.from_vec-2.result ≡ puts_of_all t exchanges =
    c.from_vec-2.ensures ∙ c.exchanges.invariant.1 ∙ ap (puts_of_all t) whole in
    (λ i. are_distinct (removes i ++ map key_of_row (puts i)))
    ∙ all_distinct c.keys_tell_features_apart.ensures t exchanges
    c.types_hold_together.ensures.typed c.requires.fit c.requires.apart
