use Rattle.std.proofs.Common.{◌∙◌, ◌++◌, ◌∷◌, None, map, ap, sym, append_assoc}
use Rattle.std.specs.Prelude.{if◌then◌else◌}
use Rattle.gm_table.specs.Row.{key_of}
use Rattle.gm_table.specs.Batch.{are_distinct, put_at}
use Rattle.gm_table.proofs.Batches.{has_key-append, distinct_middle, map-middle, put_at-other}
use Rattle.gm_table.proofs.Batches.{put_at-there}
use Rattle.gm_table.proofs.laws.applied_as_told.Goals as goal

pub returns-clause-removed : goal.returns-clause-removed
returns-clause-removed c =
    λ key removes puts before there. ap (λ b. if b then None else put_at key puts before) there

pub returns-clause-put : goal.returns-clause-put
returns-clause-put c = λ removes front row back before distinct.
    let apart = distinct_middle (removes ++ map key_of front) row.key (map key_of back)
    (ap are_distinct
    (append_assoc removes (map key_of front) _
    ∙ ap (λ keys. removes ++ keys) (sym (map-middle front row back))) ∙ distinct) in
    ap (λ b. if b then None else put_at row.key (front ++ row ∷ back) before)
    (has_key-append row.key removes (map key_of front) apart.0).0
    ∙ put_at-there front row back before apart.1

pub returns-clause-other : goal.returns-clause-other
returns-clause-other c = λ key removes puts before none.
    let apart = has_key-append key removes (map key_of puts) none in
    ap (λ b. if b then None else put_at key puts before) apart.0
    ∙ put_at-other key puts before apart.1
