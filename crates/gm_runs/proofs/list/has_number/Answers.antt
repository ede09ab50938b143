use Rattle.std.proofs.Common.{ltb, arith, rules}
use Rattle.std.proofs.lemmas.Bool.{ltb-true, ltb-false, lt-ltb, le-leb, leb-true}
use Rattle.std.proofs.lemmas.List.Sorted.{IsPartitionPoint-from_clause, IsPartitionedBy-ltb}
use Rattle.gm_runs.proofs.Found.{ends_rise, found_from, has_from}
use Rattle.gm_runs.proofs.list.has_number.Goals as goal

pub returns-then-at-runs : goal.returns-then-at-runs
returns-then-at-runs c =
    let code = c.args.code in
    let parted = IsPartitionedBy-ltb (λ r. r.1) _ code (ends_rise 0 c.args.runs.now c.requires) in
    let point = IsPartitionPoint-from_clause (λ r. ltb r.1 code) _ _
    c.partition_point-at.ensures.partitioned parted (λ a r q k. search rules) in (
      (λ h. has_from c.args.runs.now code c.partition_point-at.result (0, 0) c.if-at-runs.true
          (leb-true _ _ h)
          (ltb-false _ _
          (point.1 c.partition_point-at.result (0, 0) (omega arith) c.if-at-runs.true))),
      (λ has. le-leb _ _
          (found_from 0 c.args.runs.now code c.partition_point-at.result (0, 0) c.requires
          (λ k less. ltb-true _ _ (point.0 k (0, 0) (omega arith) less))
          (λ k from less. ltb-false _ _ (point.1 k (0, 0) from less)) has).1),
    )

pub returns-else-at-runs : goal.returns-else-at-runs
returns-else-at-runs c =
    let code = c.args.code in
    let parted = IsPartitionedBy-ltb (λ r. r.1) _ code (ends_rise 0 c.args.runs.now c.requires) in
    let point = IsPartitionPoint-from_clause (λ r. ltb r.1 code) _ _
    c.partition_point-at.ensures.partitioned parted (λ a r q k. search rules) in (
      (λ h. absurd (omega (arith, c.if-at-runs.false, ltb-true _ _ h))),
      (λ has. lt-ltb _ _
          (found_from 0 c.args.runs.now code c.partition_point-at.result (0, 0) c.requires
          (λ k less. ltb-true _ _ (point.0 k (0, 0) (omega arith) less))
          (λ k from less. ltb-false _ _ (point.1 k (0, 0) from less)) has).0),
    )
