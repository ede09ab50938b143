use Rattle.std.proofs.Common.{arith}
use Rattle.gm_runs.proofs.Inserted.{inserted_runs, inserted_into, inserted_out}
use Rattle.gm_runs.proofs.runs.Runs.insert.Goals as goal

pub invariant_of-self-2 : goal.invariant_of-self-2
invariant_of-self-2 c =
    rw c.in_ok-insert.ensures.ok
    (inserted_runs 0 c.args.low c.args.high _ c.self.invariant (omega arith) c.requires)

pub returns-clause-ok : goal.returns-clause-ok
returns-clause-ok c = λ n. rw (c.in_ok-insert.ensures.ok, ← c.self.view_is) (
  inserted_out 0 c.args.low c.args.high c.self.inside.items.items n c.self.invariant c.requires,
  inserted_into 0 c.args.low c.args.high c.self.inside.items.items n
      c.self.invariant c.requires,
)

pub returns-clause-runs : goal.returns-clause-runs
returns-clause-runs c =
    rw c.in_ok-insert.ensures.ok
    (inserted_runs 0 c.args.low c.args.high _ c.self.invariant (omega arith) c.requires)
