use Rattle.std.proofs.Common.{IfOk, ℕ, subst}
use Rattle.gm_program.specs.Serve.{Executes}
use Rattle.gm_program.specs.Step.{delete_step}
use Rattle.gm_program.proofs.Changing.{type_there, read_within}
use Rattle.gm_program.proofs.execute.delete.delete.Goals as goal

pub returns : goal.returns
returns g c = λ s holds.
    let types = c.args.store.now.types in
    let t = c.index-as_slice-from.result in
    let there = type_there s types c.args.type_number t holds.state holds.same_types
    (read_within types c.as_slice.result.now c.args.type_number c.from.result t
    c.as_slice.ensures.list
    c.from.ensures c.index-as_slice-from.is c.requires.suits.there) in
    subst (λ (n : ℕ). IfOk c.delete_of.result
    (λ reply. Executes (delete_step n c.args.id s) reply types
    (g.B.Sorted.rows c.delete_of.new.table) (g.B.Tally.Counter.number c.args.tally.now)
    (g.B.Tally.Counter.number c.delete_of.new.tally))) there.1
    (c.delete_of.ensures s types holds there.0)
