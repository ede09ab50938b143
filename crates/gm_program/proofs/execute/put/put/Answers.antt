use Rattle.std.proofs.Common.{IfOk, ℕ, subst}
use Rattle.gm_program.specs.Serve.{Executes}
use Rattle.gm_program.specs.Step.{put_step}
use Rattle.gm_program.proofs.Changing.{type_there, read_known}
use Rattle.gm_program.proofs.execute.put.put.Goals as goal

pub returns : goal.returns
returns g c = λ s holds.
    let types = c.args.store.now.types in
    let t = c.index-as_slice-from.result in
    let there = type_there s types c.args.type_number t holds.state holds.same_types
    (read_known types c.as_slice.result.now c.args.type_number c.from.result t c.requires.suits.of
    c.as_slice.ensures.list c.from.ensures c.index-as_slice-from.is c.requires.suits.there) in
    subst (λ (n : ℕ). IfOk c.put_of.result
    (λ reply. Executes (put_step n c.args.feature s) reply types
    (g.B.Sorted.rows c.put_of.new.table) (g.B.Tally.Counter.number c.args.tally.now)
    (g.B.Tally.Counter.number c.put_of.new.tally))) there.1
    (c.put_of.ensures s types holds there.0)
