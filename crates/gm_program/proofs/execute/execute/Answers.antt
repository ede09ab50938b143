use Rattle.std.proofs.Common.{IfOk, sym, subst}
use Rattle.gm_script.specs.declared.command.Command.{Command}
use Rattle.gm_script.specs.Order.{order_of}
use Rattle.gm_program.specs.Refusals.{IsRefusal}
use Rattle.gm_program.specs.Serve.{Executes}
use Rattle.gm_program.specs.Step.{step}
use Rattle.gm_program.proofs.Bound.{if_ok}
use Rattle.gm_program.proofs.execute.execute.Goals as goal

pub returns-in-Create-clause-done : goal.returns-in-Create-clause-done
returns-in-Create-clause-done g c = λ s holds.
    let number = g.B.Tally.Counter.number c.args.tally.now in
    let fits = (g.met.B.Tally.Counter g.world.𝓛 g.world.𝓜 g.world.𝓡
    ((λ s x. x), (λ x. x), (λ x. x), λ x. x)).fits c.args.tally.now in
    subst (λ (done : Command). IfOk c.create.result
    (λ reply. Executes (step c.args._setting s (order_of done)) reply c.create.new.types
    (g.B.Sorted.rows c.args.store.now.table) number number))
    (sym c.in-Create.is)
    (c.create.ensures s (g.B.Sorted.rows c.args.store.now.table) number fits holds)

pub returns-in-Create-clause-refused : goal.returns-in-Create-clause-refused
returns-in-Create-clause-refused g c =
    let s = c.requires.kept.0 in
    let number = g.B.Tally.Counter.number c.args.tally.now in
    let fits = (g.met.B.Tally.Counter g.world.𝓛 g.world.𝓜 g.world.𝓡
    ((λ s x. x), (λ x. x), (λ x. x), λ x. x)).fits c.args.tally.now in
    if_ok c.create.result (λ reply done refused. absurd (subst IsRefusal done.reply refused))
    (c.create.ensures s (g.B.Sorted.rows c.args.store.now.table) number fits c.requires.kept.1)
