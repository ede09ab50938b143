use Rattle.std.proofs.Common.{◌≡◌, [], arith}
use Rattle.std.proofs.lemmas.Grind.{common_steps}
use Rattle.gm_program.proofs.Cutting.{last_line-some, last_line-none}
use Rattle.gm_program.proofs.Streaming.{serves_none, serves_cut_as, part_cut_as, on_ok, on_err}
use Rattle.gm_program.proofs.script.serve_rest.Goals as goal

pub returns-then-is_empty-clause-ok : goal.returns-then-is_empty-clause-ok
returns-then-is_empty-clause-ok g c = λ start m is kept.
    let none : c.args.held.now ≡ [] = grind (arith, common_steps) in
    rw (last_line-none start c.args.held.now is none)
    (serves_none c.args.setting m _ kept
    ((g.met.B.Tally.Counter g.world.𝓛 g.world.𝓜 g.world.𝓡
    ((λ s x. x), (λ x. x), (λ x. x), λ x. x)).fits c.args.tally.now))

pub returns-clause-ok : goal.returns-clause-ok
returns-clause-ok g c =
    let some : c.args.held.now ≡ [] → ⊥ = λ none. grind (arith, common_steps) in
    on_ok c.serve_line.result c.serve_line.ensures.ok (λ served start m is kept.
    rw (last_line-some start c.args.held.now is some)
    (serves_cut_as c.args.setting m start c.args.held.now _ _ is (served m kept)))

pub returns-clause-err : goal.returns-clause-err
returns-clause-err g c =
    let some : c.args.held.now ≡ [] → ⊥ = λ none. grind (arith, common_steps) in
    on_err c.serve_line.result c.serve_line.ensures.err (λ part start m is kept.
    rw (last_line-some start c.args.held.now is some)
    (part_cut_as c.args.setting m start c.args.held.now _ _ is (part m kept)))
