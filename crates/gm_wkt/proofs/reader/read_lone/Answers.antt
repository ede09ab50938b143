use Rattle.gm_wkt.proofs.Wholes.{lone_none, lone_same, lone_whole, not_empty, is_nil}
use Rattle.std.proofs.Common.{sym, ◌∙◌}
use Rattle.gm_wkt.proofs.reader.read_lone.Goals as goal

pub returns-in-None-clause-only : goal.returns-in-None-clause-only
returns-in-None-clause-only c = λ x s. lone_none c.args.text.now x c.in-None.ensures s

pub returns-then-not-is_empty-clause-only : goal.returns-then-not-is_empty-clause-only
returns-then-not-is_empty-clause-only c =
    λ x s. not_empty c.in-Some.rest.now c.if-not-is_empty.ensures
    (lone_same c.args.text.now c.in-Some.rest.now c.in-Some.point x c.in-Some.ensures s).1

pub returns-else-not-is_empty-clause-found : goal.returns-else-not-is_empty-clause-found
returns-else-not-is_empty-clause-found c =
    lone_whole c.args.text.now c.in-Some.rest.now c.in-Some.point c.in-Some.ensures
    (is_nil c.in-Some.rest.now (sym c.is_empty.ensures ∙ c.if-not-is_empty.false))

pub returns-else-not-is_empty-clause-only : goal.returns-else-not-is_empty-clause-only
returns-else-not-is_empty-clause-only c =
    λ x s. (lone_same c.args.text.now c.in-Some.rest.now c.in-Some.point x c.in-Some.ensures s).0
