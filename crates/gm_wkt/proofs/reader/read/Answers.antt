use Rattle.std.proofs.Common.{subst, Err}
use Rattle.gm_wkt.specs.declared.fault.WktFault.TheVariants as fault
use Rattle.gm_geom.specs.declared.geometry.Geometry.{Geometry}
use Rattle.gm_wkt.specs.Answer.{IsReadAs}
use Rattle.gm_wkt.specs.Reader.{OnlyMemory}
use Rattle.gm_wkt.proofs.Values.{value_from}
use Rattle.gm_wkt.proofs.Wholes.{answer_from}
use Rattle.gm_wkt.proofs.reader.read.Goals as goal

pub returns-in-Err-Syntax-clause-answer : goal.returns-in-Err-Syntax-clause-answer
returns-in-Err-Syntax-clause-answer c =
    λ g s. subst (λ f. OnlyMemory f) c.in-Err-Syntax.field-0-is (c.in-Err-Syntax.ensures.only g s)

pub returns-in-Err-Syntax-clause-only : goal.returns-in-Err-Syntax-clause-only
returns-in-Err-Syntax-clause-only c =
    λ g s. subst (λ f. OnlyMemory f) c.in-Err-Syntax.field-0-is (c.in-Err-Syntax.ensures.only g s)

pub returns-in-Ok-clause-answer : goal.returns-in-Ok-clause-answer
returns-in-Ok-clause-answer c =
    answer_from c.args.text.now c.in-Ok.geometry c.kept.result c.in-Ok.ensures.found c.kept.ensures

pub returns-in-Ok-clause-only : goal.returns-in-Ok-clause-only
returns-in-Ok-clause-only c = λ g s.
    let P : Geometry → Type 0 = λ k. IsReadAs k c.kept.result in
    subst P (c.in-Ok.ensures.only g s) c.kept.ensures

pub returns-in-Err-Syntax-clause-value : goal.returns-in-Err-Syntax-clause-value
returns-in-Err-Syntax-clause-value c =
    value_from c.args.text.now (Err fault.Syntax) (returns-in-Err-Syntax-clause-answer c)

pub returns-in-Ok-clause-value : goal.returns-in-Ok-clause-value
returns-in-Ok-clause-value c =
    value_from c.args.text.now c.kept.result (returns-in-Ok-clause-answer c)
