use Rattle.std.proofs.Common.{rules, tests}
use Rattle.std.proofs.lemmas.Iterator.{YieldsList-from_slice}
use Rattle.std.proofs.lemmas.Iterator.Search.{any_from_yields_List}
use Rattle.gm_filter.specs.declared.filter.Op.TheVariants.{Eq}
use Rattle.gm_filter.specs.Comparison.{compares}
use Rattle.gm_filter.proofs.stored_comparison.is_stored_one_of.Goals as goal

pub returns : goal.returns
returns c = λ v says. any_from_yields_List (compares Eq v) _ _ _ c.any.ensures.ran
    (YieldsList-from_slice c.args.literals.now cc) (λ x b q k. search (rules, tests))
