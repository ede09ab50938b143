use Rattle.std.proofs.Common.{sym, ◌∙◌, ap}
use Rattle.gm_ecql.proofs.OneMeaning.{one_change}
use Rattle.gm_ecql.proofs.laws.one_change.Goals as goal

pub returns-clause-place : goal.returns-clause-place
returns-clause-place c =
    λ s text a b v w t u x y. x.place_means ∙ ap (λ j. j.place) (one_change s text a b v w t u x y)
    ∙ sym y.place_means

pub returns-clause-value : goal.returns-clause-value
returns-clause-value c =
    λ s text a b v w t u x y. x.value_means ∙ ap (λ j. j.holds) (one_change s text a b v w t u x y)
    ∙ sym y.value_means

pub returns-clause-filter : goal.returns-clause-filter
returns-clause-filter c =
    λ s text a b v w t u x y. x.filter_means
    ∙ ap (λ j. j.meaning) (one_change s text a b v w t u x y) ∙ sym y.filter_means
