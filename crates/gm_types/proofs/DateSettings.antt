-- The default date, found.
use Rattle.std.proofs.Common.{◌≡◌, ℕ, List, Option, Some, None, sym, ◌∙◌, ap}
use Rattle.std.specs.Prelude.{codes, option_and_then, position}
use Rattle.gm_types.specs.Dates.{IsDateNamed, IsDateSetting}
use Rattle.gm_types.specs.FeatureType.{is_met, is_date_name, is_date_kind}
use Rattle.gm_types.specs.Specification.{Specification, default_date_of, date_named, kind_at}
use Rattle.gm_types.specs.Specification.{place_of_name, setting_of}
use Rattle.gm_types.specs.Words.{same_text}

pub date_standard : (t : Specification) (first : Option ℕ)
    → None ≡ setting_of t (codes "geomesa.index.dtg")
    → first ≡ date_named t None → IsDateSetting t (Some first)
unfolding default_date_of
date_standard t first none is =
    (ap (is_met (is_date_name t)) (sym none), is ∙ ap (date_named t) none)

pub date_given : (t : Specification) (name : List ℕ) (place : ℕ)
    → Some name ≡ setting_of t (codes "geomesa.index.dtg")
    → IsDateNamed t name (Some place) → IsDateSetting t (Some (Some place))
unfolding default_date_of
date_given t name place given named =
    (ap (is_met (is_date_name t)) (sym given) ∙ named.0, named.1 ∙ ap (date_named t) given)

pub date_unknown : (t : Specification) (name : List ℕ)
    → Some name ≡ setting_of t (codes "geomesa.index.dtg")
    → IsDateNamed t name None → IsDateSetting t None
date_unknown t name given none = ap (is_met (is_date_name t)) (sym given) ∙ none

pub no_date_named : (t : Specification) (name : List ℕ)
    → None ≡ position (λ attribute. same_text attribute.name name) t.attributes
    → IsDateNamed t name None
unfolding place_of_name
no_date_named t name none = ap (λ place. is_date_kind (option_and_then (kind_at t) place))
    (sym none)
