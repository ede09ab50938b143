-- What the fields of a feature type keep.
use Rattle.gm_types.specs.declared.feature_type.FeatureType.TheInside.{Inside}
use Rattle.gm_types.specs.FeatureType.{IsType}
use Rattle.gm_types.specs.Facts.{AreFactsOf}
use Rattle.gm_types.specs.Outline.{outlined}
use Rattle.gm_types.specs.Specification.{Specification}

abbrev pub kept : Inside → Specification
kept t = outlined t.outline

pub record IsKept (t : Inside) : Type 0 where
  pub typed : IsType (kept t)
  pub facts : AreFactsOf (kept t) t.facts
