use Rattle.gm_types.specs.Specification.{kinds_of}
use Rattle.gm_feature.proofs.Fitting.{same_count, fits_at, date_fits}
use Rattle.gm_feature.proofs.laws.fitting_features_have_values.Goals as goal

pub returns-clause-count : goal.returns-clause-count
returns-clause-count c = λ t f fit. same_count (kinds_of t) f.values fit.each

pub returns-clause-value : goal.returns-clause-value
returns-clause-value c = λ t f n k fit at. fits_at (kinds_of t) f.values n k fit.each at

pub returns-clause-date : goal.returns-clause-date
returns-clause-date c = date_fits
