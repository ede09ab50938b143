-- What is tried on rows.
use Rattle.gm_types.specs.Specification.{Specification}
use Rattle.gm_filter.specs.Tree.{Tree}
use Rattle.gm_scan.specs.declared.trial.Trial.{Trial}
use Rattle.gm_scan.specs.Test.{tree_of}

-- the type and the filter of a trial
abbrev pub type_of : Trial → Specification
type_of trial = trial.of.now

abbrev pub filter_of : Trial → Tree
filter_of trial = tree_of trial.test
