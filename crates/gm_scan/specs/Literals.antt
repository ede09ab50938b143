-- Literals by their kinds.
use Rattle.std.specs.Prelude.{Bool, false, if◌then◌else◌}
use Rattle.std.specs.BTreeSet.{contains}
use Rattle.std.specs.Ordering.{int_cmp}
use Rattle.gm_feature.specs.declared.value.Value.{Value}
use Rattle.gm_feature.specs.declared.value.Value.TheVariants as value
use Rattle.gm_scan.specs.declared.literals.SortedLiterals.{SortedLiterals}
use Rattle.gm_scan.specs.Texts.{has_text}

-- whether one of the literals is equal to the value
abbrev pub has_value : SortedLiterals → Value → Bool
has_value literals (value.Text text) = has_text literals.texts text
has_value literals (value.Integer whole) = contains int_cmp literals.numbers whole
has_value literals (value.Long whole) = contains int_cmp literals.numbers whole
has_value literals (value.Boolean truth) = if truth then literals.has_true else literals.has_false
has_value literals (value.Date at) = contains int_cmp literals.dates at
has_value literals _ = false
