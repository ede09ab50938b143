-- The facts that are kept beside a specification, so that asking for one takes no work.
use Rattle.std.specs.Prelude.{◌≡◌, ℕ, true, false, codes, Option, Some, None}
use Rattle.gm_types.specs.declared.facts.Enabled.{Enabled}
use Rattle.gm_types.specs.declared.facts.Facts.{Facts}
use Rattle.gm_types.specs.declared.facts.Sizes.{Sizes}
use Rattle.gm_types.specs.declared.facts.Times.{Times}
use Rattle.gm_types.specs.declared.index.IndexKind.TheVariants.{Z2, Z3, Xz2, Xz3}
use Rattle.gm_types.specs.FeatureType.{has_settings, has_time_settings, has_trees}
use Rattle.gm_types.specs.FeatureType.{has_size_settings, has_widths, is_met, are_index_words}
use Rattle.gm_types.specs.Index.{has_index, lists_word, listed_of}
use Rattle.gm_types.specs.Specification.{Specification, default_date_of, period_of, shards_of}
use Rattle.gm_types.specs.Specification.{precision_of, z2_bits_of, z3_bits_of}

pub record AreTimesOf (t : Specification) (times : Times) : Type 0 where
  pub date : times.date ≡ default_date_of t
  pub period : times.period ≡ period_of t

pub record AreSizesOf (t : Specification) (sizes : Sizes) : Type 0 where
  pub shards : sizes.shards ≡ shards_of t
  pub precision : sizes.precision ≡ precision_of t
  pub z2_bits : sizes.z2_bits ≡ z2_bits_of t
  pub z3_bits : sizes.z3_bits ≡ z3_bits_of t

pub record AreEnabledOf (t : Specification) (enabled : Enabled) : Type 0 where
  pub z2 : enabled.z2 ≡ has_index t Z2
  pub z3 : enabled.z3 ≡ has_index t Z3
  pub xz2 : enabled.xz2 ≡ has_index t Xz2
  pub xz3 : enabled.xz3 ≡ has_index t Xz3
  pub by_attribute : enabled.by_attribute ≡ lists_word t (codes "attr")

pub record AreFactsOf (t : Specification) (facts : Facts) : Type 0 where
  pub times : AreTimesOf t facts.times
  pub sizes : AreSizesOf t facts.sizes
  pub enabled : AreEnabledOf t facts.enabled

-- what is told of a specification, or nothing where a listed key has another value than those
-- listed
abbrev pub TellsTimes : Specification → Option Times → Type 0
TellsTimes t None = has_time_settings t ≡ false
TellsTimes t (Some times) = (has_time_settings t ≡ true) × AreTimesOf t times

abbrev pub TellsWidths : Specification → Option (ℕ × ℕ) → Type 0
TellsWidths t None = has_widths t ≡ false
TellsWidths t (Some widths) =
    (has_widths t ≡ true) × (widths.0 ≡ z2_bits_of t) × (widths.1 ≡ z3_bits_of t)

abbrev pub TellsTrees : Specification → Option (ℕ × ℕ) → Type 0
TellsTrees t None = has_trees t ≡ false
TellsTrees t (Some trees) =
    (has_trees t ≡ true) × (trees.0 ≡ shards_of t) × (trees.1 ≡ precision_of t)

abbrev pub TellsSizes : Specification → Option Sizes → Type 0
TellsSizes t None = has_size_settings t ≡ false
TellsSizes t (Some sizes) = (has_size_settings t ≡ true) × AreSizesOf t sizes

abbrev pub TellsEnabled : Specification → Option Enabled → Type 0
TellsEnabled t None = is_met (are_index_words t) (listed_of t) ≡ false
TellsEnabled t (Some enabled) =
    (is_met (are_index_words t) (listed_of t) ≡ true) × AreEnabledOf t enabled

abbrev pub TellsFacts : Specification → Option Facts → Type 0
TellsFacts t None = has_settings t ≡ false
TellsFacts t (Some facts) = (has_settings t ≡ true) × AreFactsOf t facts
