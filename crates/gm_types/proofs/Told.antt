-- What is told of a specification beside it.
use Rattle.std.proofs.Common.{◌≡◌, ℕ, Bool, true, ◌&&◌, ◌||◌, List, [], ◌∷◌, Option, Some, None}
use Rattle.std.proofs.Common.{refl, ◌∙◌, ap}
use Rattle.std.specs.Prelude.{codes}
use Rattle.std.specs.List.{list_all, list_any}
use Rattle.std.specs.Option.{option_map_or}
use Rattle.std.proofs.lemmas.Bool.{and_from}
use Rattle.gm_calendar.specs.declared.period.Period.{Period}
use Rattle.gm_calendar.specs.declared.period.Period.TheVariants.{Week}
use Rattle.gm_types.specs.declared.fits.Fits.{Fits}
use Rattle.gm_types.specs.declared.facts.Times.{Times}
use Rattle.gm_types.specs.declared.index.IndexKind.TheVariants.{Z2, Z3, Xz2, Xz3}
use Rattle.gm_types.specs.Dates.{IsDateSetting}
use Rattle.gm_types.specs.Facts.{TellsTimes, TellsWidths, TellsTrees}
use Rattle.gm_types.specs.FeatureType.{is_met, is_read, is_date_name, is_index_word}
use Rattle.gm_types.specs.FeatureType.{are_index_words}
use Rattle.gm_types.specs.Fits.{AreFits, word_fits}
use Rattle.gm_types.specs.Index.{fits_index, is_member, listed_of, lists_word}
use Rattle.gm_types.specs.Parts.{parts_of}
use Rattle.gm_types.specs.Settings.{IsSetting}
use Rattle.gm_types.specs.Specification.{Specification, setting_of, period_from, period_of}
use Rattle.gm_types.specs.Specification.{number_that, is_shard_count, is_precision, is_z2_width}
use Rattle.gm_types.specs.Specification.{is_z3_width, shards_of, precision_of, z2_bits_of}
use Rattle.gm_types.specs.Specification.{z3_bits_of}
use Rattle.gm_types.specs.Words.{same_text}

pub told_trees : (t : Specification) (shards precision : ℕ)
    → IsSetting (number_that is_shard_count) (setting_of t (codes "geomesa.z.splits")) 4
    (Some shards)
    → IsSetting (number_that is_precision) (setting_of t (codes "geomesa.xz.precision")) 12
    (Some precision) → TellsTrees t (Some (shards, precision))
unfolding shards_of precision_of
told_trees t shards precision a b = (
  and_from (is_read (number_that is_shard_count) (setting_of t (codes "geomesa.z.splits")))
      (is_read (number_that is_precision) (setting_of t (codes "geomesa.xz.precision"))) a.0 b.0,
  a.1,
  b.1,
)

pub told_widths : (t : Specification) (two three : ℕ)
    → IsSetting (number_that is_z2_width) (setting_of t (codes "gm.z2.bits")) 31 (Some two)
    → IsSetting (number_that is_z3_width) (setting_of t (codes "gm.z3.bits")) 21 (Some three)
    → TellsWidths t (Some (two, three))
unfolding z2_bits_of z3_bits_of
told_widths t two three a b = (
  and_from (is_read (number_that is_z2_width) (setting_of t (codes "gm.z2.bits")))
      (is_read (number_that is_z3_width) (setting_of t (codes "gm.z3.bits"))) a.0 b.0,
  a.1,
  b.1,
)

pub told_times : (t : Specification) (period : Period) (date : Option ℕ)
    → IsSetting period_from (setting_of t (codes "geomesa.z3.interval")) Week (Some period)
    → IsDateSetting t (Some date)
    → TellsTimes t (Some (let times : Times = record { date = date; period = period } in times))
unfolding period_of
told_times t period date a b = (
  and_from (is_read period_from (setting_of t (codes "geomesa.z3.interval")))
      (is_met (is_date_name t) (setting_of t (codes "geomesa.index.dtg"))) a.0 b.0,
  record { date = b.1; period = a.1 },
)

word_same : (t : Specification) (fits : Fits) (word : List ℕ) → AreFits t fits
    → word_fits fits word ≡ is_index_word t word
word_same t fits word are =
    go (same_text word (codes "id")) (same_text word (codes "z2")) (same_text word (codes "z3"))
    (same_text word (codes "xz2"))
    (same_text word (codes "xz3")) (same_text word (codes "attr"))
  where
    go : (a b c d e f : Bool)
        → (a || (b && fits.z2) || (c && fits.z3) || (d && fits.xz2) || (e && fits.xz3)
        || (f && fits.by_attribute))
        ≡ (a || (b && fits_index t Z2) || (c && fits_index t Z3) || (d && fits_index t Xz2)
        || (e && fits_index t Xz3) || (f && list_any (λ a. a.indexed) t.attributes))
    go a b c d e f =
        ap (λ x. a || (b && x) || (c && fits.z3) || (d && fits.xz2) || (e && fits.xz3)
        || (f && fits.by_attribute)) are.z2
        ∙ ap (λ x. a || (b && fits_index t Z2) || (c && x) || (d && fits.xz2) || (e && fits.xz3)
        || (f && fits.by_attribute)) are.z3
        ∙ ap (λ x. a || (b && fits_index t Z2) || (c && fits_index t Z3) || (d && x)
        || (e && fits.xz3) || (f && fits.by_attribute)) are.xz2
        ∙ ap (λ x. a || (b && fits_index t Z2) || (c && fits_index t Z3) || (d && fits_index t Xz2)
        || (e && x) || (f && fits.by_attribute)) are.xz3
        ∙ ap (λ x. a || (b && fits_index t Z2) || (c && fits_index t Z3) || (d && fits_index t Xz2)
        || (e && fits_index t Xz3) || (f && x)) are.by_attribute

words_same : (t : Specification) (fits : Fits) (words : List (List ℕ)) → AreFits t fits
    → list_all (word_fits fits) words ≡ list_all (is_index_word t) words
words_same t fits [] are = refl
words_same t fits (word ∷ words) are =
    ap (λ b. b && list_all (word_fits fits) words) (word_same t fits word are)
    ∙ ap (λ b. is_index_word t word && b) (words_same t fits words are)

pub list_same : (t : Specification) (fits : Fits) (list : Option (List ℕ)) → AreFits t fits
    → list ≡ listed_of t → (b : Bool)
    → b ≡ is_met (λ value. list_all (word_fits fits) (parts_of 44 value)) list
    → b ≡ is_met (are_index_words t) (listed_of t)
list_same t fits list are is b e = e ∙ go list ∙ ap (is_met (are_index_words t)) is
  where
    go : (l : Option (List ℕ))
        → is_met (λ value. list_all (word_fits fits) (parts_of 44 value)) l
        ≡ is_met (are_index_words t) l
    go None = refl
    go (Some value) = words_same t fits (parts_of 44 value) are

-- an index is enabled where it fits and is listed
pub enabled_if : (t : Specification) (list : Option (List ℕ)) (word : List ℕ) (fit fits b : Bool)
    → list ≡ listed_of t → fit ≡ fits
    → b ≡ (fit && option_map_or (is_member word) list true) → b ≡ (fits && lists_word t word)
unfolding lists_word
enabled_if t list word fit fits b is same e =
    e ∙ ap (λ l. fit && option_map_or (is_member word) l true) is
    ∙ ap (λ f. f && option_map_or (is_member word) (listed_of t) true) same

pub listed_if : (t : Specification) (list : Option (List ℕ)) (word : List ℕ) (b : Bool)
    → list ≡ listed_of t
    → b ≡ option_map_or (is_member word) list true → b ≡ lists_word t word
unfolding lists_word
listed_if t list word b is e = e ∙ ap (λ l. option_map_or (is_member word) l true) is
