-- Features with another value in a place.
use Rattle.std.proofs.Common.{◌≡◌, ◌<◌, ℕ, zero, suc, Bool, true, false, true≢false, not}
use Rattle.std.proofs.Common.{◌||◌, List, [], ◌∷◌, length, Option, Some, None, refl, sym, ap, subst}
use Rattle.std.proofs.Common.{◌∙◌, arith}
use Rattle.std.specs.Prelude.{slice_get, slice_set, get_or, ◌==◌}
use Rattle.std.proofs.Math.Dec.{compare_is_eq}
use Rattle.std.proofs.lemmas.Option.{slice_get_within}
use Prim.Native.Nat.compare
use Rattle.gm_base.proofs.Options.{same_some}
use Rattle.std.proofs.lemmas.Bool.{and_parts, and_from}
use Rattle.gm_types.specs.declared.kind.Kind.{Kind}
use Rattle.gm_types.specs.Specification.{Specification, kinds_of, default_date_of, period_of}
use Rattle.gm_feature.specs.declared.feature.Feature.{Feature}
use Rattle.gm_feature.specs.declared.value.Value.{Value}
use Rattle.gm_feature.specs.declared.value.Value.TheVariants.{Null}
use Rattle.gm_feature.specs.Feature.{Fits, values_fit, has_bin, date_has_bin, has_time_index}
use Rattle.gm_feature.specs.Value.{value_fits}
use Rattle.gm_script.specs.Bins.{is_place}
use Rattle.gm_program.specs.Matched.{MayTake}
use Rattle.gm_program.specs.Step.{with_value}

-- each value is one that its kind may hold
set_fits : (kinds : List Kind) (values : List Value) (place : ℕ) (k : Kind) (v : Value)
    → values_fit kinds values ≡ true → slice_get kinds place ≡ Some k → value_fits k v ≡ true
    → values_fit kinds (slice_set values place v) ≡ true
set_fits [] [] place k v fit there new = refl
set_fits [] (x ∷ xs) place k v fit there new = absurd (true≢false (sym fit))
set_fits (c ∷ cs) [] place k v fit there new = absurd (true≢false (sym fit))
set_fits (c ∷ cs) (x ∷ xs) zero k v fit there new =
    and_from (value_fits c v) (values_fit cs xs)
    (subst (λ (d : Kind). value_fits d v ≡ true) (sym (same_some c k there)) new)
    (and_parts (value_fits c x) (values_fit cs xs) fit).1
set_fits (c ∷ cs) (x ∷ xs) (suc i) k v fit there new =
    let h = and_parts (value_fits c x) (values_fit cs xs) fit in
    and_from (value_fits c x) (values_fit cs (slice_set xs i v)) h.0
    (set_fits cs xs i k v h.1 there new)

same_suc : (j i : ℕ) → (suc j == suc i) ≡ (j == i)
same_suc j i = ap compare_is_eq (compare.suc-suc j i)

-- and the default date has a bin
set_has_bin : (t : Specification) (values : List Value) (place number : ℕ) (v : Value)
    → (not (number == place) || has_bin (period_of t) v) ≡ true
    → has_bin (period_of t) (get_or values number Null) ≡ true
    → has_bin (period_of t) (get_or (slice_set values place v) number Null) ≡ true
set_has_bin t [] place number v keeps has = has
set_has_bin t (x ∷ xs) zero zero v keeps has = keeps
set_has_bin t (x ∷ xs) zero (suc j) v keeps has = has
set_has_bin t (x ∷ xs) (suc i) zero v keeps has = has
set_has_bin t (x ∷ xs) (suc i) (suc j) v keeps has =
    set_has_bin t xs i j v
    (ap (λ b. not b || has_bin (period_of t) v) (sym (same_suc j i)) ∙ keeps) has

set_date : (t : Specification) (date : Option ℕ) (values : List Value) (place : ℕ) (v : Value)
    → (not (is_place place date) || has_bin (period_of t) v) ≡ true
    → date_has_bin (period_of t) date values ≡ true
    → date_has_bin (period_of t) date (slice_set values place v) ≡ true
set_date t None values place v keeps has = refl
set_date t (Some number) values place v keeps has = set_has_bin t values place number v keeps has

set_dates : (timed : Bool) (t : Specification) (date : Option ℕ) (values : List Value) (place : ℕ)
    (v : Value) → (not timed || (not (is_place place date) || has_bin (period_of t) v)) ≡ true
    → (not timed || date_has_bin (period_of t) date values) ≡ true
    → (not timed || date_has_bin (period_of t) date (slice_set values place v)) ≡ true
set_dates true t date values place v keeps has = set_date t date values place v keeps has
set_dates false t date values place v keeps has = refl

pub value_given : (t : Specification) (f : Feature) (place : ℕ) (v : Value) → Fits t f
    → MayTake t place v → Fits t (with_value place v f)
value_given t f place v fits takes = record {
  identifier = fits.identifier;
  each = set_fits (kinds_of t) f.values place takes.holds.kind v fits.each takes.holds.there
      takes.holds.fits;
  date = set_dates (has_time_index t) t (default_date_of t) f.values place v takes.dated fits.date;
}

-- there are as many values as kinds
as_many : (kinds : List Kind) (values : List Value) → values_fit kinds values ≡ true
    → length kinds ≡ length values
as_many [] [] fit = refl
as_many [] (x ∷ xs) fit = absurd (true≢false (sym fit))
as_many (c ∷ cs) [] fit = absurd (true≢false (sym fit))
as_many (c ∷ cs) (x ∷ xs) fit =
    let rest = as_many cs xs (and_parts (value_fits c x) (values_fit cs xs) fit).1 in
    omega (arith, rest)

-- so there is a value in a place that may take another
pub has_place : (t : Specification) (f : Feature) (place : ℕ) (v : Value) → Fits t f
    → MayTake t place v → place < length f.values
has_place t f place v fits takes =
    omega (
      arith,
      slice_get_within (kinds_of t) place takes.holds.kind takes.holds.there,
      as_many (kinds_of t) f.values fits.each,
    )
