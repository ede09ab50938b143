-- Values against kinds, one place after the other.
use Rattle.std.proofs.Common.{◌≡◌, ◌≢◌, ℕ, zero, suc, ◌+◌, ◌<◌, ℤ, Bool, true, false, not, ◌&&◌}
use Rattle.std.proofs.Common.{◌||◌, List, [], ◌∷◌, length, map, get_or, drop, Some, refl, sym, ap}
use Rattle.std.proofs.Common.{◌∙◌, add-one, arith}
use Rattle.std.specs.Prelude.{slice_get, is_some}
use Rattle.std.proofs.lemmas.Bool.{and_parts}
use Rattle.gm_calendar.specs.Bin.{bin_at}
use Rattle.gm_types.specs.declared.attribute.Attribute.{Attribute}
use Rattle.gm_types.specs.declared.kind.Kind.{Kind}
use Rattle.gm_feature.specs.declared.value.Value.{Value}
use Rattle.gm_feature.specs.declared.feature.Feature.{Feature}
use Rattle.gm_feature.specs.declared.value.Value.TheVariants as value
use Rattle.gm_feature.specs.Feature.{values_fit, value_in, value_at, has_bin, date_has_bin}
use Rattle.gm_feature.specs.Feature.{has_time_index, Fits}
use Rattle.gm_types.specs.Specification.{Specification, default_date_of, period_of}
use Rattle.gm_feature.specs.Value.{value_fits, is_of_kind, is_sound}

abbrev pub kinds : List Attribute → List Kind
kinds attributes = map (λ attribute. attribute.kind) attributes

-- lists of two lengths do not fit
pub lengths_differ : (attributes : List Attribute) (values : List Value)
    → length attributes ≢ length values → false ≡ values_fit (kinds attributes) values
lengths_differ [] [] differ = absurd (differ refl)
lengths_differ [] (v ∷ values) differ = refl
lengths_differ (a ∷ attributes) [] differ = refl
lengths_differ (a ∷ attributes) (v ∷ values) differ =
    let later = lengths_differ attributes values (λ same. differ (ap suc same)) in
    later-false (value_fits a.kind v) (values_fit (kinds attributes) values) later
  where
    later-false : (a b : Bool) → false ≡ b → false ≡ (a && b)
    later-false true b e = e
    later-false false b e = refl

-- from a place on, the value there is tested first
fits_from : (attributes : List Attribute) (values : List Value) (i : ℕ) (a : Attribute) (v : Value)
    → i < length attributes → i < length values
    → values_fit (drop i (kinds attributes)) (drop i values)
    ≡ (value_fits (get_or attributes i a).kind (get_or values i v)
    && values_fit (drop (suc i) (kinds attributes)) (drop (suc i) values))
fits_from [] values i a v within within' = absurd (omega arith)
fits_from (b ∷ attributes) [] i a v within within' = absurd (omega arith)
fits_from (b ∷ attributes) (w ∷ values) zero a v within within' = refl
fits_from (b ∷ attributes) (w ∷ values) (suc i) a v within within' =
    fits_from attributes values i a v (omega arith) (omega arith)

-- one that does not fit decides
pub fails_at : (attributes : List Attribute) (values : List Value) (i : ℕ) (a : Attribute)
    (v : Value) → i < length attributes → i < length values
    → v ≡ get_or values i v → value_fits (get_or attributes i a).kind v ≡ false
    → values_fit (drop i (kinds attributes)) (drop i values) ≡ values_fit (kinds attributes) values
    → false ≡ values_fit (kinds attributes) values
fails_at attributes values i a v within within' is fails so_far =
    let here : value_fits (get_or attributes i a).kind (get_or values i v) ≡ false =
    sym (λ j. value_fits (get_or attributes i a).kind (is j)) ∙ fails in
    sym (sym so_far ∙ fits_from attributes values i a v within within'
    ∙ ap (λ b. b && values_fit (drop (suc i) (kinds attributes)) (drop (suc i) values)) here)

-- one that fits leaves those behind it
pub goes_on : (attributes : List Attribute) (values : List Value) (i : ℕ) (a : Attribute)
    (v : Value) → i < length attributes → i < length values
    → v ≡ get_or values i v → value_fits (get_or attributes i a).kind v ≡ true
    → values_fit (drop i (kinds attributes)) (drop i values) ≡ values_fit (kinds attributes) values
    → values_fit (drop (i + 1) (kinds attributes)) (drop (i + 1) values)
    ≡ values_fit (kinds attributes) values
goes_on attributes values i a v within within' is holds so_far =
    let here : value_fits (get_or attributes i a).kind (get_or values i v) ≡ true =
    sym (λ j. value_fits (get_or attributes i a).kind (is j)) ∙ holds in
    let next = fits_from attributes values i a v within within'
    ∙ ap (λ b. b && values_fit (drop (suc i) (kinds attributes)) (drop (suc i) values)) here in
    ap (λ (n : ℕ). values_fit (drop n (kinds attributes)) (drop n values)) (add-one i)
    ∙ sym next ∙ so_far

pub same_count : (ks : List Kind) (values : List Value) → values_fit ks values ≡ true
    → length values ≡ length ks
same_count [] [] fit = refl
same_count [] (v ∷ values) fit = absurd cc
same_count (k ∷ ks) [] fit = absurd cc
same_count (k ∷ ks) (v ∷ values) fit = ap suc (same_count ks values (and_parts _ _ fit).1)

pub fits_at : (ks : List Kind) (values : List Value) (n : ℕ) (k : Kind)
    → values_fit ks values ≡ true → slice_get ks n ≡ Some k
    → value_fits k (value_in values n) ≡ true
fits_at [] values n k fit at = absurd cc
fits_at (kind ∷ ks) [] n k fit at = absurd cc
fits_at (kind ∷ ks) (v ∷ values) zero k fit at =
    let same : kind ≡ k = cc in
    ap (λ x. value_fits x v) (sym same) ∙ (and_parts _ _ fit).0
fits_at (kind ∷ ks) (v ∷ values) (suc n) k fit at = fits_at ks values n k (and_parts _ _ fit).1 at

-- a default date of a feature that fits has a bin where an index over time is enabled
pub date_fits : (t : Specification) (f : Feature) (n : ℕ) (at : ℤ) → Fits t f
    → has_time_index t ≡ true
    → default_date_of t ≡ Some n → value_at f n ≡ value.Date at
    → is_some (bin_at (period_of t) at) ≡ true
date_fits t f n at fit timed dated is =
    let first : date_has_bin (period_of t) (default_date_of t) f.values ≡ true =
    ap (λ b. not b || date_has_bin (period_of t) (default_date_of t) f.values) (sym timed)
    ∙ fit.date in
    let second : has_bin (period_of t) (value_at f n) ≡ true =
    ap (λ o. date_has_bin (period_of t) o f.values) (sym dated) ∙ first in
    ap (has_bin (period_of t)) (sym is) ∙ second

-- a value of values that fit is sound
pub sound_at : (ks : List Kind) (values : List Value) (i : ℕ) (v : Value)
    → values_fit ks values ≡ true → i < length values → v ≡ get_or values i v → is_sound v ≡ true
sound_at ks [] i v fit within is = absurd (omega arith)
sound_at [] (w ∷ values) i v fit within is = absurd cc
sound_at (k ∷ ks) (w ∷ values) zero v fit within is =
    let here = and_parts (value_fits k w) (values_fit ks values) fit in
    ap is_sound is ∙ (and_parts (is_of_kind k w) (is_sound w) here.0).1
sound_at (k ∷ ks) (w ∷ values) (suc i) v fit within is =
    sound_at ks values i v (and_parts (value_fits k w) (values_fit ks values) fit).1
    (omega arith) is
