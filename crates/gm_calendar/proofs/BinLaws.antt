-- Places of milliseconds, and the bins that they give.
use Rattle.std.proofs.Common.{◌≡◌, ℕ, zero, suc, true, false, nat_lt, Some, None, ◌+◌, ◌-◌, ◌*◌}
use Rattle.std.proofs.Common.{◌/◌, ◌<◌, ◌≤◌, inl, inr, refl, ap, arith, ℤ, pos, negsuc, ◌-ℤ◌, ◌<ℤ◌}
use Rattle.std.proofs.Common.{unsigned_abs}
use Rattle.std.proofs.lemmas.Bool.{cases_order}
use Rattle.std.proofs.lemmas.Bool.Decides.{nat_tests}
use Rattle.jiff_core.proofs.SignedLemmas.{signed_arith, one_part}
use Rattle.gm_calendar.specs.declared.period.Period.{Period}
use Rattle.gm_calendar.specs.declared.bin_place.BinPlace.{BinPlace}
use Rattle.gm_calendar.specs.declared.period.Period.TheVariants.{Day, Week, Month, Year}
use Rattle.gm_calendar.specs.Calendar.{days_of_month, days_of_year, span_at}
use Rattle.gm_calendar.specs.Instant.{day_ms}
use Rattle.gm_calendar.specs.Period.{last_of, unit_of, longest_of}
use Rattle.gm_calendar.specs.BinPlace.{IsBinPlace}
use Rattle.gm_calendar.specs.Bin.{month_at, days_of_bin, bin_start, ms_of_bin, bin_at, IsBinOf}
use Rattle.gm_calendar.specs.Bin.{HasNoBin}

days_of_month_bound : (y m : ℕ) → days_of_month y m ≤ 31
days_of_month_bound y m = grind arith

days_of_year_bound : (y : ℕ) → days_of_year y ≤ 366
days_of_year_bound y = grind arith

-- no bin is longer than the period's span
pub bin_within_span : (period : Period) (n : ℕ)
    → days_of_bin period n * day_ms ≤ longest_of period * unit_of period
bin_within_span Day n = omega arith
bin_within_span Week n = omega arith
bin_within_span Month n = omega (arith, days_of_month_bound (month_at n).year (month_at n).month)
bin_within_span Year n = omega (arith, days_of_year_bound (1970 + n))

-- so an offset is below it
pub rest_within_span : (period : Period) (n rest : ℕ) → rest < days_of_bin period n * day_ms
    → rest / unit_of period < longest_of period
rest_within_span Day n rest h = omega (arith, bin_within_span Day n)
rest_within_span Week n rest h = omega (arith, bin_within_span Week n)
rest_within_span Month n rest h = omega (arith, bin_within_span Month n)
rest_within_span Year n rest h = omega (arith, bin_within_span Year n)

-- later bins start later
bin_start-add : (period : Period) (n k : ℕ) → bin_start period n ≤ bin_start period (k + n)
unfolding bin_start
bin_start-add period n zero = let same : 0 + n ≡ n = omega arith in rw same (omega arith)
bin_start-add period n (suc k) =
    let next : suc k + n ≡ suc (k + n) = omega arith in
    rw next (omega (arith, bin_start-add period n k))

pub bin_start_mono : (period : Period) (n later : ℕ) → n ≤ later
    → bin_start period n ≤ bin_start period later
bin_start_mono period n later h =
    let same : later - n + n ≡ later = omega arith in
    rw same at (bin_start-add period n (later - n))

-- the next bin starts after the days of this one
pub bin_start-next : (period : Period) (n : ℕ)
    → bin_start period (n + 1) ≡ bin_start period n + days_of_bin period n
unfolding bin_start
bin_start-next period n = let next : n + 1 ≡ suc n = omega arith in rw next refl

pub since_start : (start rest ms : ℕ) → start + rest ≡ ms
    → rest ≡ unsigned_abs (pos ms -ℤ pos start)
since_start start rest ms e = omega (arith, signed_arith, one_part (pos ms -ℤ pos start))

-- a place within the bins is the bin
pub bin_from_place : (period : Period) (at : ℤ) (ms : ℕ) (place : BinPlace) (unit : ℕ)
    → IsBinPlace period ms place → at ≡ pos ms → place.number ≤ last_of period
    → unit ≡ unit_of period
    → IsBinOf period at record { number = place.number; offset = place.rest / unit }
bin_from_place period at ms place unit is same low units =
    let next = bin_start-next period place.number in
    let above = is.above in
    let below = is.below in
    let rest = since_start (bin_start period place.number * day_ms) place.rest ms above in
    rw (same, units) record {
      numbered = low;
      started = omega (arith, signed_arith);
      not_ended = omega (arith, signed_arith);
      offset_is = ap (λ (n : ℕ). n / unit_of period) rest;
    }

-- and one past them has no bin
pub none_from_place : (period : Period) (at : ℤ) (ms : ℕ) (place : BinPlace)
    → IsBinPlace period ms place → at ≡ pos ms → last_of period < place.number → HasNoBin period at
none_from_place period at ms place is same high =
    let start = bin_start_mono period (last_of period + 1) place.number (omega arith) in
    let above = is.above in
    inr (omega (arith, signed_arith))

-- starts that are the sums of the lengths
abbrev pub AreStarts : (ℕ → ℕ) → (ℕ → ℕ) → Type 0
AreStarts length start = (n : ℕ) → start (suc n) ≡ start n + length n

starts-add : (length start : ℕ → ℕ) → AreStarts length start → (n k : ℕ) → start n ≤ start (k + n)
starts-add length start step n zero = let same : 0 + n ≡ n = omega arith in rw same (omega arith)
starts-add length start step n (suc k) =
    let next : suc k + n ≡ suc (k + n) = omega arith in
    rw next (omega (arith, starts-add length start step n k, step (k + n)))

pub starts_mono : (length start : ℕ → ℕ) → AreStarts length start → (n later : ℕ) → n ≤ later
    → start n ≤ start later
starts_mono length start step n later h =
    let same : later - n + n ≡ later = omega arith in
    rw same at (starts-add length start step n (later - n))

pub passes : (a b : ℕ) → a < b → nat_lt a b ≡ true
passes a b h = grind (arith, nat_tests)

pub fails : (a b : ℕ) → b ≤ a → nat_lt a b ≡ false
fails a b h = grind (arith, nat_tests)

-- the span in which a time falls
pub span_at-within : (length start : ℕ → ℕ) → AreStarts length start → (spans from n rest time : ℕ)
    → from ≤ n → n < from + spans → rest < length n → start from + time ≡ start n + rest
    → span_at length spans from time ≡ Some (n, rest)
unfolding span_at
span_at-within length start step zero from n rest time low high within e = absurd (omega arith)
span_at-within length start step (suc spans) from n rest time low high within e =
    elim (cases_order from n) [
      | inl same ↦
          let here = ap start same in
          let size = ap length same in
          let left : time ≡ rest = omega arith in
          rw (passes time (length from) (omega arith), same, left) refl
      | inr (inl before) ↦
          let next : from + 1 ≡ suc from = omega arith in
          let sum = rw (← next) at (step from) in
          let later = starts_mono length start step (from + 1) n (omega arith) in
          rw (fails time (length from) (omega arith))
          (span_at-within length start step spans (from + 1) n rest (time - length from)
          (omega arith) (omega arith) within (omega arith))
      | inr (inr after) ↦ absurd (omega arith)
    ]

-- no span has a time past the last
pub span_at-past : (length start : ℕ → ℕ) → AreStarts length start → (spans from time : ℕ)
    → start (from + spans) ≤ start from + time → span_at length spans from time ≡ None
unfolding span_at
span_at-past length start step zero from time past = refl
span_at-past length start step (suc spans) from time past =
    let next : from + 1 ≡ suc from = omega arith in
    let sum = rw (← next) at (step from) in
    let end : from + suc spans ≡ from + 1 + spans = omega arith in
    let later = starts_mono length start step (from + 1) (from + suc spans) (omega arith) in
    let here = rw end at past in
    rw (fails time (length from) (omega arith))
    (span_at-past length start step spans (from + 1) (time - length from) (omega arith))

-- the starts of bins in milliseconds
pub ms_starts : (period : Period) → AreStarts (ms_of_bin period) (λ n. bin_start period n * day_ms)
unfolding bin_start
ms_starts period n = omega arith

-- the bin that the definition finds
pub bin_at_place : (period : Period) (at : ℤ) (ms : ℕ) (place : BinPlace) (unit : ℕ)
    → IsBinPlace period ms place → at ≡ pos ms → place.number ≤ last_of period
    → unit ≡ unit_of period → Some record { number = place.number; offset = place.rest / unit }
    ≡ bin_at period at
bin_at_place period at ms place unit is same low units =
    let zeroth : bin_start period 0 ≡ 0 = unfold bin_start in refl in
    let found = span_at-within (ms_of_bin period) (λ n. bin_start period n * day_ms)
    (ms_starts period) (last_of period + 1) 0 place.number place.rest ms (omega arith)
    (omega arith) is.below (rw zeroth (omega (arith, is.above))) in
    rw (same, units, found) refl

pub bin_at_past : (period : Period) (at : ℤ) (ms : ℕ) (place : BinPlace)
    → IsBinPlace period ms place → at ≡ pos ms → last_of period < place.number
    → None ≡ bin_at period at
bin_at_past period at ms place is same high =
    let zeroth : bin_start period 0 ≡ 0 = unfold bin_start in refl in
    let start = bin_start_mono period (last_of period + 1) place.number (omega arith) in
    let above = is.above in
    let whole : 0 + (last_of period + 1) ≡ last_of period + 1 = omega arith in
    let found = span_at-past (ms_of_bin period) (λ n. bin_start period n * day_ms)
    (ms_starts period) (last_of period + 1) 0 ms (rw (whole, zeroth) (omega arith)) in
    rw (same, found) refl

pub bin_at_before : (period : Period) (at : ℤ) → at <ℤ pos 0 → None ≡ bin_at period at
bin_at_before period (pos n) h = absurd (omega (arith, signed_arith))
bin_at_before period (negsuc n) h = refl
