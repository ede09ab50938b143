-- What the definition of an instant's bin tells, and the order of bins.
use Rattle.std.proofs.Common.{◌≡◌, ℕ, zero, suc, Option, Some, None, MatchOption, IfSome, IsSomeAnd}
use Rattle.std.proofs.Common.{◌+◌, ◌-◌, ◌*◌, ◌/◌, ◌<◌, ◌≤◌, inl, inr, refl, ap, arith, rules, ℤ}
use Rattle.std.proofs.Common.{pos, negsuc, ◌-ℤ◌, ◌≤ℤ◌, ◌<ℤ◌}
use Rattle.std.proofs.lemmas.Bool.{cases_order}
use Rattle.std.proofs.lemmas.Option.{MatchOption-at_some}
use Rattle.jiff_core.proofs.SignedLemmas.{signed_arith, one_part}
use Rattle.gm_calendar.specs.declared.bin.Bin.{Bin}
use Rattle.gm_calendar.specs.declared.period.Period.{Period}
use Rattle.gm_calendar.specs.declared.period.Period.TheVariants.{Day, Week, Month, Year}
use Rattle.gm_calendar.specs.Calendar.{span_at}
use Rattle.gm_calendar.specs.Instant.{day_ms}
use Rattle.gm_calendar.specs.Period.{last_of, unit_of, longest_of}
use Rattle.gm_calendar.specs.BinPlace.{IsBinPlace}
use Rattle.gm_calendar.specs.Bin.{days_of_bin, bin_start, ms_of_bin, first_ms, last_ms, ms_since}
use Rattle.gm_calendar.specs.Bin.{bin_from, bin_at, IsBinOf, HasNoBin, HasNumber, LiesIn}
use Rattle.gm_calendar.specs.Bin.{IsNotAfter}
use Rattle.gm_calendar.proofs.BinLaws.{AreStarts, ms_starts, passes, fails, bin_start_mono}
use Rattle.gm_calendar.proofs.BinLaws.{bin_start-next, bin_from_place, bin_at_place}
use Rattle.gm_calendar.proofs.BinLaws.{rest_within_span}

-- a time that the search along spans placed
abbrev pub Fell : (ℕ → ℕ) → (ℕ → ℕ) → ℕ → ℕ → ℕ → ℕ × ℕ → Type 0
Fell length start spans from time at =
    (from ≤ at.0) × (at.0 < from + spans) × (at.1 < length at.0)
    × (start from + time ≡ start at.0 + at.1)

abbrev Tells : (ℕ → ℕ) → (ℕ → ℕ) → ℕ → ℕ → ℕ → Option (ℕ × ℕ) → Type 0
Tells length start spans from time found =
    MatchOption found (start (from + spans) ≤ start from + time) (Fell length start spans from time)

tells_later : (length start : ℕ → ℕ) → AreStarts length start
    → (spans from time : ℕ) (found : Option (ℕ × ℕ)) → length from ≤ time
    → Tells length start spans (from + 1) (time - length from) found
    → Tells length start (suc spans) from time found
tells_later length start step spans from time None past h =
    let next : from + 1 ≡ suc from = omega arith in
    let sum = rw (← next) at (step from) in
    let end : from + suc spans ≡ from + 1 + spans = omega arith in
    rw end (omega arith)
tells_later length start step spans from time (Some at) past h =
    let next : from + 1 ≡ suc from = omega arith in
    let sum = rw (← next) at (step from) in
    (omega arith, omega arith, h.2, omega arith)

pub span_at-tells : (length start : ℕ → ℕ) → AreStarts length start → (spans from time : ℕ)
    → Tells length start spans from time (span_at length spans from time)
unfolding span_at
span_at-tells length start step zero from time = let same : from + 0 ≡ from = omega arith in
    rw same (omega arith)
span_at-tells length start step (suc spans) from time =
    elim (cases_order time (length from)) [
      | inr (inl within) ↦
          rw (passes time (length from) within) (omega arith, omega arith, within, omega arith)
      | inl same ↦ rw (fails time (length from) (omega arith))
          (tells_later length start step spans from time
          (span_at length spans (from + 1) (time - length from)) (omega arith)
          (span_at-tells length start step spans (from + 1) (time - length from)))
      | inr (inr past) ↦
          rw (fails time (length from) (omega arith))
          (tells_later length start step spans from time
          (span_at length spans (from + 1) (time - length from)) (omega arith)
          (span_at-tells length start step spans (from + 1) (time - length from)))
    ]

tells_bin : (period : Period) (ms : ℕ) (found : Option (ℕ × ℕ))
    → Tells (ms_of_bin period) (λ n. bin_start period n * day_ms) (last_of period + 1) 0 ms found
    → MatchOption (bin_from period found) (HasNoBin period (pos ms)) (IsBinOf period (pos ms))
tells_bin period ms None h =
    let zeroth : bin_start period 0 ≡ 0 = unfold bin_start in refl in
    let whole : 0 + (last_of period + 1) ≡ last_of period + 1 = omega arith in
    let past = rw (zeroth, whole) at h in
    inr (omega (arith, signed_arith))
tells_bin period ms (Some at) h =
    let zeroth : bin_start period 0 ≡ 0 = unfold bin_start in refl in
    let sum = rw zeroth at h.3 in
    bin_from_place period (pos ms) ms record { number = at.0; rest = at.1 } (unit_of period) record
    { above = omega arith; below = h.2 } refl (omega (arith, h.1)) refl

-- the bin that the definition finds is the one by the starts
pub bin_at-tells : (period : Period) (at : ℤ)
    → MatchOption (bin_at period at) (HasNoBin period at) (IsBinOf period at)
bin_at-tells period (pos ms) =
    tells_bin period ms (span_at (ms_of_bin period) (last_of period + 1) 0 ms)
    (span_at-tells (ms_of_bin period) (λ n. bin_start period n * day_ms) (ms_starts period)
    (last_of period + 1) 0 ms)
bin_at-tells period (negsuc n) = inl (omega (arith, signed_arith))

lies_in : (period : Period) (at : ℤ) (bin : Bin) → IsBinOf period at bin
    → LiesIn period at bin.number
lies_in period at bin is = (is.started, let end = is.not_ended in omega (arith, signed_arith))

lies_in_number : (period : Period) (at : ℤ) (number : ℕ) (found : Option Bin)
    → MatchOption found (HasNoBin period at) (IsBinOf period at)
    → IsSomeAnd found (λ bin. bin.number ≡ number) → LiesIn period at number
lies_in_number period at number None h has = absurd has
lies_in_number period at number (Some bin) h has = rw (← has) (lies_in period at bin h)

-- an instant has the bins whose milliseconds it lies in
has_number : (period : Period) (at : ℤ) (number : ℕ) → number ≤ last_of period
    → LiesIn period at number → HasNumber period at number
has_number period (negsuc n) number low h = absurd (omega (arith, signed_arith))
has_number period (pos ms) number low h =
    let next = bin_start-next period number in
    let start = bin_start period number * day_ms in
    let place : IsBinPlace period ms record { number = number; rest = ms - start } =
    record { above = omega (arith, signed_arith); below = omega (arith, signed_arith) } in
    let found = bin_at_place period (pos ms) ms record { number = number; rest = ms - start }
    (unit_of period) place refl low refl in
    rw (← found) refl

pub has_number_where : (period : Period) (at : ℤ) (number : ℕ) → number ≤ last_of period
    → (HasNumber period at number → LiesIn period at number)
    × (LiesIn period at number → HasNumber period at number)
has_number_where period at number low = (
  lies_in_number period at number (bin_at period at) (bin_at-tells period at),
  has_number period at number low,
)

-- the time since the start is below the bin's length
since_below : (period : Period) (at : ℤ) (bin : Bin) → IsBinOf period at bin
    → ms_since period bin.number at < days_of_bin period bin.number * day_ms
since_below period at bin is =
    let next = bin_start-next period bin.number in
    let low = is.started in
    let high = is.not_ended in
    omega (arith, signed_arith, one_part (at -ℤ first_ms period bin.number))

offset_below : (period : Period) (at : ℤ) (found : Option Bin)
    → MatchOption found (HasNoBin period at) (IsBinOf period at)
    → IfSome found (λ bin. bin.offset < longest_of period)
offset_below period at None h = search rules
offset_below period at (Some bin) h =
    rw h.offset_is (rest_within_span period bin.number _ (since_below period at bin h))

pub bin_at-offset : (period : Period) (at : ℤ)
    → IfSome (bin_at period at) (λ bin. bin.offset < longest_of period)
bin_at-offset period at = offset_below period at (bin_at period at) (bin_at-tells period at)

-- a bin ends before each later one starts
pub ends_before : (period : Period) (number later : ℕ) → number < later
    → last_ms period number <ℤ first_ms period later
ends_before period number later h =
    let mono = bin_start_mono period (number + 1) later (omega arith) in
    omega (arith, signed_arith)

later_number : (period : Period) (earlier later : ℤ) (a b : Bin) → earlier ≤ℤ later
    → IsBinOf period earlier a → IsBinOf period later b → a.number ≤ b.number
later_number period earlier later a b h is is_later =
    elim (cases_order a.number b.number) [
      | inl same ↦ omega arith
      | inr (inl before) ↦ omega arith
      | inr (inr after) ↦
          let mono = bin_start_mono period (b.number + 1) a.number (omega arith) in
          let low = is.started in
          let high = is_later.not_ended in
          absurd (omega (arith, signed_arith))
    ]

units_mono : (period : Period) (m n : ℕ) → m ≤ n → m / unit_of period ≤ n / unit_of period
units_mono Day m n h = omega arith
units_mono Week m n h = omega arith
units_mono Month m n h = omega arith
units_mono Year m n h = omega arith

later_offset : (period : Period) (earlier later : ℤ) (a b : Bin) → earlier ≤ℤ later
    → IsBinOf period earlier a → IsBinOf period later b → a.number ≡ b.number → a.offset ≤ b.offset
later_offset period earlier later a b h is is_later same =
    let low = is.started in
    let same_start = ap (λ (n : ℕ). bin_start period n * day_ms) same in
    let more : ms_since period a.number earlier ≤ ms_since period b.number later =
    omega (arith, signed_arith, one_part (earlier -ℤ first_ms period a.number)) in
    rw (is.offset_is, is_later.offset_is) (units_mono period _ _ more)

-- later instants have no earlier bin, and in one bin no smaller offset
pub later_is_not_after : (period : Period) (earlier later : ℤ) (a b : Bin) → earlier ≤ℤ later
    → bin_at period earlier ≡ Some a → bin_at period later ≡ Some b → IsNotAfter a b
later_is_not_after period earlier later a b h found found_later =
    let is : IsBinOf period earlier a =
    MatchOption-at_some (HasNoBin period earlier) (IsBinOf period earlier) a found
    (bin_at-tells period earlier) in
    let is_later : IsBinOf period later b =
    MatchOption-at_some (HasNoBin period later) (IsBinOf period later) b found_later
    (bin_at-tells period later) in
    elim (cases_order a.number b.number) [
      | inl same ↦ inr (same, later_offset period earlier later a b h is is_later same)
      | inr (inl before) ↦ inl before
      | inr (inr after) ↦
          absurd (omega (arith, later_number period earlier later a b h is is_later))
    ]
