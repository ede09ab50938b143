-- A text spells an instant exactly where the function gives it.
use Rattle.std.proofs.Common.{◌≡◌, ℕ, suc, ◌+◌, ◌*◌, ◌<◌, ◌≤◌, true, false, ◌&&◌, ◌==◌, cond}
use Rattle.std.proofs.Common.{le-leb, leb-true, leb as nat_le, lt-ltb, ltb-true, List, [], ◌∷◌}
use Rattle.std.proofs.Common.{◌++◌, length, take, drop, fold, Some, None, ℤ, pos, neg_ℤ, ◌+ℤ◌, ◌*ℤ◌}
use Rattle.std.proofs.Common.{refl, sym, ap, ◌∙◌, subst, inl, inr, arith, append_assoc}
use Rattle.std.proofs.Common.{length-append, nat_lt}
use Rattle.std.specs.Prelude.{Option, ◌↔◌, slice_index, slice_range, int_le}
use Rattle.std.specs.List.{list_all, list_any, prefix_len}
use Rattle.std.specs.Char.{is_ascii_digit}
use Rattle.std.proofs.lemmas.Bool.{and_parts, and_from, or_from, both_ways, ne_eqb, cases_Bool}
use Rattle.std.proofs.lemmas.Bool.{eqb-true}
use Rattle.std.proofs.lemmas.List.{take-append-drop}
use Rattle.std.proofs.lemmas.List.Folds.{list_all-append}
use Rattle.gm_base.proofs.Lists.{take_front, drop_front}
use Rattle.gm_base.proofs.Numbers.{le_from, le_to}
use Rattle.gm_base.proofs.Options.{same_some}
use Rattle.jiff_core.specs.Calendar.{days_from_civil}
use Rattle.jiff_core.proofs.SignedLemmas.{signed_arith}
use Rattle.gm_calendar.specs.Calendar.{days_of_month}
use Rattle.gm_calendar.specs.Instant.{day_ms, second_ms, minute_ms, ms_before_1970, last_instant}
use Rattle.gm_calendar.specs.Instant.{IsInstant, is_instant, instant_at}
use Rattle.gm_calendar.specs.Spelling.{number_of, is_date, date_at, date_of, clock_at}
use Rattle.gm_base.specs.Ascii.{next_digit}
use Rattle.gm_calendar.specs.Spelling.{clock_of, second_at, second_of, digit_at, fraction_of}
use Rattle.gm_calendar.specs.Spelling.{negative_of, zone_of, sum_of, behind_seconds, behind_minutes}
use Rattle.gm_calendar.specs.Spelling.{behind_date, instant_from, instant_of, instant_text}
use Rattle.gm_calendar.specs.Spelling.{is_instant_byte}
use Rattle.gm_calendar.specs.Parts.{SpellsDigits, SpellsDate, SpellsClock, fraction_ms}
use Rattle.gm_calendar.specs.Parts.{MarksFraction, SpellsFraction, SpellsSeconds, MarksShift}
use Rattle.gm_calendar.specs.Parts.{SpellsShift, SpellsZone, MarksTime, SpellsTime, SpellsInstant}
use Rattle.gm_calendar.proofs.Dates.{is_date-true}
use Rattle.gm_calendar.proofs.RoundTrip.{instant_at-within, round_trip}

-- From the parts to the function.

digits_read : (count : ℕ) (text : List ℕ) (n : ℕ) → SpellsDigits count text n
    → number_of text ≡ Some n
digits_read count text n s =
    ap (λ t. cond t (Some (fold next_digit 0 text)) None) s.are_digits ∙ ap Some s.value

-- texts of two and of four bytes
record Two (text : List ℕ) : Type 0 where
  a : ℕ
  b : ℕ
  is : text ≡ a ∷ b ∷ []

record Four (text : List ℕ) : Type 0 where
  a : ℕ
  b : ℕ
  c : ℕ
  d : ℕ
  is : text ≡ a ∷ b ∷ c ∷ d ∷ []

two_of : (text : List ℕ) → length text ≡ 2 → Two text
two_of (a ∷ b ∷ []) long = record { a = a; b = b; is = refl }
two_of _ long = absurd (omega (arith, long))

four_of : (text : List ℕ) → length text ≡ 4 → Four text
four_of (a ∷ b ∷ c ∷ d ∷ []) long = record { a = a; b = b; c = c; d = d; is = refl }
four_of _ long = absurd (omega (arith, long))

date_joined : (y m d : List ℕ) → Four y → Two m → Two d
    → (date_of (y ++ (45 ∷ (m ++ (45 ∷ d)))) ≡ date_at (number_of y) (number_of m) (number_of d))
    × (length (y ++ (45 ∷ (m ++ (45 ∷ d)))) ≡ 10)
date_joined y m d s t u = rw (s.is, t.is, u.is) (refl, refl)

date_read : (text : List ℕ) (ms : ℤ) → SpellsDate text ms
    → (date_of text ≡ Some ms) × (length text ≡ 10)
date_read text ms s =
    let whole = date_joined s.year_text s.month_text s.day_text (four_of s.year_text s.year_is.long)
    (two_of s.month_text s.month_is.long) (two_of s.day_text s.day_is.long) in
    let test : is_date s.year s.month s.day ≡ true =
    is_date-true s.year s.month s.day s.in_year.0 s.in_year.1 s.in_month.0 s.in_month.1 in (
      ap date_of s.written ∙ whole.0
          ∙ ap (λ o. date_at o (number_of s.month_text) (number_of s.day_text))
          (digits_read 4 s.year_text s.year s.year_is)
          ∙ ap (λ o. date_at (Some s.year) o (number_of s.day_text))
          (digits_read 2 s.month_text s.month s.month_is)
          ∙ ap (λ o. date_at (Some s.year) (Some s.month) o)
          (digits_read 2 s.day_text s.day s.day_is)
          ∙ ap (λ t. cond t (Some (days_from_civil (pos s.year) s.month s.day *ℤ pos day_ms)) None)
          test
          ∙ ap Some s.value,
      ap length s.written ∙ whole.1,
    )

clock_joined : (h m : List ℕ) → Two h → Two m
    → (clock_of (h ++ (58 ∷ m)) ≡ clock_at (number_of h) (number_of m))
    × (length (h ++ (58 ∷ m)) ≡ 5)
clock_joined h m s t = rw (s.is, t.is) (refl, refl)

clock_read : (text : List ℕ) (ms : ℤ) → SpellsClock text ms
    → (clock_of text ≡ Some ms) × (length text ≡ 5)
clock_read text ms s =
    let whole = clock_joined s.hours_text s.minutes_text (two_of s.hours_text s.hours_are.long)
    (two_of s.minutes_text s.minutes_are.long) in (
      ap clock_of s.written ∙ whole.0
          ∙ ap (λ o. clock_at o (number_of s.minutes_text))
          (digits_read 2 s.hours_text s.hours s.hours_are)
          ∙ ap (λ o. clock_at (Some s.hours) o)
          (digits_read 2 s.minutes_text s.minutes s.minutes_are)
          ∙ ap (λ t. cond t (Some (pos ((s.hours * 60 + s.minutes) * minute_ms))) None)
          (and_from (nat_lt s.hours 24) (nat_lt s.minutes 60) (lt-ltb s.hours 24 s.in_day)
          (lt-ltb s.minutes 60 s.in_hour))
          ∙ ap Some s.value,
      ap length s.written ∙ whole.1,
    )

-- the first three digits, with 0 for those that lack
fraction_value : (digits : List ℕ) → 1 ≤ length digits
    → digit_at digits 0 * 100 + digit_at digits 1 * 10 + digit_at digits 2 ≡ fraction_ms digits
fraction_value [] some = absurd (omega (arith, some))
fraction_value (a ∷ []) some = omega arith
fraction_value (a ∷ b ∷ []) some = omega arith
fraction_value (a ∷ b ∷ c ∷ rest) some = omega arith

fraction_read : (digits : List ℕ) → 1 ≤ length digits → length digits ≤ 9
    → fraction_of digits ≡ Some (pos (fraction_ms digits))
fraction_read digits some few =
    ap (λ t. cond t
    (Some (pos (digit_at digits 0 * 100 + digit_at digits 1 * 10 + digit_at digits 2))) None)
    (and_from (nat_le 1 (length digits)) (nat_le (length digits) 9)
    (le-leb 1 (length digits) some) (le-leb (length digits) 9 few))
    ∙ ap (λ (n : ℕ). Some (pos n)) (fraction_value digits some)

-- what stands first in a zone, if anything does
abbrev IsZone : List ℕ → Type 0
IsZone [] = Unit {0}
IsZone (b ∷ bytes) = (is_ascii_digit b ≡ false) × ((b == 46) ≡ false) × ((b == 58) ≡ false)

zone_starts : (text : List ℕ) (ms : ℤ) → SpellsZone text ms → IsZone text
zone_starts text ms (inl (inl none, zero_is)) = rw none tt
zone_starts text ms (inl (inr utc, zero_is)) = rw utc (refl, refl, refl)
zone_starts text ms (inr (inl behind)) = rw behind.written (refl, refl, refl)
zone_starts text ms (inr (inr ahead)) = rw ahead.1.written (refl, refl, refl)

zone_read : (text : List ℕ) (ms : ℤ) → SpellsZone text ms → zone_of text ≡ Some ms
zone_read text ms (inl (inl none, zero_is)) = rw (none, zero_is) refl
zone_read text ms (inl (inr utc, zero_is)) = rw (utc, zero_is) refl
zone_read text ms (inr (inl behind)) =
    ap zone_of behind.written ∙ (clock_read behind.clock ms behind.clock_is).0
zone_read text ms (inr (inr ahead)) =
    ap zone_of ahead.1.written
    ∙ ap negative_of (clock_read ahead.1.clock ahead.0 ahead.1.clock_is).0
    ∙ ap Some (sym ahead.2)

-- a zone behind nothing, where a fraction or seconds could stand
zone_behind_seconds : (text : List ℕ) (ms : ℤ) → IsZone text → zone_of text ≡ Some ms
    → behind_seconds text ≡ Some ms
zone_behind_seconds [] ms starts e = e
zone_behind_seconds (b ∷ bytes) ms starts e = rw starts.1 e

zone_behind_minutes : (text : List ℕ) (ms : ℤ) → IsZone text → zone_of text ≡ Some ms
    → behind_minutes text ≡ Some ms
zone_behind_minutes [] ms starts e = e
zone_behind_minutes (b ∷ bytes) ms starts e = rw starts.2 e

run : (digits zone : List ℕ) → list_all is_ascii_digit digits ≡ true → IsZone zone
    → (take (prefix_len is_ascii_digit (digits ++ zone)) (digits ++ zone) ≡ digits)
    × (drop (prefix_len is_ascii_digit (digits ++ zone)) (digits ++ zone) ≡ zone)
run [] [] all starts = (refl, refl)
run [] (b ∷ zone) all starts = rw starts.0 (refl, refl)
run (d ∷ digits) zone all starts =
    let each = and_parts (is_ascii_digit d) (list_all is_ascii_digit digits) all in
    let further : 1 + prefix_len is_ascii_digit (digits ++ zone)
    ≡ suc (prefix_len is_ascii_digit (digits ++ zone)) = omega arith in
    let rest = run digits zone each.1 starts in
    rw (each.0, further) (ap (λ t. d ∷ t) rest.0, rest.1)

plus_zero : (z : ℤ) → pos 0 +ℤ z ≡ z
plus_zero z = omega (arith, signed_arith)

seconds_behind : (fraction zone : List ℕ) (part z : ℤ) → SpellsFraction fraction part → IsZone zone
    → zone_of zone ≡ Some z → behind_seconds (fraction ++ zone) ≡ Some (part +ℤ z)
seconds_behind fraction zone part z (inl none) starts e =
    rw (none.0, none.1) (zone_behind_seconds zone z starts e ∙ ap Some (sym (plus_zero z)))
seconds_behind fraction zone part z (inr s) starts e =
    let front = run s.digits zone s.are_digits starts in
    ap (λ t. behind_seconds (t ++ zone)) s.written
    ∙ ap (λ t. sum_of (fraction_of t)
    (zone_of (drop (prefix_len is_ascii_digit (s.digits ++ zone)) (s.digits ++ zone)))) front.0
    ∙ ap (λ t. sum_of (fraction_of s.digits) (zone_of t)) front.1
    ∙ ap (λ o. sum_of o (zone_of zone)) (fraction_read s.digits s.some s.few)
    ∙ ap (λ o. sum_of (Some (pos (fraction_ms s.digits))) o) e
    ∙ ap (λ n. Some (n +ℤ z)) s.value

seconds_joined : (two rest : List ℕ) → Two two
    → (take 2 (two ++ rest) ≡ two) × (drop 2 (two ++ rest) ≡ rest)
seconds_joined two rest s = rw s.is (refl, refl)

second_read : (text : List ℕ) (n : ℕ) → SpellsDigits 2 text n → n < 60
    → second_of text ≡ Some (pos (n * second_ms))
second_read text n s low =
    ap (λ (k : ℕ). cond (k == 2) (second_at (number_of text)) None) s.long
    ∙ ap second_at (digits_read 2 text n s)
    ∙ ap (λ t. cond t (Some (pos (n * second_ms))) None) (lt-ltb n 60 low)

minutes_behind : (seconds zone : List ℕ) (s z : ℤ) → SpellsSeconds seconds s → IsZone zone
    → zone_of zone ≡ Some z → behind_minutes (seconds ++ zone) ≡ Some (s +ℤ z)
minutes_behind seconds zone s z (inl none) starts e =
    rw (none.0, none.1) (zone_behind_minutes zone z starts e ∙ ap Some (sym (plus_zero z)))
minutes_behind seconds zone s z (inr m) starts e =
    let rest : List ℕ = m.fraction ++ zone in
    let joined = seconds_joined m.seconds_text (m.fraction ++ zone)
    (two_of m.seconds_text m.seconds_are.long) in
    let whole : seconds ++ zone ≡ 58 ∷ (m.seconds_text ++ (m.fraction ++ zone)) =
    ap (λ t. t ++ zone) m.written
    ∙ ap (λ t. 58 ∷ t) (append_assoc m.seconds_text m.fraction zone) in
    let sums : pos (m.seconds * second_ms) +ℤ (m.part +ℤ z) ≡ s +ℤ z =
    adds (pos (m.seconds * second_ms)) m.part z s m.value in
    ap behind_minutes whole
    ∙ ap (λ t. sum_of (second_of t)
    (behind_seconds (drop 2 (m.seconds_text ++ (m.fraction ++ zone))))) joined.0
    ∙ ap (λ t. sum_of (second_of m.seconds_text) (behind_seconds t)) joined.1
    ∙ ap (λ o. sum_of o (behind_seconds (m.fraction ++ zone)))
    (second_read m.seconds_text m.seconds m.seconds_are m.in_minute)
    ∙ ap (λ o. sum_of (Some (pos (m.seconds * second_ms))) o)
    (seconds_behind m.fraction zone m.part z m.fraction_is starts e)
    ∙ ap Some sums
  where
    adds : (a b c d : ℤ) → a +ℤ b ≡ d → a +ℤ (b +ℤ c) ≡ d +ℤ c
    adds a b c d h = omega (arith, signed_arith)

-- a front of so many
front : (n : ℕ) (xs ys : List ℕ) → length xs ≡ n
    → (take n (xs ++ ys) ≡ xs) × (drop n (xs ++ ys) ≡ ys)
front n xs ys e = (
  ap (λ (k : ℕ). take k (xs ++ ys)) (sym e)
      ∙ take_front xs ys,
  ap (λ (k : ℕ). drop k (xs ++ ys)) (sym e) ∙ drop_front xs ys,
)

time_read : (text : List ℕ) (ms : ℤ) → SpellsTime text ms → behind_date text ≡ Some ms
time_read text ms (inl none) = rw (none.0, none.1) refl
time_read text ms (inr t) =
    let clock = clock_read t.clock t.clock_ms t.clock_is in
    let rest : List ℕ = t.seconds ++ t.zone in
    ap behind_date t.written
    ∙ ap (λ x. sum_of (clock_of x) (behind_minutes (drop 5 (t.clock ++ (t.seconds ++ t.zone)))))
    (front 5 t.clock (t.seconds ++ t.zone) clock.1).0
    ∙ ap (λ x. sum_of (clock_of t.clock) (behind_minutes x))
    (front 5 t.clock (t.seconds ++ t.zone) clock.1).1
    ∙ ap (λ o. sum_of o (behind_minutes (t.seconds ++ t.zone))) clock.0
    ∙ ap (λ o. sum_of (Some t.clock_ms) o)
    (minutes_behind t.seconds t.zone t.seconds_ms t.zone_ms t.seconds_are
    (zone_starts t.zone t.zone_ms t.zone_is) (zone_read t.zone t.zone_ms t.zone_is))
    ∙ ap Some t.value

instant_read : (text : List ℕ) (at : ℤ) → SpellsInstant text at → instant_of text ≡ Some at
instant_read text at s =
    let date = date_read s.date s.date_ms s.date_is in
    ap instant_of s.written
    ∙ ap (λ x. instant_from (sum_of (date_of x) (behind_date (drop 10 (s.date ++ s.time)))))
    (front 10 s.date s.time date.1).0
    ∙ ap (λ x. instant_from (sum_of (date_of s.date) (behind_date x)))
    (front 10 s.date s.time date.1).1
    ∙ ap (λ o. instant_from (sum_of o (behind_date s.time))) date.0
    ∙ ap (λ o. instant_from (sum_of (Some s.date_ms) o)) (time_read s.time s.time_ms s.time_is)
    ∙ ap instant_at s.value ∙ instant_at-within at s.within

-- From the function to the parts.

no_value : (ms : ℤ) → None ≡ Some ms → ⊥
no_value ms e = cc

digits_split : (count : ℕ) (text : List ℕ) (n : ℕ) → length text ≡ count → number_of text ≡ Some n
    → SpellsDigits count text n
digits_split count text n long r = elim (cases_Bool (list_all is_ascii_digit text)) [
  | inl t ↦ record { long = long; are_digits = t; value = same (rw t at r) }
  | inr t ↦ absurd (none (rw t at r))
]
  where
    same : Some (fold next_digit 0 text) ≡ Some n → fold next_digit 0 text ≡ n
    same e = cc

    none : None ≡ Some n → ⊥
    none e = cc

record DateParts (y m d : Option ℕ) (ms : ℤ) : Type 0 where
  year : ℕ
  month : ℕ
  day : ℕ
  year_is : y ≡ Some year
  month_is : m ≡ Some month
  day_is : d ≡ Some day
  dated : is_date year month day ≡ true
  value : days_from_civil (pos year) month day *ℤ pos day_ms ≡ ms

date_at_split : (y m d : Option ℕ) (ms : ℤ) → date_at y m d ≡ Some ms → DateParts y m d ms
date_at_split (Some y) (Some m) (Some d) ms r = elim (cases_Bool (is_date y m d)) [
  | inl t ↦ record {
    year = y;
    month = m;
    day = d;
    year_is = refl;
    month_is = refl;
    day_is = refl;
    dated = t;
    value = same_some _ ms (rw t at r);
  }
  | inr t ↦ absurd (no_value ms (rw t at r))
]
date_at_split None m d ms r = absurd (no_value ms r)
date_at_split (Some y) None d ms r = absurd (no_value ms r)
date_at_split (Some y) (Some m) None ms r = absurd (no_value ms r)

date_of_ten : (text : List ℕ) (ms : ℤ) → length text ≡ 10 → slice_index text 4 ≡ 45
    → slice_index text 7 ≡ 45
    → date_at (number_of (slice_range text 0 4)) (number_of (slice_range text 5 7))
    (number_of (slice_range text 8 10)) ≡ Some ms → SpellsDate text ms
date_of_ten (a ∷ b ∷ c ∷ d ∷ e ∷ f ∷ g ∷ h ∷ i ∷ j ∷ []) ms long first second r =
    let p = date_at_split (number_of (a ∷ b ∷ c ∷ d ∷ [])) (number_of (f ∷ g ∷ []))
    (number_of (i ∷ j ∷ [])) ms r in
    let tests = and_parts (nat_le 1 p.month && nat_le p.month 12)
    (nat_le 1 p.day && nat_le p.day (days_of_month p.year p.month)) p.dated in
    let months = and_parts (nat_le 1 p.month) (nat_le p.month 12) tests.0 in
    let days = and_parts (nat_le 1 p.day) (nat_le p.day (days_of_month p.year p.month)) tests.1 in
    record {
      year = p.year;
      month = p.month;
      day = p.day;
      year_text = a ∷ b ∷ c ∷ d ∷ [];
      month_text = f ∷ g ∷ [];
      day_text = i ∷ j ∷ [];
      year_is = digits_split 4 (a ∷ b ∷ c ∷ d ∷ []) p.year refl p.year_is;
      month_is = digits_split 2 (f ∷ g ∷ []) p.month refl p.month_is;
      day_is = digits_split 2 (i ∷ j ∷ []) p.day refl p.day_is;
      in_year = (leb-true 1 p.month months.0, leb-true p.month 12 months.1);
      in_month = (leb-true 1 p.day days.0, leb-true p.day (days_of_month p.year p.month) days.1);
      value = p.value;
      written = ap (λ x. a ∷ b ∷ c ∷ d ∷ x ∷ f ∷ g ∷ h ∷ i ∷ j ∷ []) first
          ∙ ap (λ x. a ∷ b ∷ c ∷ d ∷ 45 ∷ f ∷ g ∷ x ∷ i ∷ j ∷ []) second;
    }
date_of_ten _ ms long first second r = absurd (omega (arith, long))

date_split : (text : List ℕ) (ms : ℤ) → date_of text ≡ Some ms → SpellsDate text ms
date_split text ms r =
    elim (cases_Bool
    ((length text == 10) && ((slice_index text 4 == 45) && (slice_index text 7 == 45)))) [
      | inl t ↦
          let tests = and_parts (length text == 10)
          ((slice_index text 4 == 45) && (slice_index text 7 == 45)) t in
          let dashes = and_parts (slice_index text 4 == 45) (slice_index text 7 == 45) tests.1 in
          date_of_ten text ms (eqb-true (length text) 10 tests.0)
          (eqb-true (slice_index text 4) 45 dashes.0)
          (eqb-true (slice_index text 7) 45 dashes.1) (rw t at r)
      | inr t ↦ absurd (no_value ms (rw t at r))
    ]

record ClockParts (h m : Option ℕ) (ms : ℤ) : Type 0 where
  hours : ℕ
  minutes : ℕ
  hours_are : h ≡ Some hours
  minutes_are : m ≡ Some minutes
  in_day : hours < 24
  in_hour : minutes < 60
  value : pos ((hours * 60 + minutes) * minute_ms) ≡ ms

clock_at_split : (h m : Option ℕ) (ms : ℤ) → clock_at h m ≡ Some ms → ClockParts h m ms
clock_at_split (Some h) (Some m) ms r = elim (cases_Bool (nat_lt h 24 && nat_lt m 60)) [
  | inl t ↦
      let tests = and_parts (nat_lt h 24) (nat_lt m 60) t in
      record {
        hours = h;
        minutes = m;
        hours_are = refl;
        minutes_are = refl;
        in_day = ltb-true h 24 tests.0;
        in_hour = ltb-true m 60 tests.1;
        value =
            same_some _ ms (rw t at r);
      }
  | inr t ↦ absurd (no_value ms (rw t at r))
]
clock_at_split None m ms r = absurd (no_value ms r)
clock_at_split (Some h) None ms r = absurd (no_value ms r)

clock_of_five : (text : List ℕ) (ms : ℤ) → length text ≡ 5 → slice_index text 2 ≡ 58
    → clock_at (number_of (slice_range text 0 2)) (number_of (slice_range text 3 5)) ≡ Some ms
    → SpellsClock text ms
clock_of_five (a ∷ b ∷ c ∷ d ∷ e ∷ []) ms long middle r =
    let p = clock_at_split (number_of (a ∷ b ∷ [])) (number_of (d ∷ e ∷ [])) ms r in record {
      hours = p.hours;
      minutes = p.minutes;
      hours_text = a ∷ b ∷ [];
      minutes_text = d ∷ e ∷ [];
      hours_are = digits_split 2 (a ∷ b ∷ []) p.hours refl p.hours_are;
      minutes_are = digits_split 2 (d ∷ e ∷ []) p.minutes refl p.minutes_are;
      in_day = p.in_day;
      in_hour = p.in_hour;
      value = p.value;
      written = ap (λ x. a ∷ b ∷ x ∷ d ∷ e ∷ []) middle;
    }
clock_of_five _ ms long middle r = absurd (omega (arith, long))

clock_split : (text : List ℕ) (ms : ℤ) → clock_of text ≡ Some ms → SpellsClock text ms
clock_split text ms r = elim (cases_Bool ((length text == 5) && (slice_index text 2 == 58))) [
  | inl t ↦
      let tests = and_parts (length text == 5) (slice_index text 2 == 58) t in
      clock_of_five text ms (eqb-true (length text) 5 tests.0)
      (eqb-true (slice_index text 2) 58 tests.1) (rw t at r)
  | inr t ↦ absurd (no_value ms (rw t at r))
]

negative_split : (o : Option ℤ) (ms : ℤ) → negative_of o ≡ Some ms
    → (ahead : ℤ) × (o ≡ Some ahead) × (ms ≡ neg_ℤ ahead)
negative_split None ms r = absurd (no_value ms r)
negative_split (Some a) ms r = (a, refl, sym (same_some (neg_ℤ a) ms r))

empty : (xs : List ℕ) → length xs ≡ 0 → xs ≡ []
empty [] e = refl
empty (x ∷ xs) e = absurd (omega (arith, e))

utc_split : (rest : List ℕ) (ms : ℤ) → cond (length rest == 0) (Some (pos 0)) None ≡ Some ms
    → (rest ≡ []) × (ms ≡ pos 0)
utc_split rest ms r = elim (cases_Bool (length rest == 0)) [
  | inl t ↦ (empty rest (eqb-true (length rest) 0 t), sym (same_some (pos 0) ms (rw t at r)))
  | inr t ↦ absurd (no_value ms (rw t at r))
]

shift_split : (sign mark : ℕ) (rest : List ℕ) (ms : ℤ) → mark ≡ sign → clock_of rest ≡ Some ms
    → MarksShift (mark ∷ rest) sign ms
shift_split sign mark rest ms e r =
    record { clock = rest; clock_is = clock_split rest ms r; written = ap (λ m. m ∷ rest) e }

ahead_split : (mark : ℕ) (rest : List ℕ) (ms : ℤ) → mark ≡ 43
    → negative_of (clock_of rest) ≡ Some ms → SpellsShift (mark ∷ rest) ms
ahead_split mark rest ms e r = let p = negative_split (clock_of rest) ms r in
    inr (p.0, shift_split 43 mark rest p.0 e p.1, p.2)

zone_split : (text : List ℕ) (ms : ℤ) → zone_of text ≡ Some ms → SpellsZone text ms
zone_split [] ms r = inl (inl refl, sym (same_some (pos 0) ms r))
zone_split (mark ∷ rest) ms r = elim (cases_Bool (mark == 90)) [
  | inl z ↦ let p = utc_split rest ms (rw z at r) in
      inl (inr (ap (λ m. m ∷ rest) (eqb-true mark 90 z) ∙ ap (λ t. 90 ∷ t) p.0), p.1)
  | inr z ↦ elim (cases_Bool (mark == 43)) [
    | inl p ↦ inr (ahead_split mark rest ms (eqb-true mark 43 p) (rw (z, p) at r))
    | inr p ↦ elim (cases_Bool (mark == 45)) [
      | inl m ↦ inr (inl (shift_split 45 mark rest ms (eqb-true mark 45 m) (rw (z, p, m) at r)))
      | inr m ↦ absurd (no_value ms (rw (z, p, m) at r))
    ]
  ]
]

record Sum (o p : Option ℤ) (ms : ℤ) : Type 0 where
  a : ℤ
  b : ℤ
  first : o ≡ Some a
  second : p ≡ Some b
  value : a +ℤ b ≡ ms

sum_split : (o p : Option ℤ) (ms : ℤ) → sum_of o p ≡ Some ms → Sum o p ms
sum_split (Some a) (Some b) ms r =
    record { a = a; b = b; first = refl; second = refl; value = same_some (a +ℤ b) ms r }
sum_split None p ms r = absurd (no_value ms r)
sum_split (Some a) None ms r = absurd (no_value ms r)

-- a part in front of a zone
record Front (Spells : List ℕ → ℤ → Type 0) (text : List ℕ) (ms : ℤ) : Type 0 where
  part : List ℕ
  zone : List ℕ
  part_ms : ℤ
  zone_ms : ℤ
  part_is : Spells part part_ms
  zone_is : SpellsZone zone zone_ms
  value : part_ms +ℤ zone_ms ≡ ms
  written : text ≡ part ++ zone

digits_in_front : (bytes : List ℕ)
    → list_all is_ascii_digit (take (prefix_len is_ascii_digit bytes) bytes) ≡ true
digits_in_front [] = refl
digits_in_front (b ∷ bytes) = elim (cases_Bool (is_ascii_digit b)) [
  | inl t ↦ rw (t, further bytes) (rw t (digits_in_front bytes))
  | inr t ↦ rw t refl
]
  where
    further : (bytes : List ℕ)
        → 1 + prefix_len is_ascii_digit bytes ≡ suc (prefix_len is_ascii_digit bytes)
    further bytes = omega arith

fraction_split : (digits : List ℕ) (ms : ℤ) → list_all is_ascii_digit digits ≡ true
    → fraction_of digits ≡ Some ms → MarksFraction (46 ∷ digits) ms
fraction_split digits ms all r =
    elim (cases_Bool (nat_le 1 (length digits) && nat_le (length digits) 9)) [
      | inl t ↦
          let tests = and_parts (nat_le 1 (length digits)) (nat_le (length digits) 9) t in
          let some : 1 ≤ length digits = leb-true 1 (length digits) tests.0 in
          let few : length digits ≤ 9 = leb-true (length digits) 9 tests.1 in
          record {
            digits = digits;
            are_digits = all;
            some = some;
            few = few;
            value = same_some (pos (fraction_ms digits)) ms
                (sym (fraction_read digits some few) ∙ r);
            written = refl;
          }
      | inr t ↦ absurd (no_value ms (rw t at r))
    ]

zone_alone : (Spells : List ℕ → ℤ → Type 0) → Spells [] (pos 0) → (text : List ℕ) (ms : ℤ)
    → zone_of text ≡ Some ms → Front Spells text ms
zone_alone Spells none text ms r =
    record {
      part = [];
      zone = text;
      part_ms = pos 0;
      zone_ms = ms;
      part_is = none;
      zone_is = zone_split text ms r;
      value = plus_zero ms;
      written = refl;
    }

seconds_split : (text : List ℕ) (ms : ℤ) → behind_seconds text ≡ Some ms
    → Front SpellsFraction text ms
seconds_split [] ms r = zone_alone SpellsFraction (inl (refl, refl)) [] ms r
seconds_split (mark ∷ rest) ms r = elim (cases_Bool (mark == 46)) [
  | inl t ↦ pointed (eqb-true mark 46 t)
      (sum_split (fraction_of (take (prefix_len is_ascii_digit rest) rest))
      (zone_of (drop (prefix_len is_ascii_digit rest) rest)) ms (rw t at r))
  | inr t ↦ zone_alone SpellsFraction (inl (refl, refl)) (mark ∷ rest) ms (rw t at r)
]
  where
    pointed : mark ≡ 46
        → Sum (fraction_of (take (prefix_len is_ascii_digit rest) rest))
        (zone_of (drop (prefix_len is_ascii_digit rest) rest)) ms
        → Front SpellsFraction (mark ∷ rest) ms
    pointed e p = record {
      part = 46 ∷ take (prefix_len is_ascii_digit rest) rest;
      zone = drop (prefix_len is_ascii_digit rest) rest;
      part_ms = p.a;
      zone_ms = p.b;
      part_is = inr (fraction_split (take (prefix_len is_ascii_digit rest) rest) p.a
          (digits_in_front rest) p.first);
      zone_is = zone_split (drop (prefix_len is_ascii_digit rest) rest) p.b p.second;
      value = p.value;
      written = ap (λ m. m ∷ rest) e
          ∙ ap (λ t. 46 ∷ t) (sym (take-append-drop (prefix_len is_ascii_digit rest) rest));
    }

second_at_split : (o : Option ℕ) (ms : ℤ) → second_at o ≡ Some ms
    → (n : ℕ) × (o ≡ Some n) × (n < 60) × (pos (n * second_ms) ≡ ms)
second_at_split None ms r = absurd (no_value ms r)
second_at_split (Some n) ms r = elim (cases_Bool (nat_lt n 60)) [
  | inl t ↦ (n, refl, ltb-true n 60 t, same_some (pos (n * second_ms)) ms (rw t at r))
  | inr t ↦ absurd (no_value ms (rw t at r))
]

second_split : (text : List ℕ) (ms : ℤ) → second_of text ≡ Some ms
    → (n : ℕ) × SpellsDigits 2 text n × (n < 60) × (pos (n * second_ms) ≡ ms)
second_split text ms r = elim (cases_Bool (length text == 2)) [
  | inl t ↦ let p = second_at_split (number_of text) ms (rw t at r) in
      (p.0, digits_split 2 text p.0 (eqb-true (length text) 2 t) p.1, p.2, p.3)
  | inr t ↦ absurd (no_value ms (rw t at r))
]

minutes_split : (text : List ℕ) (ms : ℤ) → behind_minutes text ≡ Some ms
    → Front SpellsSeconds text ms
minutes_split [] ms r = zone_alone SpellsSeconds (inl (refl, refl)) [] ms r
minutes_split (mark ∷ rest) ms r = elim (cases_Bool (mark == 58)) [
  | inl t ↦ marked (eqb-true mark 58 t)
      (sum_split (second_of (take 2 rest)) (behind_seconds (drop 2 rest)) ms (rw t at r))
  | inr t ↦ zone_alone SpellsSeconds (inl (refl, refl)) (mark ∷ rest) ms (rw t at r)
]
  where
    adds : (a b c d m : ℤ) → a +ℤ d ≡ m → b +ℤ c ≡ d → a +ℤ b +ℤ c ≡ m
    adds a b c d m g h = omega (arith, signed_arith)

    marked : mark ≡ 58 → Sum (second_of (take 2 rest)) (behind_seconds (drop 2 rest)) ms
        → Front SpellsSeconds (mark ∷ rest) ms
    marked e p =
        let s = second_split (take 2 rest) p.a p.first in
        let f = seconds_split (drop 2 rest) p.b p.second in record {
          part = 58 ∷ (take 2 rest ++ f.part);
          zone = f.zone;
          part_ms = p.a +ℤ f.part_ms;
          zone_ms = f.zone_ms;
          part_is = inr (record {
            seconds = s.0;
            seconds_text = take 2 rest;
            fraction = f.part;
            part = f.part_ms;
            seconds_are = s.1;
            in_minute = s.2;
            fraction_is = f.part_is;
            value =
                ap (λ n. n +ℤ f.part_ms) s.3;
            written = refl;
          });
          zone_is = f.zone_is;
          value = adds p.a f.part_ms f.zone_ms p.b ms p.value f.value;
          written = ap (λ m. m ∷ rest) e
              ∙ ap (λ t. 58 ∷ t)
              (sym (take-append-drop 2 rest) ∙ ap (λ t. take 2 rest ++ t) f.written
              ∙ sym (append_assoc (take 2 rest) f.part f.zone));
        }

time_split : (text : List ℕ) (ms : ℤ) → behind_date text ≡ Some ms → SpellsTime text ms
time_split [] ms r = inl (refl, sym (same_some (pos 0) ms r))
time_split (mark ∷ rest) ms r = elim (cases_Bool (mark == 84)) [
  | inl t ↦ inr (marked (eqb-true mark 84 t)
      (sum_split (clock_of (take 5 rest)) (behind_minutes (drop 5 rest)) ms (rw t at r)))
  | inr t ↦ absurd (no_value ms (rw t at r))
]
  where
    marked : mark ≡ 84 → Sum (clock_of (take 5 rest)) (behind_minutes (drop 5 rest)) ms
        → MarksTime (mark ∷ rest) ms
    marked e p =
        let m = minutes_split (drop 5 rest) p.b p.second in record {
          clock = take 5 rest;
          seconds = m.part;
          zone = m.zone;
          clock_ms = p.a;
          seconds_ms = m.part_ms;
          zone_ms = m.zone_ms;
          clock_is = clock_split (take 5 rest) p.a p.first;
          seconds_are = m.part_is;
          zone_is = m.zone_is;
          value = ap (λ n. p.a +ℤ n) m.value ∙ p.value;
          written = ap (λ x. x ∷ rest) e
              ∙ ap (λ t. 84 ∷ t)
              (sym (take-append-drop 5 rest) ∙ ap (λ t. take 5 rest ++ t) m.written);
        }

is_instant-true : (ms : ℤ) → is_instant ms ≡ true → IsInstant ms
is_instant-true ms t =
    let tests = and_parts (int_le (neg_ℤ (pos ms_before_1970)) ms)
    (int_le ms (pos last_instant)) t in
    (le_from (neg_ℤ (pos ms_before_1970)) ms tests.0, le_from ms (pos last_instant) tests.1)

within_split : (o : Option ℤ) (at : ℤ) → instant_from o ≡ Some at → (o ≡ Some at) × IsInstant at
within_split None at r = absurd (no_value at r)
within_split (Some ms) at r = elim (cases_Bool (is_instant ms)) [
  | inl t ↦
      let same : ms ≡ at = same_some ms at (rw t at r) in
      (ap Some same, subst IsInstant same (is_instant-true ms t))
  | inr t ↦ absurd (no_value at (rw t at r))
]

instant_split : (text : List ℕ) (at : ℤ) → instant_of text ≡ Some at → SpellsInstant text at
instant_split text at r =
    let whole = within_split (sum_of (date_of (take 10 text)) (behind_date (drop 10 text))) at r in
    let p = sum_split (date_of (take 10 text)) (behind_date (drop 10 text)) at whole.0 in record {
      date = take 10 text;
      time = drop 10 text;
      date_ms = p.a;
      time_ms = p.b;
      date_is = date_split (take 10 text) p.a p.first;
      time_is = time_split (drop 10 text) p.b p.second;
      value = p.value;
      within = whole.1;
      written = sym (take-append-drop 10 text);
    }

-- The laws.

pub instant_is_spelled : (text : List ℕ) (at : ℤ)
    → SpellsInstant text at ↔ (instant_of text ≡ Some at)
instant_is_spelled text at = (instant_read text at, instant_split text at)

pub one_instant : (text : List ℕ) (a b : ℤ) → SpellsInstant text a → SpellsInstant text b → a ≡ b
one_instant text a b s t = same_some a b (sym (instant_read text a s) ∙ instant_read text b t)

-- the bytes of each part are bytes of instants
abbrev HaveInstantBytes : List ℕ → Type 0
HaveInstantBytes bytes = list_all is_instant_byte bytes ≡ true

join : (xs ys : List ℕ) → HaveInstantBytes xs → HaveInstantBytes ys → HaveInstantBytes (xs ++ ys)
join xs ys a b =
    list_all-append is_instant_byte xs ys
    ∙ and_from (list_all is_instant_byte xs) (list_all is_instant_byte ys) a b

digit_bytes : (ds : List ℕ) → list_all is_ascii_digit ds ≡ true → HaveInstantBytes ds
digit_bytes [] all = refl
digit_bytes (d ∷ ds) all =
    let each = and_parts (is_ascii_digit d) (list_all is_ascii_digit ds) all in
    and_from (is_instant_byte d) (list_all is_instant_byte ds) (digit_byte d each.0)
    (digit_bytes ds each.1)
  where
    digit_byte : (d : ℕ) → is_ascii_digit d ≡ true → is_instant_byte d ≡ true
    digit_byte d e = rw e refl

date_bytes : (text : List ℕ) (ms : ℤ) → SpellsDate text ms → HaveInstantBytes text
date_bytes text ms s =
    rw s.written (join s.year_text (45 ∷ (s.month_text ++ (45 ∷ s.day_text)))
    (digit_bytes s.year_text s.year_is.are_digits)
    (join s.month_text (45 ∷ s.day_text) (digit_bytes s.month_text s.month_is.are_digits)
    (digit_bytes s.day_text s.day_is.are_digits)))

clock_bytes : (text : List ℕ) (ms : ℤ) → SpellsClock text ms → HaveInstantBytes text
clock_bytes text ms s =
    rw s.written (join s.hours_text (58 ∷ s.minutes_text)
    (digit_bytes s.hours_text s.hours_are.are_digits)
    (digit_bytes s.minutes_text s.minutes_are.are_digits))

fraction_bytes : (text : List ℕ) (ms : ℤ) → SpellsFraction text ms → HaveInstantBytes text
fraction_bytes text ms (inl none) = rw none.0 refl
fraction_bytes text ms (inr s) = rw s.written (digit_bytes s.digits s.are_digits)

seconds_bytes : (text : List ℕ) (ms : ℤ) → SpellsSeconds text ms → HaveInstantBytes text
seconds_bytes text ms (inl none) = rw none.0 refl
seconds_bytes text ms (inr s) =
    rw s.written (join s.seconds_text s.fraction
    (digit_bytes s.seconds_text s.seconds_are.are_digits)
    (fraction_bytes s.fraction s.part s.fraction_is))

zone_bytes : (text : List ℕ) (ms : ℤ) → SpellsZone text ms → HaveInstantBytes text
zone_bytes text ms (inl (inl none, zero_is)) = rw none refl
zone_bytes text ms (inl (inr utc, zero_is)) = rw utc refl
zone_bytes text ms (inr (inl behind)) =
    rw behind.written (clock_bytes behind.clock ms behind.clock_is)
zone_bytes text ms (inr (inr ahead)) =
    rw ahead.1.written (clock_bytes ahead.1.clock ahead.0 ahead.1.clock_is)

time_bytes : (text : List ℕ) (ms : ℤ) → SpellsTime text ms → HaveInstantBytes text
time_bytes text ms (inl none) = rw none.0 refl
time_bytes text ms (inr t) =
    rw t.written (join t.clock (t.seconds ++ t.zone) (clock_bytes t.clock t.clock_ms t.clock_is)
    (join t.seconds t.zone (seconds_bytes t.seconds t.seconds_ms t.seconds_are)
    (zone_bytes t.zone t.zone_ms t.zone_is)))

pub spelled_bytes : (text : List ℕ) (at : ℤ) → SpellsInstant text at
    → list_all is_instant_byte text ≡ true
spelled_bytes text at s =
    rw s.written (join s.date s.time (date_bytes s.date s.date_ms s.date_is)
    (time_bytes s.time s.time_ms s.time_is))

pub spelled_length : (text : List ℕ) (at : ℤ) → SpellsInstant text at → 10 ≤ length text
spelled_length text at s =
    let date : length s.date ≡ 10 = (date_read s.date s.date_ms s.date_is).1 in
    omega (arith, ap length s.written, length-append s.date s.time)

-- a byte that is none of instants stands in no text of one
apart : (byte : ℕ) (text : List ℕ) → HaveInstantBytes text → is_instant_byte byte ≡ false
    → list_any (λ b. b == byte) text ≡ false
apart byte [] all other = refl
apart byte (b ∷ bytes) all other =
    let each = and_parts (is_instant_byte b) (list_all is_instant_byte bytes) all in
    or_from (b == byte) (list_any (λ b. b == byte) bytes) (differ each.0)
    (apart byte bytes each.1 other)
  where
    differ : is_instant_byte b ≡ true → (b == byte) ≡ false
    differ e = ne_eqb b byte
        (λ same. both_ways (is_instant_byte byte) other (ap is_instant_byte (sym same) ∙ e))

pub spelled_lacks : (text : List ℕ) (at : ℤ) (byte : ℕ) → SpellsInstant text at
    → is_instant_byte byte ≡ false → list_any (λ b. b == byte) text ≡ false
spelled_lacks text at byte s other = apart byte text (spelled_bytes text at s) other

pub instant_is_tested : (ms : ℤ) → IsInstant ms ↔ (is_instant ms ≡ true)
instant_is_tested ms = (from_bounds, is_instant-true ms)
  where
    from_bounds : IsInstant ms → is_instant ms ≡ true
    from_bounds h =
        and_from (int_le (neg_ℤ (pos ms_before_1970)) ms) (int_le ms (pos last_instant))
        (le_to (neg_ℤ (pos ms_before_1970)) ms h.0) (le_to ms (pos last_instant) h.1)

-- a printed instant
pub printed_is_spelled : (at : ℤ) → IsInstant at → SpellsInstant (instant_text at) at
printed_is_spelled at h = instant_split (instant_text at) at (round_trip at h)
