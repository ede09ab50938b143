-- The Gregorian calendar, for the years from 0000 on.
use Rattle.std.specs.Prelude.{ℕ, zero, suc, ◌+◌, ◌-◌, ◌%◌, Bool, not, ◌&&◌, ◌||◌, ◌==◌, nat_lt}
use Rattle.std.specs.Prelude.{if◌then◌else◌, Option, Some, None}

-- every fourth year, but of the centuries only every fourth
abbrev pub is_leap : ℕ → Bool
is_leap year = (year % 4 == 0) && (not (year % 100 == 0) || (year % 400 == 0))

abbrev pub days_of_year : ℕ → ℕ
days_of_year year = if is_leap year then 366 else 365

-- thirty days have September, April, June and November
abbrev pub days_of_month : ℕ → ℕ → ℕ
days_of_month year month =
    if month == 2 then (if is_leap year then 29 else 28)
    else (if (month == 4) || (month == 6) || (month == 9) || (month == 11) then 30 else 31)

-- spans of those lengths lie end to end: the span in which a time falls, and the time since its
-- start. The spans are that many, the first has the number `from`, and the time counts from its
-- start
unfoldable pub span_at : (ℕ → ℕ) → ℕ → ℕ → ℕ → Option (ℕ × ℕ)
span_at length zero from time = None
span_at length (suc spans) from time =
    if nat_lt time (length from)
    then Some (from, time)
    else span_at length spans (from + 1) (time - length from)

-- a month by its number from 0
abbrev pub days_of_nth_month : ℕ → ℕ → ℕ
days_of_nth_month year n = days_of_month year (n + 1)
