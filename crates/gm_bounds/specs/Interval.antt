-- Intervals of time: closed, in milliseconds. Where an end is missing they go on.
use Rattle.std.specs.Prelude.{ℤ, Bool, true, false, ◌&&◌, int_lt, int_le, Option, Some, None}
use Rattle.std.specs.Int.{int_min, int_max}
use Rattle.gm_feature.specs.declared.value.Value.{Value}
use Rattle.gm_feature.specs.declared.value.Value.TheVariants as value
use Rattle.gm_bounds.specs.declared.interval.Interval.{Interval}

abbrev pub interval : Option ℤ → Option ℤ → Interval
interval low high = record { low = low; high = high }

abbrev pub greater_if_any : Option ℤ → Option ℤ → Option ℤ
greater_if_any None n = n
greater_if_any (Some m) None = Some m
greater_if_any (Some m) (Some n) = Some (int_max m n)

abbrev pub less_if_any : Option ℤ → Option ℤ → Option ℤ
less_if_any None n = n
less_if_any (Some m) None = Some m
less_if_any (Some m) (Some n) = Some (int_min m n)

abbrev pub less_if_both : Option ℤ → Option ℤ → Option ℤ
less_if_both None n = None
less_if_both (Some m) None = None
less_if_both (Some m) (Some n) = Some (int_min m n)

abbrev pub greater_if_both : Option ℤ → Option ℤ → Option ℤ
greater_if_both None n = None
greater_if_both (Some m) None = None
greater_if_both (Some m) (Some n) = Some (int_max m n)

-- the time in both
abbrev pub met : Interval → Interval → Interval
met i j = interval (greater_if_any i.low j.low) (less_if_any i.high j.high)

-- the least interval that holds both; an end that is missing stays missing
abbrev pub joined : Interval → Interval → Interval
joined i j = interval (less_if_both i.low j.low) (greater_if_both i.high j.high)

abbrev pub is_void_between : Option ℤ → Option ℤ → Bool
is_void_between None high = false
is_void_between (Some low) None = false
is_void_between (Some low) (Some high) = int_lt high low

-- it ends before it begins
abbrev pub is_void : Interval → Bool
is_void i = is_void_between i.low i.high

abbrev pub has_begun : Option ℤ → ℤ → Bool
has_begun None at = true
has_begun (Some low) at = int_le low at

abbrev pub has_not_ended : Option ℤ → ℤ → Bool
has_not_ended None at = true
has_not_ended (Some high) at = int_le at high

-- the instant is in the interval
abbrev pub is_in : ℤ → Interval → Bool
is_in at i = has_begun i.low at && has_not_ended i.high at

-- the value is an instant in the interval
abbrev pub is_date_in : Value → Interval → Bool
is_date_in (value.Date at) i = is_in at i
is_date_in _ i = false
