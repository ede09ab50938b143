-- The intervals of a filter: where the default date is to be looked for.
use Rattle.std.specs.Prelude.{ℕ, true, ℤ, pos, ◌+ℤ◌, ◌-ℤ◌, List, [], ◌∷◌, ◌++◌, Option, Some, None}
use Rattle.gm_types.specs.Specification.{Specification, default_date_of}
use Rattle.gm_filter.specs.declared.filter.Op.{Op}
use Rattle.gm_filter.specs.declared.filter.Op.TheVariants.{Eq, Ne, Lt, Le, Gt, Ge}
use Rattle.gm_filter.specs.declared.filter.Literal.{Literal}
use Rattle.gm_filter.specs.declared.filter.Literal.TheVariants as literal
use Rattle.gm_filter.specs.Tree.{Tree, compare, between, one_of, during, before, after, tequals}
use Rattle.gm_bounds.specs.declared.bound.Bound.{Bound}
use Rattle.gm_bounds.specs.declared.bound.Bound.TheVariants.{World}
use Rattle.gm_bounds.specs.declared.interval.Interval.{Interval}
use Rattle.gm_bounds.specs.Bound.{Rules, bound_of, on}
use Rattle.gm_bounds.specs.Lists.{single, listed, capped, meeting}
use Rattle.gm_bounds.specs.Interval.{interval, met, joined, is_void}

-- the bound of one interval
abbrev pub lasting : Option ℤ → Option ℤ → Bound Interval
lasting low high = single is_void (interval low high)

-- what compares so with an instant
abbrev pub dated : Op → ℤ → Bound Interval
dated Eq at = lasting (Some at) (Some at)
dated Ne at = World
dated Lt at = lasting None (Some (at -ℤ pos 1))
dated Le at = lasting None (Some at)
dated Gt at = lasting (Some (at +ℤ pos 1)) None
dated Ge at = lasting (Some at) None

abbrev pub compared : Op → Literal → Bound Interval
compared op (literal.Date at) = dated op at
compared op (literal.Number n) = World
compared op (literal.Text t) = World
compared op (literal.Truth b) = World

abbrev pub lying_between : Literal → Literal → Bound Interval
lying_between (literal.Date low) (literal.Date high) = lasting (Some low) (Some high)
lying_between _ _ = World

-- an instant
abbrev pub instant_of : Literal → List Interval
instant_of (literal.Date at) = interval (Some at) (Some at) ∷ []
instant_of (literal.Number n) = []
instant_of (literal.Text t) = []
instant_of (literal.Truth b) = []

-- the instants among the literals
abbrev pub instants_of : List Literal → List Interval
instants_of [] = []
instants_of (l ∷ literals) = instant_of l ++ instants_of literals

-- of a test, where attribute d is the default date
abbrev pub interval_test : ℕ → Tree → Bound Interval
interval_test d (compare a op l) = on a d (compared op l)
interval_test d (between a low high) = on a d (lying_between low high)
interval_test d (one_of a literals) = on a d (listed is_void joined (instants_of literals))
interval_test d (during a low high) = on a d (lasting (Some (low +ℤ pos 1)) (Some (high -ℤ pos 1)))
interval_test d (before a at) = on a d (dated Lt at)
interval_test d (after a at) = on a d (dated Gt at)
interval_test d (tequals a at) = on a d (dated Eq at)
interval_test d _ = World

abbrev pub interval_rules : ℕ → Rules Interval
interval_rules d =
    record {
      test = interval_test d;
      met = meeting true met is_void joined;
      counted = capped joined;
    }

abbrev pub intervals_at : Option ℕ → Tree → Bound Interval
intervals_at None t = World
intervals_at (Some d) t = bound_of (interval_rules d) t

-- the world where the type has no default date
abbrev pub intervals_of : Specification → Tree → Bound Interval
intervals_of s t = intervals_at (default_date_of s) t
