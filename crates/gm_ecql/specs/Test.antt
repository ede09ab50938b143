-- A test as it is written, before a type is looked at.
use Rattle.std.specs.Prelude.{ℕ, Bool, List, ℤ, Option, option_map, map}
use Rattle.gm_filter.specs.declared.filter.Op.{Op}
use Rattle.gm_ecql.specs.declared.test.Constant.{Constant}
use Rattle.gm_ecql.specs.declared.test.Constant.TheVariants as code_constant
use Rattle.gm_ecql.specs.declared.test.Relation.{Relation}
use Rattle.gm_ecql.specs.declared.test.Timing.{Timing}
use Rattle.gm_ecql.specs.declared.test.Corners.{Corners}
use Rattle.gm_ecql.specs.declared.test.Asked.{Asked}
use Rattle.gm_ecql.specs.declared.test.Asked.TheVariants as code_asked
use Rattle.gm_ecql.specs.declared.test.Test.{Test}
use Rattle.gm_ecql.specs.declared.test.Test.TheVariants as code_test
use Rattle.gm_ecql.specs.Token.{Seen, undoubled, seen_all}

-- a literal
pub data Written : Type 0 where
  of_text : List ℕ → Written
  of_number : List ℕ → Written
  of_instant : ℤ → Written
  of_truth : Bool → Written

-- the four numbers of a box
pub record Sides : Type 0 where
  pub west : List ℕ
  pub south : List ℕ
  pub east : List ℕ
  pub north : List ℕ

-- what is asked of an attribute; a Bool says whether the test is negated
pub data Question : Type 0 where
  in_box : Sides → Option (List ℕ) → Question
  related : Relation → List Seen → Question
  compared : Op → Written → Question
  between : Bool → Written → Written → Question
  like : Bool → List ℕ → Question
  one_of : Bool → List Written → Question
  null : Bool → Question
  during : ℤ → ℤ → Question
  timed : Timing → ℤ → Question

-- a test of no value, of identifiers, or of the attribute with a name
pub data Trial : Type 0 where
  include : Trial
  exclude : Trial
  ids : List (List ℕ) → Trial
  named : List ℕ → Question → Trial

-- what contracts see of the code's types
abbrev pub constant_seen : Constant → Written
constant_seen (code_constant.Text t) = of_text (undoubled t.now)
constant_seen (code_constant.Number n) = of_number n.now
constant_seen (code_constant.Instant at) = of_instant at.now
constant_seen (code_constant.Truth b) = of_truth b

abbrev pub corners_seen : Corners → Sides
corners_seen c =
    record { west = c.low_x.now; south = c.low_y.now; east = c.high_x.now; north = c.high_y.now }

abbrev pub asked_seen : Asked → Question
asked_seen (code_asked.Bbox c system) =
    in_box (corners_seen c) (option_map (λ t. undoubled t.now) system)
asked_seen (code_asked.Related r piece) = related r (seen_all piece.tokens.now)
asked_seen (code_asked.Compared op c) = compared op (constant_seen c)
asked_seen (code_asked.Between n low high) = between n (constant_seen low) (constant_seen high)
asked_seen (code_asked.Like n pattern) = like n (undoubled pattern.now)
asked_seen (code_asked.OneOf n cs) = one_of n (map constant_seen cs.items)
asked_seen (code_asked.Null n) = null n
asked_seen (code_asked.During low high) = during low.now high.now
asked_seen (code_asked.Timed t at) = timed t at.now

abbrev pub test_seen : Test → Trial
test_seen code_test.Include = include
test_seen code_test.Exclude = exclude
test_seen (code_test.Ids texts) = ids (map (λ t. undoubled t.now) texts.items)
test_seen (code_test.Named name q) = named name.now (asked_seen q)
