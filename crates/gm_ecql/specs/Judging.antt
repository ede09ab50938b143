-- What a test that is written asks of a type: the filter that it stands for, and its first faults.
use Rattle.std.specs.Prelude.{ℕ, ◌^◌, ◌&&◌, Bool, true, false, nat_le}
use Rattle.std.specs.Prelude.{if◌then◌else◌, List, [], ◌∷◌, length, codes, ℤ, Option, Some, None}
use Rattle.std.specs.Prelude.{Result, Ok, Err, option_map, is_some}
use Rattle.std.specs.List.{list_all}
use Rattle.std.specs.Char.{is_ascii_digit}
use Rattle.std.specs.Str.{bytes_eq}
use Rattle.std.specs.Str.Parse.{signed_digits_value, without_leading_sign}
use Rattle.gm_geom.specs.declared.geometry.Geometry.{Geometry}
use Rattle.gm_geom.specs.declared.number.NumberFault.{NumberFault}
use Rattle.gm_geom.specs.declared.point.Point.{Point}
use Rattle.gm_geom.specs.declared.point.Box2.{Box2}
use Rattle.gm_geom.specs.Number.{fixed_of}
use Rattle.gm_calendar.specs.Spelling.{instant_of}
use Rattle.gm_types.specs.declared.kind.Kind.{Kind}
use Rattle.gm_types.specs.Kind.{is_date}
use Rattle.gm_types.specs.Specification.{Specification, place_of_name, kind_at}
use Rattle.gm_feature.specs.Value.{is_below}
use Rattle.gm_filter.specs.declared.filter.Op.{Op}
use Rattle.gm_filter.specs.declared.filter.Literal.{Literal}
use Rattle.gm_filter.specs.declared.filter.Literal.TheVariants as literal
use Rattle.gm_filter.specs.Suitability.{suits}
use Rattle.gm_filter.specs.Tree as tree
use Rattle.gm_filter.specs.Tree.{Tree}
use Rattle.gm_ecql.specs.declared.judging.Faults.{Faults}
use Rattle.gm_ecql.specs.declared.judging.Found.{Found}
use Rattle.gm_ecql.specs.declared.test.Relation.{Relation}
use Rattle.gm_ecql.specs.declared.test.Relation.TheVariants as relation
use Rattle.gm_ecql.specs.declared.test.Timing.{Timing}
use Rattle.gm_ecql.specs.declared.test.Timing.TheVariants as timing
use Rattle.gm_ecql.specs.Geometry.{geometry_of}
use Rattle.gm_ecql.specs.Test.{Written, of_text, of_number, of_instant, of_truth, Sides, Question}
use Rattle.gm_ecql.specs.Test.{in_box, related, compared, between, like, one_of, null, during}
use Rattle.gm_ecql.specs.Test.{timed, Trial, include, exclude, ids, named}
use Rattle.gm_ecql.specs.Token.{Seen}

-- the first name that is no attribute, and the attribute of the first test that breaks a rule
pub record NameFaults : Type 0 where
  pub unknown : Option (List ℕ)
  pub bad : Option (List ℕ)

-- the tree of what is written, where it has no faults, and its faults
pub record Judged : Type 0 where
  pub meaning : Tree
  pub faults : NameFaults

abbrev pub faultless : NameFaults
faultless = record { unknown = None; bad = None }

abbrev pub first_name : Option (List ℕ) → Option (List ℕ) → Option (List ℕ)
first_name None later = later
first_name (Some name) later = Some name

-- the first faults of both, the one written before the other
abbrev pub first_faults : NameFaults → NameFaults → NameFaults
first_faults earlier later =
    record {
      unknown = first_name earlier.unknown later.unknown;
      bad = first_name earlier.bad later.bad;
    }

abbrev pub sound : Tree → Judged
sound t = record { meaning = t; faults = faultless }

abbrev pub unknown : List ℕ → Judged
unknown name =
    record { meaning = tree.exclude; faults = record { unknown = Some name; bad = None } }

abbrev pub bad : List ℕ → Judged
bad name = record { meaning = tree.exclude; faults = record { unknown = None; bad = Some name } }

abbrev pub is_date_kind : Option Kind → Bool
is_date_kind None = false
is_date_kind (Some k) = is_date k

-- an optional sign and digits, of a value in 64 bits
abbrev pub is_whole : List ℕ → Bool
is_whole bytes =
    nat_le 1 (length (without_leading_sign bytes))
    && list_all is_ascii_digit (without_leading_sign bytes)

unfoldable pub whole_of : List ℕ → Option ℤ
whole_of bytes =
    if is_whole bytes && is_below (2 ^ 63) (signed_digits_value 10 bytes)
    then Some (signed_digits_value 10 bytes) else None

-- of an attribute of dates a text stands for the instant that it spells
abbrev pub text_literal : Bool → List ℕ → Option Literal
text_literal false text = Some (literal.Text text)
text_literal true text = option_map (λ at. literal.Date at) (instant_of text)

-- the literal that is meant, if there is one; the Bool says whether the attribute is of dates
abbrev pub literal_of : Bool → Written → Option Literal
literal_of date (of_text t) = text_literal date t
literal_of date (of_number n) = option_map (λ z. literal.Number z) (whole_of n)
literal_of date (of_instant at) = Some (literal.Date at)
literal_of date (of_truth b) = Some (literal.Truth b)

abbrev pub add_first : Option Literal → Option (List Literal) → Option (List Literal)
add_first (Some l) (Some ls) = Some (l ∷ ls)
add_first _ _ = None

abbrev pub literals_of : Bool → List Written → Option (List Literal)
literals_of date [] = Some []
literals_of date (w ∷ ws) = add_first (literal_of date w) (literals_of date ws)

abbrev pub value_in_range : Result ℤ NumberFault → Option ℤ
value_in_range (Ok z) = Some z
value_in_range (Err e) = None

abbrev pub fixed_in_range : List ℕ → Option ℤ
fixed_in_range bytes = value_in_range (fixed_of bytes)

abbrev pub point_of : Option ℤ → Option ℤ → Option Point
point_of (Some x) (Some y) = Some (record { x = x; y = y })
point_of _ _ = None

abbrev pub box_between : Option Point → Option Point → Option Box2
box_between (Some p) (Some q) = Some (record { low = p; high = q })
box_between _ _ = None

-- least x, least y, greatest x, greatest y
abbrev pub box_of : Sides → Option Box2
box_of sides =
    box_between (point_of (fixed_in_range sides.west) (fixed_in_range sides.south))
    (point_of (fixed_in_range sides.east) (fixed_in_range sides.north))

-- the one reference system that there is
abbrev pub is_known_system : Option (List ℕ) → Bool
is_known_system None = true
is_known_system (Some name) = bytes_eq name (codes "EPSG:4326")

abbrev pub bbox_of : ℕ → Sides → Option (List ℕ) → Option Tree
bbox_of a sides system =
    if is_known_system system then option_map (λ b. tree.bbox a b) (box_of sides) else None

abbrev pub lies : ℕ → Relation → Geometry → Tree
lies a relation.Intersects g = tree.intersects a g
lies a relation.Disjoint g = tree.disjoint a g
lies a relation.Within g = tree.within a g

-- nothing where the tokens spell no geometry, and no tree where it is not kept
abbrev pub related_of : ℕ → Relation → List Seen → Option (Option Tree)
related_of a r piece = option_map (λ kept. option_map (lies a r) kept) (geometry_of piece)

abbrev pub timed_of : ℕ → Timing → ℤ → Tree
timed_of a timing.Before at = tree.before a at
timed_of a timing.After at = tree.after a at
timed_of a timing.Tequals at = tree.tequals a at

abbrev pub negated_if : Bool → Option Tree → Option Tree
negated_if true t = option_map (λ inner. tree.negated inner) t
negated_if false t = t

abbrev pub compared_of : ℕ → Bool → Op → Written → Option Tree
compared_of a date op w = option_map (λ l. tree.compare a op l) (literal_of date w)

abbrev pub between_literals : ℕ → Option Literal → Option Literal → Option Tree
between_literals a (Some low) (Some high) = Some (tree.between a low high)
between_literals a _ _ = None

abbrev pub between_of : ℕ → Bool → Written → Written → Option Tree
between_of a date low high = between_literals a (literal_of date low) (literal_of date high)

abbrev pub one_of_literals : ℕ → Bool → List Written → Option Tree
one_of_literals a date ws = option_map (λ ls. tree.one_of a ls) (literals_of date ws)

-- The tree that a question of an attribute stands for, if its literals stand for any. Nothing where
-- the tokens of a geometry spell none.
abbrev pub candidate : ℕ → Bool → Question → Option (Option Tree)
candidate a date (in_box sides system) = Some (bbox_of a sides system)
candidate a date (related r piece) = related_of a r piece
candidate a date (compared op w) = Some (compared_of a date op w)
candidate a date (between n low high) = Some (negated_if n (between_of a date low high))
candidate a date (like n pattern) = Some (negated_if n (Some (tree.like a pattern)))
candidate a date (one_of n ws) = Some (negated_if n (one_of_literals a date ws))
candidate a date (null n) = Some (negated_if n (Some (tree.is_null a)))
candidate a date (during low high) = Some (Some (tree.during a low high))
candidate a date (timed t at) = Some (Some (timed_of a t at))

-- the tokens of a geometry spell one
abbrev pub is_spelled : Question → Bool
is_spelled (related r piece) = is_some (geometry_of piece)
is_spelled _ = true

-- the test breaks a rule of the type where there is no tree, or one that does not suit the type
abbrev pub kept : Specification → List ℕ → Option Tree → Judged
kept s name None = bad name
kept s name (Some t) = if suits s t then sound t else bad name

abbrev pub judged_at : Specification → List ℕ → Question → Option ℕ → Option Judged
judged_at s name q None = if is_spelled q then Some (unknown name) else None
judged_at s name q (Some a) = option_map (kept s name) (candidate a (is_date_kind (kind_at s a)) q)

abbrev pub judged_named : Specification → List ℕ → Question → Option Judged
judged_named s name q = judged_at s name q (place_of_name s name)

-- Nothing where the tokens of a geometry spell none.
unfoldable pub judged : Specification → Trial → Option Judged
judged s include = Some (sound tree.include)
judged s exclude = Some (sound tree.exclude)
judged s (ids texts) = Some (sound (tree.ids texts))
judged s (named name q) = judged_named s name q

-- what contracts see of the code's types
abbrev pub faults_seen : Faults → NameFaults
faults_seen f =
    record { unknown = option_map (λ n. n.now) f.unknown; bad = option_map (λ n. n.now) f.bad }

abbrev pub found_seen : Found → Judged
found_seen f = record { meaning = tree.tree f.filter; faults = faults_seen f.faults }
