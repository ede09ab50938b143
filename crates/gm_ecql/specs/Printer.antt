-- The printed filter: keywords in capitals, single blanks between words, a comma and a blank
-- between members of lists, and brackets round an And or Or that is a member of another filter.
use Rattle.std.specs.Prelude.{ℕ, Bool, true, false, if◌then◌else◌, List, [], ◌∷◌, ◌++◌, codes}
use Rattle.std.specs.Prelude.{ℤ, Option, Some, None}
use Rattle.std.specs.Fmt.{signed_decimal}
use Rattle.gm_base.specs.Ascii.{double_quote, single_quote}
use Rattle.gm_geom.specs.declared.geometry.Geometry.{Geometry}
use Rattle.gm_geom.specs.declared.point.Box2.{Box2}
use Rattle.gm_geom.specs.declared.point.Point.{Point}
use Rattle.gm_geom.specs.Number.{fixed_text}
use Rattle.gm_wkt.specs.Printer as wkt
use Rattle.gm_calendar.specs.Spelling.{instant_text}
use Rattle.gm_types.specs.Specification.{Specification, names_of}
use Rattle.std.specs.Prelude.{slice_get}
use Rattle.gm_filter.specs.declared.filter.Op.{Op}
use Rattle.gm_filter.specs.declared.filter.Op.TheVariants as op
use Rattle.gm_filter.specs.declared.filter.Literal.{Literal}
use Rattle.gm_filter.specs.declared.filter.Literal.TheVariants as literal
use Rattle.gm_filter.specs.Tree.{Tree, Trees, include, exclude, negated, all, any, compare, between}
use Rattle.gm_filter.specs.Tree.{like, one_of, is_null, ids, bbox, intersects, disjoint, within}
use Rattle.gm_filter.specs.Tree.{during, before, after, tequals, no_trees, tree_and}
use Rattle.gm_ecql.specs.declared.keyword.Keyword.{Keyword}
use Rattle.gm_ecql.specs.Token.{doubled}
use Rattle.gm_ecql.specs.Keyword.{keyword_of}

abbrev pub name_if : Option (List ℕ) → List ℕ
name_if None = []
name_if (Some name) = name

-- the name of the attribute with that number
abbrev pub name_at : Specification → ℕ → List ℕ
name_at s a = name_if (slice_get (names_of s) a)

abbrev pub name_unless : List ℕ → Option Keyword → List ℕ
name_unless name None = name
name_unless name (Some k) = double_quote ∷ (name ++ double_quote ∷ [])

-- a name that is a keyword stands in double quotes
abbrev pub name_text : List ℕ → List ℕ
name_text name = name_unless name (keyword_of name)

abbrev pub op_text : Op → List ℕ
op_text op.Eq = codes " = "
op_text op.Ne = codes " <> "
op_text op.Lt = codes " < "
op_text op.Le = codes " <= "
op_text op.Gt = codes " > "
op_text op.Ge = codes " >= "

abbrev pub quoted_text : List ℕ → List ℕ
quoted_text text = single_quote ∷ (doubled text ++ single_quote ∷ [])

abbrev pub truth_text : Bool → List ℕ
truth_text true = codes "TRUE"
truth_text false = codes "FALSE"

abbrev pub literal_text : Literal → List ℕ
literal_text (literal.Number z) = signed_decimal z
literal_text (literal.Text t) = quoted_text t
literal_text (literal.Truth b) = truth_text b
literal_text (literal.Date at) = instant_text at

abbrev pub comma_text : Bool → List ℕ
comma_text true = []
comma_text false = codes ", "

abbrev pub commas : {A : Type 0} → (A → List ℕ) → Bool → List A → List ℕ
commas item first [] = []
commas item first (x ∷ xs) = comma_text first ++ (item x ++ commas item false xs)

abbrev pub ids_text : List (List ℕ) → List ℕ
ids_text texts = codes "IN (" ++ (commas quoted_text true texts ++ codes ")")

-- a comma before each coordinate
abbrev pub coordinate_text : ℤ → List ℕ
coordinate_text v = codes ", " ++ fixed_text v

abbrev pub corner_text : Point → List ℕ
corner_text p = coordinate_text p.x ++ coordinate_text p.y

abbrev pub box_text : List ℕ → Box2 → List ℕ
box_text name b =
    codes "BBOX(" ++ (name_text name ++ (corner_text b.low ++ (corner_text b.high ++ codes ")")))

abbrev pub related_text : List ℕ → List ℕ → Geometry → List ℕ
related_text word name g = word ++ (name_text name ++ (codes ", " ++ (wkt.printed g ++ codes ")")))

abbrev pub timed_text : List ℕ → List ℕ → ℤ → List ℕ
timed_text name word at = name_text name ++ (word ++ instant_text at)

abbrev pub during_text : List ℕ → ℤ → ℤ → List ℕ
during_text name low high =
    name_text name ++ (codes " DURING " ++ (instant_text low ++ (codes "/" ++ instant_text high)))

-- a filter without members
abbrev pub test_text : Specification → Tree → List ℕ
test_text s include = codes "INCLUDE"
test_text s exclude = codes "EXCLUDE"
test_text s (negated t) = []
test_text s (all ts) = []
test_text s (any ts) = []
test_text s (compare a op l) = name_text (name_at s a) ++ (op_text op ++ literal_text l)
test_text s (between a low high) =
    name_text (name_at s a)
    ++ (codes " BETWEEN " ++ (literal_text low ++ (codes " AND " ++ literal_text high)))
test_text s (like a pattern) = name_text (name_at s a) ++ (codes " LIKE " ++ quoted_text pattern)
test_text s (one_of a literals) =
    name_text (name_at s a) ++ (codes " IN (" ++ (commas literal_text true literals ++ codes ")"))
test_text s (is_null a) = name_text (name_at s a) ++ codes " IS NULL"
test_text s (ids texts) = ids_text texts
test_text s (bbox a b) = box_text (name_at s a) b
test_text s (intersects a g) = related_text (codes "INTERSECTS(") (name_at s a) g
test_text s (disjoint a g) = related_text (codes "DISJOINT(") (name_at s a) g
test_text s (within a g) = related_text (codes "WITHIN(") (name_at s a) g
test_text s (during a low high) = during_text (name_at s a) low high
test_text s (before a at) = timed_text (name_at s a) (codes " BEFORE ") at
test_text s (after a at) = timed_text (name_at s a) (codes " AFTER ") at
test_text s (tequals a at) = timed_text (name_at s a) (codes " TEQUALS ") at

abbrev mutual
  -- a filter inside another
  pub inner : Specification → Tree → List ℕ
  inner s include = test_text s include
  inner s exclude = test_text s exclude
  inner s (negated t) = codes "NOT " ++ inner s t
  inner s (all ts) = codes "(" ++ (listed s true (codes " AND ") ts ++ codes ")")
  inner s (any ts) = codes "(" ++ (listed s true (codes " OR ") ts ++ codes ")")
  inner s (compare a op l) = test_text s (compare a op l)
  inner s (between a low high) = test_text s (between a low high)
  inner s (like a pattern) = test_text s (like a pattern)
  inner s (one_of a literals) = test_text s (one_of a literals)
  inner s (is_null a) = test_text s (is_null a)
  inner s (ids texts) = test_text s (ids texts)
  inner s (bbox a b) = test_text s (bbox a b)
  inner s (intersects a g) = test_text s (intersects a g)
  inner s (disjoint a g) = test_text s (disjoint a g)
  inner s (within a g) = test_text s (within a g)
  inner s (during a low high) = test_text s (during a low high)
  inner s (before a at) = test_text s (before a at)
  inner s (after a at) = test_text s (after a at)
  inner s (tequals a at) = test_text s (tequals a at)

  pub listed : Specification → Bool → List ℕ → Trees → List ℕ
  listed s first separator no_trees = []
  listed s first separator (tree_and t ts) =
      (if first then [] else separator) ++ (inner s t ++ listed s false separator ts)

-- the whole text: brackets stand only inside
abbrev pub printed : Specification → Tree → List ℕ
printed s (all ts) = listed s true (codes " AND ") ts
printed s (any ts) = listed s true (codes " OR ") ts
printed s t = inner s t
