-- The grammar: each way to write a filter or a change, its tokens, and what it stands for.
use Rattle.std.specs.Prelude.{◌≡◌, ◌<◌, ℕ, Bool, true, false, List, [], ◌∷◌, ◌++◌, length}
use Rattle.std.specs.Prelude.{Option, Some, None, option_map}
use Rattle.gm_types.specs.Specification.{Specification}
use Rattle.gm_filter.specs.declared.filter.Op.{Op}
use Rattle.gm_filter.specs.declared.filter.Op.TheVariants as op
use Rattle.gm_filter.specs.Tree.{Tree, Trees, negated, all, any, no_trees, tree_and, trees_of}
use Rattle.gm_ecql.specs.declared.keyword.Keyword.{Keyword}
use Rattle.gm_ecql.specs.declared.keyword.Keyword.TheVariants as keyword
use Rattle.gm_ecql.specs.declared.token.Symbol.{Symbol}
use Rattle.gm_ecql.specs.declared.token.Symbol.TheVariants as symbol
use Rattle.gm_ecql.specs.declared.test.Relation.{Relation}
use Rattle.gm_ecql.specs.declared.test.Relation.TheVariants as relation
use Rattle.gm_ecql.specs.declared.test.Timing.{Timing}
use Rattle.gm_ecql.specs.declared.test.Timing.TheVariants as timing
use Rattle.gm_ecql.specs.Geometry.{piece_at}
use Rattle.gm_ecql.specs.Judging.{NameFaults, Judged, first_faults, judged}
use Rattle.gm_ecql.specs.Test.{Written, of_text, of_number, of_instant, of_truth, Question}
use Rattle.gm_ecql.specs.Test.{in_box, related, compared, between, like, one_of, null, during}
use Rattle.gm_ecql.specs.Test.{timed, Trial, include, exclude, ids, named}
use Rattle.gm_ecql.specs.Token.{Seen, a_keyword, a_name, a_text, an_instant, a_number, a_symbol}

abbrev pub opening : Seen
opening = a_symbol symbol.Opening

abbrev pub closing : Seen
closing = a_symbol symbol.Closing

abbrev pub comma : Seen
comma = a_symbol symbol.Comma

-- literal = text | number | instant | TRUE | FALSE
abbrev pub literal_token : Written → Seen
literal_token (of_text t) = a_text t
literal_token (of_number n) = a_number n
literal_token (of_instant at) = an_instant at
literal_token (of_truth true) = a_keyword keyword.True
literal_token (of_truth false) = a_keyword keyword.False

-- item { "," item }
abbrev pub by_commas : {A : Type 0} → (A → Seen) → List A → List Seen
by_commas item [] = []
by_commas item (x ∷ []) = item x ∷ []
by_commas item (x ∷ y ∷ ys) = item x ∷ comma ∷ by_commas item (y ∷ ys)

abbrev pub in_brackets_tokens : List Seen → List Seen
in_brackets_tokens ts = opening ∷ (ts ++ closing ∷ [])

abbrev pub op_symbol : Op → Symbol
op_symbol op.Eq = symbol.Equal
op_symbol op.Ne = symbol.NotEqual
op_symbol op.Lt = symbol.Less
op_symbol op.Le = symbol.AtMost
op_symbol op.Gt = symbol.More
op_symbol op.Ge = symbol.AtLeast

abbrev pub relation_word : Relation → Keyword
relation_word relation.Intersects = keyword.Intersects
relation_word relation.Disjoint = keyword.Disjoint
relation_word relation.Within = keyword.Within

abbrev pub timing_word : Timing → Keyword
timing_word timing.Before = keyword.Before
timing_word timing.After = keyword.After
timing_word timing.Tequals = keyword.Tequals

-- [ NOT ]
abbrev pub not_tokens : Bool → List Seen
not_tokens true = a_keyword keyword.Not ∷ []
not_tokens false = []

-- [ "," text ]
abbrev pub system_tokens : Option (List ℕ) → List Seen
system_tokens None = []
system_tokens (Some t) = comma ∷ a_text t ∷ []

-- test, in the order of the grammar's table
abbrev pub question_tokens : List ℕ → Question → List Seen
question_tokens name (in_box sides system) =
    a_keyword keyword.Bbox ∷ in_brackets_tokens (a_name name ∷ comma ∷ a_number sides.west ∷ comma
    ∷ a_number sides.south ∷ comma ∷ a_number sides.east ∷ comma ∷ a_number sides.north
    ∷ system_tokens system)
question_tokens name (related r piece) =
    a_keyword (relation_word r) ∷ in_brackets_tokens (a_name name ∷ comma ∷ piece)
question_tokens name (compared o w) = a_name name ∷ a_symbol (op_symbol o) ∷ literal_token w ∷ []
question_tokens name (between n low high) =
    a_name name ∷ (not_tokens n
    ++ a_keyword keyword.Between ∷ literal_token low ∷ a_keyword keyword.And
    ∷ literal_token high ∷ [])
question_tokens name (like n pattern) =
    a_name name ∷ (not_tokens n ++ a_keyword keyword.Like ∷ a_text pattern ∷ [])
question_tokens name (one_of n ws) =
    a_name name ∷ (not_tokens n
    ++ a_keyword keyword.In ∷ in_brackets_tokens (by_commas literal_token ws))
question_tokens name (null n) =
    a_name name ∷ a_keyword keyword.Is ∷ (not_tokens n ++ a_keyword keyword.Null ∷ [])
question_tokens name (during low high) =
    a_name name ∷ a_keyword keyword.During ∷ an_instant low ∷ a_symbol symbol.Slash
    ∷ an_instant high ∷ []
question_tokens name (timed t at) = a_name name ∷ a_keyword (timing_word t) ∷ an_instant at ∷ []

abbrev pub test_tokens : Trial → List Seen
test_tokens include = a_keyword keyword.Include ∷ []
test_tokens exclude = a_keyword keyword.Exclude ∷ []
test_tokens (ids texts) = a_keyword keyword.In ∷ in_brackets_tokens (by_commas a_text texts)
test_tokens (named name q) = question_tokens name q

-- a geometry's keyword, and brackets up to the one that closes the first
abbrev pub IsGeometryPiece : List Seen → Type 0
IsGeometryPiece piece = piece_at piece ≡ Some (piece, [])

-- lists have a member, and the tokens of a geometry end with its brackets
abbrev pub IsTest : Trial → Type 0
IsTest include = Unit {0}
IsTest exclude = Unit {0}
IsTest (ids texts) = 0 < length texts
IsTest (named name (related r piece)) = IsGeometryPiece piece
IsTest (named name (one_of n ws)) = 0 < length ws
IsTest (named name _) = Unit {0}

-- filter = term { OR term }, term = factor { AND factor }, factor = NOT factor | "(" filter ")" |
-- test
mutual
  pub data Factor : Type 0 where
    lone : Trial → Factor
    not_factor : Factor → Factor
    in_brackets : Factor → Factors → Terms → Factor

  -- { AND factor }
  pub data Factors : Type 0 where
    no_factors : Factors
    and_factor : Factor → Factors → Factors

  -- { OR term }
  pub data Terms : Type 0 where
    no_terms : Terms
    or_term : Factor → Factors → Terms → Terms

abbrev mutual
  pub factor_tokens : Factor → List Seen
  factor_tokens (lone t) = test_tokens t
  factor_tokens (not_factor f) = a_keyword keyword.Not ∷ factor_tokens f
  factor_tokens (in_brackets f fs ts) =
      opening ∷ (factor_tokens f ++ (factors_tokens fs ++ (terms_tokens ts ++ closing ∷ [])))

  pub factors_tokens : Factors → List Seen
  factors_tokens no_factors = []
  factors_tokens (and_factor f fs) = a_keyword keyword.And ∷ (factor_tokens f ++ factors_tokens fs)

  pub terms_tokens : Terms → List Seen
  terms_tokens no_terms = []
  terms_tokens (or_term f fs ts) =
      a_keyword keyword.Or ∷ (factor_tokens f ++ (factors_tokens fs ++ terms_tokens ts))

abbrev mutual
  pub IsFactor : Factor → Type 0
  IsFactor (lone t) = IsTest t
  IsFactor (not_factor f) = IsFactor f
  IsFactor (in_brackets f fs ts) = IsFactor f × (AreFactors fs × AreTerms ts)

  pub AreFactors : Factors → Type 0
  AreFactors no_factors = Unit {0}
  AreFactors (and_factor f fs) = IsFactor f × AreFactors fs

  pub AreTerms : Terms → Type 0
  AreTerms no_terms = Unit {0}
  AreTerms (or_term f fs ts) = IsFactor f × (AreFactors fs × AreTerms ts)

-- two or more make one
abbrev pub group : (Trees → Tree) → List Tree → Tree
group make [] = make no_trees
group make (t ∷ []) = t
group make (t ∷ u ∷ us) = make (tree_and t (tree_and u (trees_of us)))

-- members read so far, and their faults
pub record Members : Type 0 where
  pub members : List Tree
  pub faults : NameFaults

abbrev pub no_members : Members
no_members = record { members = []; faults = record { unknown = None; bad = None } }

abbrev pub add_member : Judged → Members → Members
add_member j ms =
    record { members = j.meaning ∷ ms.members; faults = first_faults j.faults ms.faults }

abbrev pub with_member : Option Judged → Option Members → Option Members
with_member (Some j) (Some ms) = Some (add_member j ms)
with_member _ _ = None

abbrev pub grouped : (Trees → Tree) → Members → Judged
grouped make ms = record { meaning = group make ms.members; faults = ms.faults }

abbrev pub negated_of : Judged → Judged
negated_of j = record { meaning = negated j.meaning; faults = j.faults }

-- What is written stands for this, and has these faults. Nothing where the tokens of a geometry
-- spell none.
abbrev mutual
  pub factor_judged : Specification → Factor → Option Judged
  factor_judged s (lone t) = judged s t
  factor_judged s (not_factor f) = option_map negated_of (factor_judged s f)
  factor_judged s (in_brackets f fs ts) =
      option_map (grouped any)
      (with_member (option_map (grouped all)
      (with_member (factor_judged s f) (factors_judged s fs))) (terms_judged s ts))

  pub factors_judged : Specification → Factors → Option Members
  factors_judged s no_factors = Some no_members
  factors_judged s (and_factor f fs) = with_member (factor_judged s f) (factors_judged s fs)

  pub terms_judged : Specification → Terms → Option Members
  terms_judged s no_terms = Some no_members
  terms_judged s (or_term f fs ts) =
      with_member (option_map (grouped all) (with_member (factor_judged s f) (factors_judged s fs)))
      (terms_judged s ts)

-- a filter is what stands between brackets
pub record SpellsJudged (s : Specification) (tokens : List Seen) (j : Judged) : Type 0 where
  pub first : Factor
  pub factors : Factors
  pub terms : Terms
  pub formed : IsFactor (in_brackets first factors terms)
  pub written : tokens ≡ factor_tokens first ++ (factors_tokens factors ++ terms_tokens terms)
  pub means : factor_judged s (in_brackets first factors terms) ≡ Some j
