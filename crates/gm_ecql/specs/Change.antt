-- Changes as they are written, and what they stand for.
use Rattle.std.specs.Prelude.{◌≡◌, ℕ, ◌^◌, Bool, true, false, if◌then◌else◌, List, [], ◌∷◌, ◌++◌, ℤ}
use Rattle.std.specs.Prelude.{Option, Some, None, option_map, option_and_then, is_some}
use Rattle.gm_geom.specs.declared.geometry.Geometry.{Geometry}
use Rattle.gm_types.specs.declared.kind.Kind.{Kind}
use Rattle.gm_types.specs.declared.kind.Kind.TheVariants as kind
use Rattle.gm_types.specs.Kind.{is_date}
use Rattle.gm_types.specs.Specification.{Specification, place_of_name, kind_at}
use Rattle.gm_feature.specs.declared.value.Value.{Value}
use Rattle.gm_feature.specs.declared.value.Value.TheVariants as value
use Rattle.gm_feature.specs.Value.{is_below, value_fits}
use Rattle.gm_filter.specs.declared.filter.Literal.{Literal}
use Rattle.gm_filter.specs.declared.filter.Literal.TheVariants as literal
use Rattle.gm_filter.specs.Suitability.{is_text}
use Rattle.gm_filter.specs.Tree.{Tree, tree}
use Rattle.gm_ecql.specs.declared.keyword.Keyword.TheVariants as keyword
use Rattle.gm_ecql.specs.declared.change.Change.{Change}
use Rattle.gm_ecql.specs.declared.change.Given.{Given}
use Rattle.gm_ecql.specs.declared.change.Given.TheVariants as code_given
use Rattle.gm_ecql.specs.declared.change.Assigned.{Assigned}
use Rattle.gm_ecql.specs.declared.judging.Faults.{Faults}
use Rattle.gm_ecql.specs.Geometry.{piece_at, geometry_of}
use Rattle.gm_ecql.specs.Grammar.{SpellsJudged, literal_token, IsGeometryPiece}
use Rattle.gm_ecql.specs.Judging.{NameFaults, Judged, faultless, first_faults, faults_seen}
use Rattle.gm_ecql.specs.Judging.{literal_of}
use Rattle.gm_ecql.specs.Parser.{document}
use Rattle.gm_ecql.specs.Reader.{Reader, ◌>>=◌, or_else, after_keyword, constant_at, name_at}
use Rattle.gm_ecql.specs.Test.{Written, constant_seen}
use Rattle.gm_ecql.specs.Token.{Seen, a_keyword, a_name, seen_all}

-- a new value as it is written: literal | wkt | NULL
pub data New : Type 0 where
  new_literal : Written → New
  new_geometry : List Seen → New
  new_null : New

abbrev pub new_tokens : New → List Seen
new_tokens (new_literal w) = literal_token w ∷ []
new_tokens (new_geometry piece) = piece
new_tokens new_null = a_keyword keyword.Null ∷ []

abbrev pub IsNew : New → Type 0
IsNew (new_literal w) = Unit {0}
IsNew (new_geometry piece) = IsGeometryPiece piece
IsNew new_null = Unit {0}

abbrev pub null_of : Bool → Option Value
null_of true = Some value.Null
null_of false = None

-- in an attribute of texts the empty text is null
abbrev pub text_value : Kind → List ℕ → Option Value
text_value k [] = null_of (is_text k)
text_value k (b ∷ bs) = Some (value.Text (b ∷ bs))

-- in an attribute of 32 bits a number is of 32 bits
abbrev pub number_value : Kind → ℤ → Option Value
number_value kind.Integer z = if is_below (2 ^ 31) z then Some (value.Integer z) else None
number_value kind.Text z = Some (value.Long z)
number_value kind.Long z = Some (value.Long z)
number_value kind.Boolean z = Some (value.Long z)
number_value kind.Date z = Some (value.Long z)
number_value (kind.Geo shape) z = Some (value.Long z)

abbrev pub value_of : Kind → Literal → Option Value
value_of k (literal.Text t) = text_value k t
value_of k (literal.Number z) = number_value k z
value_of k (literal.Truth b) = Some (value.Boolean b)
value_of k (literal.Date at) = Some (value.Date at)

abbrev pub literal_value : Kind → Written → Option Value
literal_value k w = option_and_then (value_of k) (literal_of (is_date k) w)

-- The value that is meant, if there is one. Nothing where the tokens of a geometry spell none.
abbrev pub new_value : Kind → New → Option (Option Value)
new_value k (new_literal w) = Some (literal_value k w)
new_value k (new_geometry piece) =
    option_map (λ kept. option_map (λ g. value.Geo g) kept) (geometry_of piece)
new_value k new_null = Some (Some value.Null)

abbrev pub is_new_spelled : New → Bool
is_new_spelled (new_literal w) = true
is_new_spelled (new_geometry piece) = is_some (geometry_of piece)
is_new_spelled new_null = true

-- which attribute has which value, where there is no fault
pub record Assignment : Type 0 where
  pub place : ℕ
  pub holds : Value
  pub faults : NameFaults

abbrev pub faulty : Option (List ℕ) → Option (List ℕ) → Assignment
faulty u b = record { place = 0; holds = value.Null; faults = record { unknown = u; bad = b } }

abbrev pub assigned : ℕ → Value → Assignment
assigned a v = record { place = a; holds = v; faults = faultless }

-- the value is one that the attribute may hold
abbrev pub kept_value : Kind → List ℕ → ℕ → Option Value → Assignment
kept_value k name a None = faulty None (Some name)
kept_value k name a (Some v) = if value_fits k v then assigned a v else faulty None (Some name)

abbrev pub place_and_kind : Specification → List ℕ → Option (ℕ × Kind)
place_and_kind s name =
    option_and_then (λ a. option_map (λ k. (a, k)) (kind_at s a)) (place_of_name s name)

abbrev pub assignment_at : List ℕ → New → Option (ℕ × Kind) → Option Assignment
assignment_at name n None = if is_new_spelled n then Some (faulty (Some name) None) else None
assignment_at name n (Some p) = option_map (kept_value p.1 name p.0) (new_value p.1 n)

abbrev pub assignment_of : Specification → List ℕ → New → Option Assignment
assignment_of s name n = assignment_at name n (place_and_kind s name)

-- what a change stands for, where it has no faults, and its faults
pub record JudgedChange : Type 0 where
  pub place : ℕ
  pub holds : Value
  pub meaning : Tree
  pub faults : NameFaults

abbrev pub change_judged : Assignment → Judged → JudgedChange
change_judged a j =
    record {
      place = a.place;
      holds = a.holds;
      meaning = j.meaning;
      faults = first_faults a.faults j.faults;
    }

-- change = name ( literal | wkt | NULL ) WHERE filter
pub record SpellsChangeJudged (s : Specification) (tokens : List Seen)
    (c : JudgedChange) : Type 0 where
  pub name : List ℕ
  pub given : New
  pub rest : List Seen
  pub assignment : Assignment
  pub filter : Judged
  pub formed : IsNew given
  pub written : tokens ≡ a_name name ∷ (new_tokens given ++ a_keyword keyword.Where ∷ rest)
  pub assigns : assignment_of s name given ≡ Some assignment
  pub filters : SpellsJudged s rest filter
  pub means : c ≡ change_judged assignment filter

-- Changes at the front of tokens, step by step as the code goes.
abbrev pub new_at : Reader New
new_at ts =
    or_else (constant_at ts) (λ r. Some (new_literal r.0, r.1))
    (or_else (after_keyword keyword.Null ts) (λ rest. Some (new_null, rest))
    (option_map (λ r. (new_geometry r.0, r.1)) (piece_at ts)))

unfoldable pub assignment_tokens_at : List Seen → Option (List ℕ × (New × List Seen))
assignment_tokens_at ts = do
  name ← name_at ts
  new ← new_at name.1
  rest ← after_keyword keyword.Where new.1
  Some (name.0, (new.0, rest))

unfoldable pub change_document : Specification → List Seen → Option JudgedChange
change_document s ts = do
  front ← assignment_tokens_at ts
  assignment ← assignment_of s front.0 front.1.0
  filter ← document s front.1.1
  Some (change_judged assignment filter)

-- what contracts see of the code's types
abbrev pub given_seen : Given → New
given_seen (code_given.Constant c) = new_literal (constant_seen c)
given_seen (code_given.Geometry piece) = new_geometry (seen_all piece.tokens.now)
given_seen code_given.Null = new_null

abbrev pub assigned_seen : Assigned → Assignment
assigned_seen a = record { place = a.attribute; holds = a.value; faults = faults_seen a.faults }

abbrev pub change_seen : Change → Faults → JudgedChange
change_seen c f =
    record { place = c.attribute; holds = c.value; meaning = tree c.filter; faults = faults_seen f }
