-- The printed words, names, texts and instants are pieces of their tokens, before each end.
use Rattle.std.proofs.Common.{◌≡◌, ℕ, ◌<◌, true, ◌&&◌, List, [], ◌∷◌, length, Option, Some, None}
use Rattle.std.proofs.Common.{refl, ◌∙◌, ap, arith, inl, inr}
use Rattle.std.specs.Prelude.{IsUtf8}
use Rattle.std.specs.List.{list_all}
use Rattle.std.proofs.lemmas.Bool.Decides.{nat_tests}
use Rattle.std.proofs.lemmas.Bool.{and_parts}
use Rattle.gm_types.specs.Words.{is_name, begins_name, continues_name}
use Rattle.gm_ecql.specs.declared.keyword.Keyword.{Keyword}
use Rattle.gm_ecql.specs.declared.keyword.Keyword.TheVariants as k
use Rattle.gm_ecql.specs.Printer.{name_text, name_unless, quoted_text}
use Rattle.gm_ecql.specs.Token.{a_keyword, a_name, a_text, is_word_start, is_word_byte}
use Rattle.gm_ecql.specs.Token.{is_no_double, Starts, IsPiece, doubled}
use Rattle.gm_ecql.specs.Keyword.{keyword_text, keyword_of}
use Rattle.gm_ecql.proofs.Lexemes.{Ends, ends_word, ends_single}

keyword_named : (x : Keyword) → keyword_of (keyword_text x) ≡ Some x
unfolding keyword_of
keyword_named k.And = refl
keyword_named k.Or = refl
keyword_named k.Not = refl
keyword_named k.In = refl
keyword_named k.Is = refl
keyword_named k.Null = refl
keyword_named k.Between = refl
keyword_named k.Like = refl
keyword_named k.Include = refl
keyword_named k.Exclude = refl
keyword_named k.Bbox = refl
keyword_named k.Intersects = refl
keyword_named k.Disjoint = refl
keyword_named k.Within = refl
keyword_named k.During = refl
keyword_named k.Before = refl
keyword_named k.After = refl
keyword_named k.Tequals = refl
keyword_named k.True = refl
keyword_named k.False = refl
keyword_named k.Where = refl
keyword_named k.Point = refl
keyword_named k.LineString = refl
keyword_named k.Polygon = refl
keyword_named k.MultiPoint = refl
keyword_named k.MultiLineString = refl
keyword_named k.MultiPolygon = refl

keyword_word : (x : Keyword)
    → Starts is_word_start (keyword_text x) × (list_all is_word_byte (keyword_text x) ≡ true)
keyword_word k.And = (refl, refl)
keyword_word k.Or = (refl, refl)
keyword_word k.Not = (refl, refl)
keyword_word k.In = (refl, refl)
keyword_word k.Is = (refl, refl)
keyword_word k.Null = (refl, refl)
keyword_word k.Between = (refl, refl)
keyword_word k.Like = (refl, refl)
keyword_word k.Include = (refl, refl)
keyword_word k.Exclude = (refl, refl)
keyword_word k.Bbox = (refl, refl)
keyword_word k.Intersects = (refl, refl)
keyword_word k.Disjoint = (refl, refl)
keyword_word k.Within = (refl, refl)
keyword_word k.During = (refl, refl)
keyword_word k.Before = (refl, refl)
keyword_word k.After = (refl, refl)
keyword_word k.Tequals = (refl, refl)
keyword_word k.True = (refl, refl)
keyword_word k.False = (refl, refl)
keyword_word k.Where = (refl, refl)
keyword_word k.Point = (refl, refl)
keyword_word k.LineString = (refl, refl)
keyword_word k.Polygon = (refl, refl)
keyword_word k.MultiPoint = (refl, refl)
keyword_word k.MultiLineString = (refl, refl)
keyword_word k.MultiPolygon = (refl, refl)

pub keyword_piece : (x : Keyword) (rest : List ℕ) → Ends rest
    → IsPiece (keyword_text x) (a_keyword x) rest
keyword_piece x rest e = record {
  word = record { starts = (keyword_word x).0; all = (keyword_word x).1; ends = ends_word rest e };
  named = keyword_named x;
}

start_byte : (b : ℕ) → begins_name b ≡ true → is_word_byte b ≡ true
start_byte b e = grind (arith, nat_tests)

more_byte : (b : ℕ) → continues_name b ≡ true → is_word_byte b ≡ true
more_byte b e = grind (arith, nat_tests)

more_bytes : (bs : List ℕ) → list_all continues_name bs ≡ true → list_all is_word_byte bs ≡ true
more_bytes [] h = refl
more_bytes (b ∷ bs) h =
    let p = and_parts (continues_name b) (list_all continues_name bs) h in
    ap (λ x. x && list_all is_word_byte bs) (more_byte b p.0) ∙ more_bytes bs p.1

pub record NameBytes (name : List ℕ) : Type 0 where
  pub starts : Starts is_word_start name
  pub all : list_all is_word_byte name ≡ true

pub name_bytes : (name : List ℕ) → is_name name ≡ true → NameBytes name
unfolding is_name
name_bytes [] h = absurd (cc)
name_bytes (b ∷ bs) h =
    let p = and_parts (begins_name b) _ h in
    let q = and_parts _ (list_all continues_name bs) p.1 in
    record {
      starts = p.0;
      all = ap (λ x. x && list_all is_word_byte bs) (start_byte b p.0) ∙ more_bytes bs q.1;
    }

word_no_double : (b : ℕ) → is_word_byte b ≡ true → is_no_double b ≡ true
word_no_double b e = grind (arith, nat_tests)

no_doubles : (bs : List ℕ) → list_all is_word_byte bs ≡ true → list_all is_no_double bs ≡ true
no_doubles [] h = refl
no_doubles (b ∷ bs) h =
    let p = and_parts (is_word_byte b) (list_all is_word_byte bs) h in
    ap (λ x. x && list_all is_no_double bs) (word_no_double b p.0) ∙ no_doubles bs p.1

some_bytes : (name : List ℕ) → Starts is_word_start name → 0 < length name
some_bytes [] s = absurd s
some_bytes (b ∷ bs) s = omega arith

pub name_piece : (name : List ℕ) → NameBytes name → IsUtf8 name → (rest : List ℕ) → Ends rest
    → IsPiece (name_text name) (a_name name) rest
name_piece name n u rest e = by_keyword (keyword_of name) refl
  where
    by_keyword : (o : Option Keyword) → keyword_of name ≡ o
        → IsPiece (name_unless name o) (a_name name) rest
    by_keyword None f =
        inl (record {
          word = record { starts = n.starts; all = n.all; ends = ends_word rest e };
          written = refl;
          none = f;
        })
    by_keyword (Some x) f =
        inr (record {
          written = refl;
          some = some_bytes name n.starts;
          all = no_doubles name n.all;
          utf8 = u;
        })

pub text_piece : (text : List ℕ) → IsUtf8 (doubled text) → (rest : List ℕ) → Ends rest
    → IsPiece (quoted_text text) (a_text text) rest
text_piece text u rest e = record { written = refl; utf8 = u; ends = ends_single rest e }
