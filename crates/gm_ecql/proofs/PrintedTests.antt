-- The printed text of each test is its tokens, and these stand for the test.
use Rattle.std.proofs.Common.{◌≡◌, ℕ, ℤ, ◌<◌, Bool, true, false, ◌&&◌, cond, List, [], ◌∷◌}
use Rattle.std.proofs.Common.{◌++◌, length, map, codes, Option, Some, None, option_map, Ok, refl}
use Rattle.std.proofs.Common.{sym, ◌∙◌, ap, subst, arith, append_assoc}
use Rattle.std.specs.Prelude.{nat_le, int_le}
use Rattle.std.specs.List.{list_all}
use Rattle.std.specs.Str.{is_utf8}
use Rattle.std.proofs.lemmas.Str.{IsUtf8-from_is_utf8}
use mir.Syntax.{w32}
use mir.Val.{SFits}
use Rattle.std.proofs.lemmas.Bool.{and_parts}
use Rattle.gm_base.proofs.Options.{none_is}
use Rattle.gm_calendar.specs.Instant.{is_instant}
use Rattle.gm_calendar.specs.Spelling.{instant_text}
use Rattle.gm_geom.specs.declared.geometry.Geometry.{Geometry}
use Rattle.gm_geom.specs.declared.point.Box2.{Box2}
use Rattle.gm_geom.specs.declared.point.Point.{Point}
use Rattle.gm_geom.specs.Number.{fixed_of, fixed_text}
use Rattle.gm_geom.specs.Validity.{fault_of, is_in_world}
use Rattle.gm_wkt.specs.Answer.{answer_of}
use Rattle.gm_wkt.specs.Printer as wkt
use Rattle.gm_filter.specs.declared.filter.Op.{Op}
use Rattle.gm_filter.specs.declared.filter.Op.TheVariants as op
use Rattle.gm_filter.specs.declared.filter.Literal.{Literal}
use Rattle.gm_filter.specs.Suitability.{Suits, is_literal_of, is_kept, has_area, is_box}
use Rattle.gm_filter.specs.Suitability.{passes_kind, may_compare, may_lie_between, may_be_one_of}
use Rattle.gm_filter.specs.Suitability.{is_op_of, is_ordered}
use Rattle.gm_filter.specs.Tree as tree
use Rattle.gm_filter.specs.Tree.{Tree}
use Rattle.gm_types.specs.declared.kind.Kind.{Kind}
use Rattle.gm_types.specs.Kind.{is_date}
use Rattle.gm_types.specs.FeatureType.{IsType}
use Rattle.gm_types.specs.Specification.{Specification, kind_at}
use Rattle.gm_ecql.specs.declared.keyword.Keyword.{Keyword}
use Rattle.gm_ecql.specs.declared.keyword.Keyword.TheVariants as keyword
use Rattle.gm_ecql.specs.declared.token.Symbol.{Symbol}
use Rattle.gm_ecql.specs.declared.token.Symbol.TheVariants as symbol
use Rattle.gm_ecql.specs.declared.test.Relation.{Relation}
use Rattle.gm_ecql.specs.declared.test.Relation.TheVariants as relation
use Rattle.gm_ecql.specs.declared.test.Timing.{Timing}
use Rattle.gm_ecql.specs.declared.test.Timing.TheVariants as timing
use Rattle.gm_ecql.specs.Geometry.{kept_of}
use Rattle.gm_ecql.specs.Grammar.{comma, opening, closing, literal_token, by_commas, op_symbol}
use Rattle.gm_ecql.specs.Grammar.{relation_word, timing_word, test_tokens, IsTest}
use Rattle.gm_ecql.specs.Judging.{sound, bad, kept, candidate, judged_at, judged}
use Rattle.gm_ecql.specs.Judging.{is_date_kind, literal_of, lies, between_literals}
use Rattle.gm_ecql.specs.Judging.{box_of, fixed_in_range, value_in_range, point_of, box_between}
use Rattle.gm_ecql.specs.Printer.{name_at, name_text, op_text, quoted_text, literal_text, commas}
use Rattle.gm_ecql.specs.Printer.{corner_text, related_text, timed_text, test_text}
use Rattle.gm_ecql.specs.Test.{Sides, Question, in_box, related, compared, between, like}
use Rattle.gm_ecql.specs.Test.{one_of, null, during, timed, Trial, include, exclude, ids, named}
use Rattle.gm_ecql.specs.Token.{Seen, a_keyword, a_name, a_text, an_instant, a_number, a_symbol}
use Rattle.gm_ecql.specs.Token.{symbol_text}
use Rattle.gm_ecql.specs.Keyword.{keyword_text}
use Rattle.gm_ecql.proofs.Doubling.{doubled_utf8}
use Rattle.gm_ecql.proofs.Fixed.{fixed_printed}
use Rattle.gm_ecql.proofs.Lexemes.{Lexed, one}
use Rattle.gm_ecql.proofs.PrintedGeometries.{geometry_tokens, Prints, prints, point_fits}
use Rattle.gm_ecql.proofs.PrintedLiterals.{PrintsInstants, instant_printed, literal_printed}
use Rattle.gm_ecql.proofs.PrintedLiterals.{written_of, literal_means, literals_mean, commas_written}
use Rattle.gm_ecql.proofs.PrintedNames as names
use Rattle.gm_ecql.proofs.PrintedNames.{Named}
use Rattle.gm_ecql.proofs.PrintedWords.{keyword_piece, text_piece}
use Rattle.gm_ecql.proofs.Sequences.{Begins, Opened, Printed, opened, opened_one, join, blank_one}
use Rattle.gm_ecql.proofs.Sequences.{blank_then, piece_then, symbol_then, comma_then, opening_then}
use Rattle.gm_ecql.proofs.Sequences.{closing_last, symbol_printed, list_opened, all_printed}

-- what the crates below say of what they print
pub record Below : Type 0 where
  pub instants : PrintsInstants
  pub fixed : (z : ℤ) → SFits w32 z → fixed_of (fixed_text z) ≡ Ok z
  pub kept : (g : Geometry) → fault_of g ≡ None → answer_of (wkt.printed g) ≡ Ok g

-- the text is that of a test that stands for the tree
pub record Tested (s : Specification) (t : Tree) : Type 0 where
  pub trial : Trial
  pub lexed : (b : Bool) → Lexed b (test_text s t) (test_tokens trial)
  pub formed : IsTest trial
  pub means : judged s trial ≡ Some (sound t)

-- the attribute is there, and its kind passes
found : (test : Kind → Bool) (o : Option Kind) → passes_kind test o ≡ true
    → (k : Kind) × (o ≡ Some k) × (test k ≡ true)
found test None h = absurd (cc)
found test (Some k) h = (k, refl, h)

word : (b : Bool) (k : Keyword) → Lexed b (keyword_text k) (a_keyword k ∷ [])
word b k = one b (keyword_text k) (a_keyword k) refl (keyword_piece k)

keyword_then : (k : Keyword) (y : List ℕ) (r : List Seen) → Lexed true y r
    → Lexed true (keyword_text k ++ (32 ∷ y)) (a_keyword k ∷ r)
keyword_then k y r l = blank_then true (keyword_text k) y (a_keyword k) r (keyword_piece k) l refl

-- a keyword and a bracket
called : (b : Bool) (k : Keyword) (y : List ℕ) (r : List Seen) → Opened y r
    → Lexed b (keyword_text k ++ (40 ∷ y)) (a_keyword k ∷ opening ∷ r)
called b k y r o =
    piece_then b false (keyword_text k) (40 ∷ y) (a_keyword k) (opening ∷ r) refl (keyword_piece k)
    (opening_then false y r o) refl

text_printed : (t : List ℕ) → is_utf8 t ≡ true → Printed (quoted_text t) (a_text t)
text_printed t h = text_piece t (doubled_utf8 t (IsUtf8-from_is_utf8 t h))

op_spaced : (o : Op) (y : List ℕ) → op_text o ++ y ≡ 32 ∷ (symbol_text (op_symbol o) ++ (32 ∷ y))
op_spaced op.Eq y = refl
op_spaced op.Ne y = refl
op_spaced op.Lt y = refl
op_spaced op.Le y = refl
op_spaced op.Gt y = refl
op_spaced op.Ge y = refl

timing_text : Timing → List ℕ
timing_text timing.Before = codes " BEFORE "
timing_text timing.After = codes " AFTER "
timing_text timing.Tequals = codes " TEQUALS "

timing_spaced : (t : Timing) (y : List ℕ)
    → timing_text t ++ y ≡ 32 ∷ (keyword_text (timing_word t) ++ (32 ∷ y))
unfolding timing_text
timing_spaced timing.Before y = refl
timing_spaced timing.After y = refl
timing_spaced timing.Tequals y = refl

relation_text : Relation → List ℕ
relation_text relation.Intersects = codes "INTERSECTS("
relation_text relation.Disjoint = codes "DISJOINT("
relation_text relation.Within = codes "WITHIN("

relation_called : (r : Relation) (y : List ℕ)
    → relation_text r ++ y ≡ keyword_text (relation_word r) ++ (40 ∷ y)
unfolding relation_text
relation_called relation.Intersects y = refl
relation_called relation.Disjoint y = refl
relation_called relation.Within y = refl

has_one : {A : Type 0} (x : A) (xs : List A) → 0 < length (x ∷ xs)
has_one x xs = omega arith

module _ (s : Specification) where
  pub include_tested : Tested s tree.include
  unfolding judged
  include_tested =
      record { trial = include; lexed = λ b. word b keyword.Include; formed = tt; means = refl }

  pub exclude_tested : Tested s tree.exclude
  unfolding judged
  exclude_tested =
      record { trial = exclude; lexed = λ b. word b keyword.Exclude; formed = tt; means = refl }

  kept_sound : (name : List ℕ) (t : Tree) → Suits s t → kept s name (Some t) ≡ sound t
  kept_sound name t h = ap (λ x. cond x (sound t) (bad name)) h

  -- of a test of an attribute: what is asked stands for the tree
  asked : (a : ℕ) (k : Kind) (q : Question) (t : Tree) → Named s a k
      → candidate a (is_date k) q ≡ Some (Some t) → Suits s t
      → judged s (named (name_at s a) q) ≡ Some (sound t)
  unfolding judged
  asked a k q t n c h =
      ap (judged_at s (name_at s a) q) n.back
      ∙ ap (λ o. option_map (kept s (name_at s a)) (candidate a (is_date_kind o) q)) n.kind
      ∙ ap (option_map (kept s (name_at s a))) c ∙ ap Some (kept_sound (name_at s a) t h)

  -- a name, a blank, and what follows them
  name_then : (a : ℕ) (k : Kind) (b : Bool) (y : List ℕ) (r : List Seen) → Named s a k
      → Lexed true y r → Lexed b (name_text (name_at s a) ++ (32 ∷ y)) (a_name (name_at s a) ∷ r)
  name_then a k b y r n l =
      piece_then b true (name_text (name_at s a)) y (a_name (name_at s a)) r refl n.printed l refl

  pub ids_tested : (texts : List (List ℕ)) → Suits s (tree.ids texts) → Tested s (tree.ids texts)
  unfolding judged
  ids_tested [] h = absurd (cc)
  ids_tested (t ∷ ts) h =
      let p = and_parts (is_utf8 t) (list_all is_utf8 ts)
      (and_parts (nat_le 1 (length (t ∷ ts))) (list_all is_utf8 (t ∷ ts)) h).1 in record {
        trial = ids (t ∷ ts);
        lexed = λ b. piece_then b true (keyword_text keyword.In)
            (40 ∷ (commas quoted_text true (t ∷ ts) ++ codes ")")) (a_keyword keyword.In)
            (opening ∷ (by_commas a_text (t ∷ ts) ++ closing ∷ []))
            refl (keyword_piece keyword.In)
            (opening_then true (commas quoted_text true (t ∷ ts) ++ codes ")")
            (by_commas a_text (t ∷ ts) ++ closing ∷ [])
            (list_opened quoted_text a_text t ts (text_printed t p.0)
            (all_printed quoted_text a_text is_utf8 text_printed ts p.1))) refl;
        formed = has_one t ts;
        means = refl;
      }

module _ (s : Specification) (below : Below) (typed : IsType s) where
  number : (z : ℤ) → SFits w32 z → Printed (fixed_text z) (a_number (fixed_text z))
  number z f = fixed_printed below.fixed z f

  pub compare_tested : (a : ℕ) (o : Op) (l : Literal) → Suits s (tree.compare a o l)
      → Tested s (tree.compare a o l)
  compare_tested a o l h =
      let k = found (may_compare o l) (kind_at s a) h in
      let n = names.named s a k.0 typed k.1 in
      let is = (and_parts (is_op_of k.0 o) (is_literal_of k.0 l) k.2).1 in
      let text = literal_text l in
      let token = literal_token (written_of l) in record {
        trial = named (name_at s a) (compared o (written_of l));
        lexed = λ b. subst
            (λ z. Lexed b (name_text (name_at s a) ++ z)
            (a_name (name_at s a) ∷ a_symbol (op_symbol o) ∷ token ∷ []))
            (sym (op_spaced o text))
            (name_then s a k.0 b (symbol_text (op_symbol o) ++ (32 ∷ text))
            (a_symbol (op_symbol o) ∷ token ∷ []) n
            (blank_then true (symbol_text (op_symbol o)) text (a_symbol (op_symbol o)) (token ∷ [])
            (symbol_printed (op_symbol o))
            (blank_one text token (literal_printed below.instants k.0 l is)) refl));
        formed = tt;
        means = asked s a k.0 (compared o (written_of l)) (tree.compare a o l) n
            (ap (λ m. Some (option_map (λ l. tree.compare a o l) m)) (literal_means k.0 l is)) h;
      }

  pub between_tested : (a : ℕ) (low high : Literal) → Suits s (tree.between a low high)
      → Tested s (tree.between a low high)
  between_tested a low high h =
      let k = found (may_lie_between low high) (kind_at s a) h in
      let n = names.named s a k.0 typed k.1 in
      let are = and_parts (is_literal_of k.0 low) (is_literal_of k.0 high)
      (and_parts (is_ordered k.0) (is_literal_of k.0 low && is_literal_of k.0 high) k.2).1 in
      let first = literal_token (written_of low) in
      let last = literal_token (written_of high) in
      let rest : Lexed true (keyword_text keyword.And ++ (32 ∷ literal_text high))
      (a_keyword keyword.And ∷ last ∷ []) =
      keyword_then keyword.And (literal_text high) (last ∷ [])
      (blank_one (literal_text high) last (literal_printed below.instants k.0 high are.1)) in
      record {
        trial = named (name_at s a) (between false (written_of low) (written_of high));
        lexed = λ b. name_then s a k.0 b
            (codes "BETWEEN " ++ (literal_text low ++ (codes " AND " ++ literal_text high)))
            (a_keyword keyword.Between ∷ first ∷ a_keyword keyword.And ∷ last ∷ []) n
            (keyword_then keyword.Between (literal_text low ++ (codes " AND " ++ literal_text high))
            (first ∷ a_keyword keyword.And ∷ last ∷ [])
            (blank_then true (literal_text low) (codes "AND " ++ literal_text high) first
            (a_keyword keyword.And ∷ last ∷ [])
            (literal_printed below.instants k.0 low are.0) rest refl));
        formed = tt;
        means = asked s a k.0 (between false (written_of low) (written_of high))
            (tree.between a low high) n
            (ap (λ m. Some (between_literals a m (literal_of (is_date k.0) (written_of high))))
            (literal_means k.0 low are.0)
            ∙ ap (λ m. Some (between_literals a (Some low) m))
            (literal_means k.0 high are.1)) h;
      }

  pub like_tested : (a : ℕ) (pattern : List ℕ) → Suits s (tree.like a pattern)
      → Tested s (tree.like a pattern)
  like_tested a pattern h =
      let p = and_parts (is_utf8 pattern) _ h in
      let k = found _ (kind_at s a) p.1 in
      let n = names.named s a k.0 typed k.1 in record {
        trial = named (name_at s a) (like false pattern);
        lexed = λ b. name_then s a k.0 b (codes "LIKE " ++ quoted_text pattern)
            (a_keyword keyword.Like ∷ a_text pattern ∷ []) n
            (keyword_then keyword.Like (quoted_text pattern) (a_text pattern ∷ [])
            (blank_one (quoted_text pattern) (a_text pattern) (text_printed pattern p.0)));
        formed = tt;
        means = asked s a k.0 (like false pattern) (tree.like a pattern) n refl h;
      }

  pub one_of_tested : (a : ℕ) (ls : List Literal) → Suits s (tree.one_of a ls)
      → Tested s (tree.one_of a ls)
  one_of_tested a [] h = absurd (cc)
  one_of_tested a (l ∷ ls) h =
      let p = and_parts (nat_le 1 (length (l ∷ ls))) _ h in
      let k = found (may_be_one_of (l ∷ ls)) (kind_at s a) p.1 in
      let n = names.named s a k.0 typed k.1 in
      let token : Literal → Seen = λ m. literal_token (written_of m) in
      let are = and_parts (is_literal_of k.0 l) (list_all (is_literal_of k.0) ls) k.2 in
      let each : (m : Literal) → is_literal_of k.0 m ≡ true
      → Printed (literal_text m) (literal_token (written_of m)) =
      literal_printed below.instants k.0 in
      let text = commas literal_text true (l ∷ ls) ++ codes ")" in
      let inside : Opened text (by_commas token (l ∷ ls) ++ closing ∷ []) =
      list_opened literal_text token l ls (each l are.0)
      (all_printed literal_text token (is_literal_of k.0) each ls are.1) in
      let tokens = by_commas literal_token (map written_of (l ∷ ls)) ++ closing ∷ [] in
      let opens : Opened text tokens =
      subst (λ z. Opened text (z ++ closing ∷ [])) (sym (commas_written (l ∷ ls))) inside in
      record {
        trial = named (name_at s a) (one_of false (map written_of (l ∷ ls)));
        lexed = λ b. name_then s a k.0 b (codes "IN (" ++ text)
            (a_keyword keyword.In ∷ opening ∷ tokens) n
            (keyword_then keyword.In (40 ∷ text) (opening ∷ tokens)
            (opening_then true text tokens opens));
        formed = has_one (written_of l) (map written_of ls);
        means = asked s a k.0 (one_of false (map written_of (l ∷ ls))) (tree.one_of a (l ∷ ls)) n
            (ap (λ m. Some (option_map (λ ls. tree.one_of a ls) m))
            (literals_mean k.0 (l ∷ ls) k.2)) h;
      }

  pub null_tested : (a : ℕ) → Suits s (tree.is_null a) → Tested s (tree.is_null a)
  null_tested a h =
      let k = found _ (kind_at s a) h in
      let n = names.named s a k.0 typed k.1 in record {
        trial = named (name_at s a) (null false);
        lexed = λ b. name_then s a k.0 b (codes "IS NULL")
            (a_keyword keyword.Is ∷ a_keyword keyword.Null ∷ []) n
            (keyword_then keyword.Is (codes "NULL") (a_keyword keyword.Null ∷ [])
            (word true keyword.Null));
        formed = tt;
        means = asked s a k.0 (null false) (tree.is_null a) n refl h;
      }

  corner_lexed : (p : Point) (rest : List ℕ) (r : List Seen) → wkt.FitsPoint p → Lexed false rest r
      → Begins rest
      → Lexed false (corner_text p ++ rest)
      (comma ∷ a_number (fixed_text p.x) ∷ comma ∷ a_number (fixed_text p.y) ∷ r)
  corner_lexed p rest r f l e =
      let x = fixed_text p.x in
      let y = fixed_text p.y in
      subst (λ z. Lexed false (44 ∷ 32 ∷ z) (comma ∷ a_number x ∷ comma ∷ a_number y ∷ r))
      (sym (append_assoc x (44 ∷ 32 ∷ y) rest))
      (comma_then (x ++ (44 ∷ 32 ∷ (y ++ rest))) (a_number x ∷ comma ∷ a_number y ∷ r)
      (blank_then false x (44 ∷ 32 ∷ (y ++ rest)) (a_number x) (comma ∷ a_number y ∷ r)
      (number p.x f.x)
      (comma_then (y ++ rest) (a_number y ∷ r)
      (blank_then false y rest (a_number y) r (number p.y f.y) l e)) refl))

  coordinate : (z : ℤ) → SFits w32 z → fixed_in_range (fixed_text z) ≡ Some z
  coordinate z f = ap value_in_range (below.fixed z f)

  abbrev sides_of : Box2 → Sides
  sides_of b = record {
    west = fixed_text b.low.x;
    south = fixed_text b.low.y;
    east = fixed_text b.high.x;
    north = fixed_text b.high.y;
  }

  corner : (p : Point) → wkt.FitsPoint p
      → point_of (fixed_in_range (fixed_text p.x)) (fixed_in_range (fixed_text p.y)) ≡ Some p
  corner p f = ap (λ o. point_of o (fixed_in_range (fixed_text p.y))) (coordinate p.x f.x)
      ∙ ap (point_of (Some p.x)) (coordinate p.y f.y)

  box_back : (b : Box2) → wkt.FitsPoint b.low → wkt.FitsPoint b.high → box_of (sides_of b) ≡ Some b
  box_back b f g =
      ap (λ o. box_between o
      (point_of (fixed_in_range (fixed_text b.high.x)) (fixed_in_range (fixed_text b.high.y))))
      (corner b.low f) ∙ ap (box_between (Some b.low)) (corner b.high g)

  pub bbox_tested : (a : ℕ) (x : Box2) → Suits s (tree.bbox a x) → Tested s (tree.bbox a x)
  bbox_tested a x h =
      let p = and_parts (is_box x) _ h in
      let k = found _ (kind_at s a) p.1 in
      let n = names.named s a k.0 typed k.1 in
      let are = and_parts (is_in_world x.low) (is_in_world x.high)
      (and_parts (is_in_world x.low && is_in_world x.high)
      (int_le x.low.x x.high.x && int_le x.low.y x.high.y) p.0).0 in
      let low = point_fits number x.low are.0 in
      let high = point_fits number x.high are.1 in
      let name = name_at s a in
      let last = comma ∷ a_number (fixed_text x.high.x) ∷ comma ∷ a_number (fixed_text x.high.y)
      ∷ closing ∷ [] in
      let tokens = comma ∷ a_number (fixed_text x.low.x) ∷ comma
      ∷ a_number (fixed_text x.low.y) ∷ last in
      let rest = corner_text x.low ++ (corner_text x.high ++ codes ")") in
      let corners : Lexed false rest tokens =
      corner_lexed x.low (corner_text x.high ++ codes ")") last low
      (corner_lexed x.high (codes ")") (closing ∷ []) high closing_last refl) refl in record {
        trial = named name (in_box (sides_of x) None);
        lexed = λ b. called b keyword.Bbox (name_text name ++ rest) (a_name name ∷ tokens)
            (opened false (name_text name ++ rest) (a_name name ∷ tokens)
            (piece_then false false (name_text name) rest (a_name name) tokens refl n.printed
            corners refl));
        formed = tt;
        means = asked s a k.0 (in_box (sides_of x) None) (tree.bbox a x) n
            (ap (λ m. Some (option_map (λ b. tree.bbox a b) m)) (box_back x low high)) h;
      }

  related_lexed : (r : Relation) (a : ℕ) (k : Kind) (g : Geometry) → Named s a k
      → Prints number g → (b : Bool)
      → Lexed b (related_text (relation_text r) (name_at s a) g)
      (test_tokens (named (name_at s a) (related r (geometry_tokens g))))
  related_lexed r a k g n p b =
      let name = name_at s a in
      let piece = geometry_tokens g in
      let tokens = piece ++ closing ∷ [] in
      let text = wkt.printed g ++ codes ")" in
      let inside : Lexed true text tokens =
      join true false (wkt.printed g) (codes ")") piece (closing ∷ []) (p.lexed true)
      closing_last refl in
      let rest = name_text name ++ (44 ∷ 32 ∷ text) in
      subst (λ z. Lexed b z (a_keyword (relation_word r) ∷ opening ∷ a_name name ∷ comma ∷ tokens))
      (sym (relation_called r rest))
      (called b (relation_word r) rest (a_name name ∷ comma ∷ tokens)
      (opened false rest (a_name name ∷ comma ∷ tokens)
      (piece_then false false (name_text name) (44 ∷ 32 ∷ text) (a_name name) (comma ∷ tokens)
      refl n.printed (comma_then text tokens inside) refl)))

  related_means : (r : Relation) (a : ℕ) (k : Kind) (g : Geometry) → Named s a k → Prints number g
      → fault_of g ≡ None → Suits s (lies a r g)
      → judged s (named (name_at s a) (related r (geometry_tokens g))) ≡ Some (sound (lies a r g))
  related_means r a k g n p e h =
      asked s a k (related r (geometry_tokens g)) (lies a r g) n
      (ap (λ o. option_map (λ kept. option_map (lies a r) kept) o)
      (ap kept_of (ap answer_of p.back ∙ below.kept g e))) h

  pub intersects_tested : (a : ℕ) (g : Geometry) → Suits s (tree.intersects a g)
      → Tested s (tree.intersects a g)
  unfolding relation_text
  intersects_tested a g h =
      let p = and_parts (is_kept g) _ h in
      let k = found _ (kind_at s a) p.1 in
      let n = names.named s a k.0 typed k.1 in
      let e = none_is (fault_of g) p.0 in
      let x = prints number g e in record {
        trial = named (name_at s a) (related relation.Intersects (geometry_tokens g));
        lexed = related_lexed relation.Intersects a k.0 g n x;
        formed = x.one;
        means = related_means relation.Intersects a k.0 g n x e h;
      }

  pub disjoint_tested : (a : ℕ) (g : Geometry) → Suits s (tree.disjoint a g)
      → Tested s (tree.disjoint a g)
  unfolding relation_text
  disjoint_tested a g h =
      let p = and_parts (is_kept g) _ h in
      let k = found _ (kind_at s a) p.1 in
      let n = names.named s a k.0 typed k.1 in
      let e = none_is (fault_of g) p.0 in
      let x = prints number g e in record {
        trial = named (name_at s a) (related relation.Disjoint (geometry_tokens g));
        lexed = related_lexed relation.Disjoint a k.0 g n x;
        formed = x.one;
        means = related_means relation.Disjoint a k.0 g n x e h;
      }

  pub within_tested : (a : ℕ) (g : Geometry) → Suits s (tree.within a g)
      → Tested s (tree.within a g)
  unfolding relation_text
  within_tested a g h =
      let p = and_parts (has_area g && is_kept g) _ h in
      let k = found _ (kind_at s a) p.1 in
      let n = names.named s a k.0 typed k.1 in
      let e = none_is (fault_of g) (and_parts (has_area g) (is_kept g) p.0).1 in
      let x = prints number g e in record {
        trial = named (name_at s a) (related relation.Within (geometry_tokens g));
        lexed = related_lexed relation.Within a k.0 g n x;
        formed = x.one;
        means = related_means relation.Within a k.0 g n x e h;
      }

  pub during_tested : (a : ℕ) (low high : ℤ) → Suits s (tree.during a low high)
      → Tested s (tree.during a low high)
  during_tested a low high h =
      let p = and_parts (is_instant low && is_instant high) _ h in
      let are = and_parts (is_instant low) (is_instant high) p.0 in
      let k = found _ (kind_at s a) p.1 in
      let n = names.named s a k.0 typed k.1 in
      let slash = a_symbol symbol.Slash in
      let rest : Lexed false (47 ∷ instant_text high) (slash ∷ an_instant high ∷ []) =
      symbol_then false symbol.Slash (instant_text high) (an_instant high ∷ []) (λ rest. tt)
      (opened_one (instant_text high) (an_instant high)
      (instant_printed below.instants high are.1)) in record {
        trial = named (name_at s a) (during low high);
        lexed = λ b. name_then s a k.0 b
            (codes "DURING " ++ (instant_text low ++ (codes "/" ++ instant_text high)))
            (a_keyword keyword.During ∷ an_instant low ∷ slash ∷ an_instant high ∷ []) n
            (keyword_then keyword.During (instant_text low ++ (codes "/" ++ instant_text high))
            (an_instant low ∷ slash ∷ an_instant high ∷ [])
            (blank_then false (instant_text low) (47 ∷ instant_text high) (an_instant low)
            (slash ∷ an_instant high ∷ [])
            (instant_printed below.instants low are.0) rest refl));
        formed = tt;
        means = asked s a k.0 (during low high) (tree.during a low high) n refl h;
      }

  timed_lexed : (t : Timing) (a : ℕ) (k : Kind) (at : ℤ) → Named s a k
      → is_instant at ≡ true → (b : Bool)
      → Lexed b (timed_text (name_at s a) (timing_text t) at)
      (test_tokens (named (name_at s a) (timed t at)))
  timed_lexed t a k at n is b =
      subst (λ z. Lexed b (name_text (name_at s a) ++ z)
      (a_name (name_at s a) ∷ a_keyword (timing_word t) ∷ an_instant at ∷ []))
      (sym (timing_spaced t (instant_text at)))
      (name_then s a k b (keyword_text (timing_word t) ++ (32 ∷ instant_text at))
      (a_keyword (timing_word t) ∷ an_instant at ∷ []) n
      (keyword_then (timing_word t) (instant_text at) (an_instant at ∷ [])
      (blank_one (instant_text at) (an_instant at) (instant_printed below.instants at is))))

  pub before_tested : (a : ℕ) (at : ℤ) → Suits s (tree.before a at) → Tested s (tree.before a at)
  unfolding timing_text
  before_tested a at h =
      let p = and_parts (is_instant at) _ h in
      let k = found _ (kind_at s a) p.1 in
      let n = names.named s a k.0 typed k.1 in record {
        trial = named (name_at s a) (timed timing.Before at);
        lexed = timed_lexed timing.Before a k.0 at n p.0;
        formed = tt;
        means = asked s a k.0 (timed timing.Before at) (tree.before a at) n refl h;
      }

  pub after_tested : (a : ℕ) (at : ℤ) → Suits s (tree.after a at) → Tested s (tree.after a at)
  unfolding timing_text
  after_tested a at h =
      let p = and_parts (is_instant at) _ h in
      let k = found _ (kind_at s a) p.1 in
      let n = names.named s a k.0 typed k.1 in record {
        trial = named (name_at s a) (timed timing.After at);
        lexed = timed_lexed timing.After a k.0 at n p.0;
        formed = tt;
        means = asked s a k.0 (timed timing.After at) (tree.after a at) n refl h;
      }

  pub tequals_tested : (a : ℕ) (at : ℤ) → Suits s (tree.tequals a at) → Tested s (tree.tequals a at)
  unfolding timing_text
  tequals_tested a at h =
      let p = and_parts (is_instant at) _ h in
      let k = found _ (kind_at s a) p.1 in
      let n = names.named s a k.0 typed k.1 in record {
        trial = named (name_at s a) (timed timing.Tequals at);
        lexed = timed_lexed timing.Tequals a k.0 at n p.0;
        formed = tt;
        means = asked s a k.0 (timed timing.Tequals at) (tree.tequals a at) n refl h;
      }
