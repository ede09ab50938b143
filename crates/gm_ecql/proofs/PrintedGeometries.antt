-- The tokens of a printed geometry: they are one piece, and stand for the geometry.
use Rattle.std.proofs.Common.{◌≡◌, ℕ, ℤ, pos, negsuc, suc, ◌+◌, ◌<◌, ◌^◌, Bool}
use Rattle.std.proofs.Common.{true, false, not, ◌==◌, cond, List, [], ◌∷◌, ◌++◌, length}
use Rattle.std.proofs.Common.{drop, Some, None, option_map, refl, sym, ◌∙◌, ap, subst}
use Rattle.std.proofs.Common.{arith, append_assoc, append-nil, length-append, codes, if◌then◌else◌}
use Rattle.std.proofs.Common.{leb-true, ltb-true, lit<, take_all, le_refl}
use Rattle.std.specs.List.{list_all, AllByRecursion}
use Rattle.std.proofs.lemmas.List.{drop_all}
use Rattle.std.proofs.lemmas.List.Concat.{flat_map-append}
use Rattle.std.proofs.lemmas.List.Folds.{list_all-append}
use Rattle.std.proofs.lemmas.Bool.Decides.{nat_tests}
use mir.Syntax.{w32}
use mir.Val.{SFits}
use Rattle.std.proofs.lemmas.Bool.{and_parts}
use Rattle.gm_geom.specs.declared.point.Point.{Point}
use Rattle.gm_geom.specs.declared.geometry.Geometry.{Geometry}
use Rattle.gm_geom.specs.declared.geometry.Geometry.TheVariants as geo
use Rattle.gm_geom.specs.declared.validity.GeomFault.TheVariants.{Many, Range, Short, Ring}
use Rattle.gm_geom.specs.Geometry.{joined, points_of}
use Rattle.gm_geom.specs.Number.{fixed_text}
use Rattle.gm_geom.specs.Validity.{is_within, is_in_world, fault_of}
use Rattle.gm_wkt.specs.Printer.{position_text, members_text, separator_text, list_text, line_text}
use Rattle.gm_wkt.specs.Printer.{rings_text, lone_text, printed, FitsPoint}
use Rattle.gm_ecql.specs.declared.keyword.Keyword.{Keyword}
use Rattle.gm_ecql.specs.declared.keyword.Keyword.TheVariants as keyword
use Rattle.gm_ecql.specs.Geometry.{group_count, cut_behind, text_behind, gap_text, token_text}
use Rattle.gm_ecql.specs.Geometry as piece
use Rattle.gm_ecql.specs.Grammar.{comma, opening, closing, IsGeometryPiece}
use Rattle.gm_ecql.specs.Limits.{depth_behind, is_number}
use Rattle.gm_ecql.specs.Token.{Seen, a_keyword, a_number}
use Rattle.gm_ecql.specs.Keyword.{begins_geometry, keyword_text}
use Rattle.gm_ecql.proofs.Lexemes.{Lexed}
use Rattle.gm_ecql.proofs.PrintedWords.{keyword_piece}
use Rattle.gm_ecql.proofs.Sequences.{Begins, Opened, Printed, opened, join, opened_join, blank_one}
use Rattle.gm_ecql.proofs.Sequences.{blank_then, opened_then, piece_then, comma_then, opening_then}
use Rattle.gm_ecql.proofs.Sequences.{closing_last}

abbrev position_tokens : Point → List Seen
position_tokens p = a_number (fixed_text p.x) ∷ a_number (fixed_text p.y) ∷ []

abbrev separator_tokens : Bool → List Seen
separator_tokens true = []
separator_tokens false = comma ∷ []

abbrev members_tokens : {A : Type 0} → (A → List Seen) → Bool → List A → List Seen
members_tokens item first [] = []
members_tokens item first (x ∷ xs) =
    separator_tokens first ++ (item x ++ members_tokens item false xs)

abbrev list_tokens : {A : Type 0} → (A → List Seen) → List A → List Seen
list_tokens item xs = opening ∷ (members_tokens item true xs ++ closing ∷ [])

abbrev line_tokens : List Point → List Seen
line_tokens = list_tokens position_tokens

abbrev rings_tokens : List (List Point) → List Seen
rings_tokens = list_tokens line_tokens

abbrev lone_tokens : Point → List Seen
lone_tokens p = line_tokens (p ∷ [])

abbrev body_tokens : Geometry → List Seen
body_tokens (geo.Point p) = lone_tokens p
body_tokens (geo.Line points) = line_tokens points
body_tokens (geo.Area rings) = rings_tokens rings
body_tokens (geo.ManyPoints points) = list_tokens lone_tokens points
body_tokens (geo.ManyLines lines) = rings_tokens lines
body_tokens (geo.ManyAreas areas) = list_tokens rings_tokens areas

abbrev word_of : Geometry → Keyword
word_of (geo.Point p) = keyword.Point
word_of (geo.Line points) = keyword.LineString
word_of (geo.Area rings) = keyword.Polygon
word_of (geo.ManyPoints points) = keyword.MultiPoint
word_of (geo.ManyLines lines) = keyword.MultiLineString
word_of (geo.ManyAreas areas) = keyword.MultiPolygon

abbrev pub geometry_tokens : Geometry → List Seen
geometry_tokens g = a_keyword (word_of g) ∷ body_tokens g

-- brackets inside are closed, behind one that is open
Balanced : List Seen → Type 0
Balanced ts = (d : ℕ) (rest : List Seen) (n : ℕ) → group_count (suc d) rest ≡ Some n
    → group_count (suc d) (ts ++ rest) ≡ Some (length ts + n)

balanced_joined : (xs ys : List Seen) → Balanced xs → Balanced ys → Balanced (xs ++ ys)
unfolding Balanced
balanced_joined xs ys p q d rest n h =
    ap (group_count (suc d)) (append_assoc xs ys rest)
    ∙ p d (ys ++ rest) (length ys + n) (q d rest n h)
    ∙ ap Some (omega (arith, length-append xs ys))

balanced_none : Balanced []
unfolding Balanced
balanced_none d rest n h = h ∙ ap Some (plain n)
  where
    plain : (n : ℕ) → n ≡ 0 + n
    plain n = omega arith

no_zero : (e : ℕ) → (suc e == 0) ≡ false
no_zero e = grind (arith, nat_tests)

-- one token more, behind which a bracket is open
counted : (t : Seen) (d e : ℕ) (rest : List Seen) (n : ℕ) → depth_behind d t ≡ suc e
    → group_count (suc e) rest ≡ Some n → group_count d (t ∷ rest) ≡ Some (suc n)
counted t d e rest n h g =
    ap (λ k. cond (k == 0) (Some 1) (option_map suc (group_count k rest))) h
    ∙ ap (λ x. cond x (Some 1) (option_map suc (group_count (suc e) rest))) (no_zero e)
    ∙ ap (option_map suc) g

balanced_comma : Balanced (comma ∷ [])
unfolding Balanced
balanced_comma d rest n h = counted comma (suc d) d rest n refl h ∙ ap Some (one_more n)
  where
    one_more : (n : ℕ) → suc n ≡ 1 + n
    one_more n = omega arith

balanced_position : (p : Point) → Balanced (position_tokens p)
unfolding Balanced
balanced_position p d rest n h =
    counted (a_number (fixed_text p.x)) (suc d) d (a_number (fixed_text p.y) ∷ rest) (suc n) refl
    (counted (a_number (fixed_text p.y)) (suc d) d rest n refl h) ∙ ap Some (two_more n)
  where
    two_more : (n : ℕ) → suc (suc n) ≡ 2 + n
    two_more n = omega arith

-- a number does not stand first
calm : List Seen → Type 0
calm [] = Unit {0}
calm (t ∷ ts) = is_number t ≡ false

-- how a member is printed, its tokens, and their text in a geometry
record Member (text : List ℕ) (tokens : List Seen) : Type 0 where
  open_lexed : Opened text tokens
  blank_lexed : Lexed true text tokens
  balanced : Balanced tokens
  back : (rest : List Seen) → calm rest
      → text_behind false (tokens ++ rest) ≡ text ++ text_behind false rest

module _ {A : Type 0} (text : A → List ℕ) (tokens : A → List Seen) where
  AllMembers : List A → Type 0
  AllMembers [] = Unit {0}
  AllMembers (x ∷ xs) = Member (text x) (tokens x) × AllMembers xs

  tail_begins : (xs : List A) → Begins (members_text text false xs ++ 41 ∷ [])
  tail_begins [] = refl
  tail_begins (x ∷ xs) = refl

  tail_lexed : (xs : List A) → AllMembers xs
      → Lexed false (members_text text false xs ++ 41 ∷ [])
      (members_tokens tokens false xs ++ closing ∷ [])
  unfolding AllMembers
  tail_lexed [] p = closing_last
  tail_lexed (x ∷ xs) p =
      subst (λ z. Lexed false (44 ∷ 32 ∷ z)
      (comma ∷ ((tokens x ++ members_tokens tokens false xs) ++ closing ∷ [])))
      (sym (append_assoc (text x) (members_text text false xs) (41 ∷ [])))
      (subst (λ z. Lexed false (44 ∷ 32 ∷ (text x ++ (members_text text false xs ++ 41 ∷ [])))
      (comma ∷ z)) (sym
      (append_assoc (tokens x) (members_tokens tokens false xs) (closing ∷ [])))
      (comma_then (text x ++ (members_text text false xs ++ 41 ∷ []))
      (tokens x ++ (members_tokens tokens false xs ++ closing ∷ []))
      (join true false (text x) (members_text text false xs ++ 41 ∷ []) (tokens x)
      (members_tokens tokens false xs ++ closing ∷ [])
      p.0.blank_lexed (tail_lexed xs p.1) (tail_begins xs))))

  list_lexed : (b : Bool) (xs : List A) → AllMembers xs
      → Lexed b (list_text text xs) (list_tokens tokens xs)
  unfolding AllMembers
  list_lexed b [] p =
      opening_then b (41 ∷ []) (closing ∷ []) (opened false (41 ∷ []) (closing ∷ []) closing_last)
  list_lexed b (x ∷ xs) p =
      subst (λ z. Lexed b (40 ∷ z)
      (opening ∷ ((tokens x ++ members_tokens tokens false xs) ++ closing ∷ [])))
      (sym (append_assoc (text x) (members_text text false xs) (41 ∷ [])))
      (subst (λ z. Lexed b (40 ∷ (text x ++ (members_text text false xs ++ 41 ∷ []))) (opening ∷ z))
      (sym (append_assoc (tokens x) (members_tokens tokens false xs) (closing ∷ [])))
      (opening_then b (text x ++ (members_text text false xs ++ 41 ∷ []))
      (tokens x ++ (members_tokens tokens false xs ++ closing ∷ []))
      (opened_join false (text x) (members_text text false xs ++ 41 ∷ []) (tokens x)
      (members_tokens tokens false xs ++ closing ∷ [])
      p.0.open_lexed (tail_lexed xs p.1) (tail_begins xs))))

  separator_balanced : (first : Bool) → Balanced (separator_tokens first)
  separator_balanced true = balanced_none
  separator_balanced false = balanced_comma

  members_balanced : (first : Bool) (xs : List A) → AllMembers xs
      → Balanced (members_tokens tokens first xs)
  unfolding AllMembers
  members_balanced first [] p = balanced_none
  members_balanced first (x ∷ xs) p =
      balanced_joined (separator_tokens first) (tokens x ++ members_tokens tokens false xs)
      (separator_balanced first)
      (balanced_joined (tokens x) (members_tokens tokens false xs) p.0.balanced
      (members_balanced false xs p.1))

  list_balanced : (xs : List A) → AllMembers xs → Balanced (list_tokens tokens xs)
  unfolding Balanced
  list_balanced xs p d rest n h =
      let inside = members_tokens tokens true xs in
      let closed : group_count (suc (suc d)) (closing ∷ rest) ≡ Some (suc n) =
      counted closing (suc (suc d)) d rest n (omega arith) h in
      let whole : group_count (suc (suc d)) ((inside ++ closing ∷ []) ++ rest)
      ≡ Some (length inside + suc n) =
      ap (group_count (suc (suc d))) (append_assoc inside (closing ∷ []) rest)
      ∙ members_balanced true xs p (suc d) (closing ∷ rest) (suc n) closed in
      counted opening (suc d) (suc d) ((inside ++ closing ∷ []) ++ rest)
      (length inside + suc n) refl whole
      ∙ ap Some (omega (arith, length-append inside (closing ∷ [])))

  separated : (first : Bool) (ts : List Seen)
      → text_behind false (separator_tokens first ++ ts)
      ≡ separator_text first ++ text_behind false ts
  separated true ts = refl
  separated false ts = refl

  members_calm : (xs : List A) (rest : List Seen) → calm rest
      → calm (members_tokens tokens false xs ++ rest)
  unfolding calm
  members_calm [] rest c = c
  members_calm (x ∷ xs) rest c = refl

  members_back : (first : Bool) (xs : List A) (rest : List Seen) → AllMembers xs → calm rest
      → text_behind false (members_tokens tokens first xs ++ rest)
      ≡ members_text text first xs ++ text_behind false rest
  unfolding AllMembers
  members_back first [] rest p c = refl
  members_back first (x ∷ xs) rest p c =
      let later = members_tokens tokens false xs in
      ap (λ z. text_behind false z)
      (append_assoc (separator_tokens first) (tokens x ++ later) rest
      ∙ ap (λ z. separator_tokens first ++ z) (append_assoc (tokens x) later rest))
      ∙ separated first (tokens x ++ (later ++ rest))
      ∙ ap (λ z. separator_text first ++ z)
      (p.0.back (later ++ rest) (members_calm xs rest c)
      ∙ ap (λ z. text x ++ z) (members_back false xs rest p.1 c)
      ∙ sym (append_assoc (text x) (members_text text false xs) (text_behind false rest)))
      ∙ sym (append_assoc (separator_text first) (text x ++ members_text text false xs)
      (text_behind false rest))

  list_back : (xs : List A) (rest : List Seen) → AllMembers xs
      → text_behind false (list_tokens tokens xs ++ rest)
      ≡ list_text text xs ++ text_behind false rest
  unfolding calm
  list_back xs rest p =
      let inside = members_tokens tokens true xs in
      ap (λ z. 40 ∷ text_behind false z) (append_assoc inside (closing ∷ []) rest)
      ∙ ap (λ z. 40 ∷ z) (members_back true xs (closing ∷ rest) p refl)
      ∙ ap (λ z. 40 ∷ z)
      (sym (append_assoc (members_text text true xs) (41 ∷ []) (text_behind false rest)))

  list_member : (xs : List A) → AllMembers xs → Member (list_text text xs) (list_tokens tokens xs)
  list_member xs p = record {
    open_lexed = opened false (list_text text xs) (list_tokens tokens xs) (list_lexed false xs p);
    blank_lexed = list_lexed true xs p;
    balanced = list_balanced xs p;
    back = λ rest c. list_back xs rest p;
  }

  all_members : (P : A → Type 0) → ((x : A) → P x → Member (text x) (tokens x)) → (xs : List A)
      → AllByRecursion P xs → AllMembers xs
  unfolding AllMembers
  all_members P each [] h = tt
  all_members P each (x ∷ xs) h = (each x h.0, all_members P each xs h.1)

  -- a piece of its own
  list_counted : (xs : List A) → AllMembers xs
      → group_count 0 (list_tokens tokens xs) ≡ Some (length (list_tokens tokens xs))
  unfolding Balanced
  list_counted xs p =
      let inside = members_tokens tokens true xs in
      ap (option_map suc) (members_balanced true xs p 0 (closing ∷ []) 1 refl)
      ∙ ap Some (omega (arith, length-append inside (closing ∷ [])))

  list_alone : (xs : List A) → AllMembers xs
      → text_behind false (list_tokens tokens xs) ≡ list_text text xs
  list_alone xs p =
      ap (text_behind false) (sym (append-nil (list_tokens tokens xs))) ∙ list_back xs [] p
      ∙ append-nil (list_text text xs)

one_piece : (w : Keyword) (ts : List Seen) → begins_geometry w ≡ true
    → group_count 0 ts ≡ Some (length ts) → IsGeometryPiece (a_keyword w ∷ ts)
one_piece w ts b c =
    ap (λ x. cond x (cut_behind (group_count 0 ts) (a_keyword w) ts) None) b
    ∙ ap (λ o. cut_behind o (a_keyword w) ts) c
    ∙ ap (λ z. Some (a_keyword w ∷ z, drop (length ts) ts))
    (take_all (length ts) ts (le_refl (length ts)))
    ∙ ap (λ z. Some (a_keyword w ∷ ts, z)) (drop_all (length ts) ts (le_refl (length ts)))

-- Members of each depth.
module _ (numbers : (z : ℤ) → SFits w32 z → Printed (fixed_text z) (a_number (fixed_text z))) where
  position_back : (p : Point) (rest : List Seen) → calm rest
      → text_behind false (position_tokens p ++ rest) ≡ position_text p ++ text_behind false rest
  unfolding calm
  position_back p [] c = sym (append_assoc (fixed_text p.x) (32 ∷ fixed_text p.y) [])
  position_back p (t ∷ ts) c =
      ap (λ x. fixed_text p.x
      ++ (32 ∷ (fixed_text p.y
      ++ (gap_text x ++ (token_text t ++ text_behind (is_number t) ts))))) c
      ∙ sym (append_assoc (fixed_text p.x) (32 ∷ fixed_text p.y) (text_behind false (t ∷ ts)))

  second : (p : Point) → FitsPoint p → Lexed true (fixed_text p.y) (a_number (fixed_text p.y) ∷ [])
  second p f = blank_one (fixed_text p.y) (a_number (fixed_text p.y)) (numbers p.y f.y)

  position_member : (p : Point) → FitsPoint p → Member (position_text p) (position_tokens p)
  position_member p f = record {
    open_lexed = opened_then true (fixed_text p.x) (fixed_text p.y) (a_number (fixed_text p.x))
        (a_number (fixed_text p.y) ∷ []) (numbers p.x f.x) (second p f) refl;
    blank_lexed = blank_then true (fixed_text p.x) (fixed_text p.y) (a_number (fixed_text p.x))
        (a_number (fixed_text p.y) ∷ []) (numbers p.x f.x) (second p f) refl;
    balanced = balanced_position p;
    back = position_back p;
  }

  Line : List Point → Type 0
  Line = AllByRecursion FitsPoint

  Lines : List (List Point) → Type 0
  Lines = AllByRecursion Line

  points_members : (points : List Point) → Line points
      → AllMembers position_text position_tokens points
  unfolding Line
  points_members points f =
      all_members position_text position_tokens FitsPoint position_member points f

  line_member : (points : List Point) → Line points → Member (line_text points) (line_tokens points)
  line_member points f = list_member position_text position_tokens points (points_members points f)

  lines_members : (lines : List (List Point)) → Lines lines → AllMembers line_text line_tokens lines
  unfolding Lines
  lines_members lines f = all_members line_text line_tokens Line line_member lines f

  rings_member : (rings : List (List Point)) → Lines rings
      → Member (rings_text rings) (rings_tokens rings)
  rings_member rings f = list_member line_text line_tokens rings (lines_members rings f)

  areas_members : (areas : List (List (List Point))) → AllByRecursion Lines areas
      → AllMembers rings_text rings_tokens areas
  areas_members areas f = all_members rings_text rings_tokens Lines rings_member areas f

  lone_line : (p : Point) → FitsPoint p → Line (p ∷ [])
  unfolding Line
  lone_line p f = (f, tt)

  lone_member : (p : Point) → FitsPoint p → Member (lone_text p) (lone_tokens p)
  lone_member p f = line_member (p ∷ []) (lone_line p f)

  lone_members : (points : List Point) → Line points → AllMembers lone_text lone_tokens points
  unfolding Line
  lone_members points f = all_members lone_text lone_tokens FitsPoint lone_member points f

  -- what is printed of a geometry
  pub record Prints (g : Geometry) : Type 0 where
    pub lexed : (b : Bool) → Lexed b (printed g) (geometry_tokens g)
    pub one : IsGeometryPiece (geometry_tokens g)
    pub back : piece.text_of (geometry_tokens g) ≡ printed g

  worded : (b : Bool) (w : Keyword) (body : List ℕ) (ts : List Seen) → Lexed true body ts
      → Lexed b (keyword_text w ++ (32 ∷ body)) (a_keyword w ∷ ts)
  worded b w body ts l =
      piece_then b true (keyword_text w) body (a_keyword w) ts refl (keyword_piece w) l refl

  -- coordinates of points in the world fit
  within_fits : (n : ℕ) (z : ℤ) → n < 2 ^ 31 → is_within n z ≡ true → SFits w32 z
  within_fits n (pos m) small e = record { sfits = omega (arith, leb-true m n e) }
  within_fits n (negsuc m) small e = record { sfits = omega (arith, ltb-true m n e) }

  pub point_fits : (p : Point) → is_in_world p ≡ true → FitsPoint p
  point_fits p e =
      let each = and_parts (is_within 1800000000 p.x) (is_within 900000000 p.y) e in
      record {
        x = within_fits 1800000000 p.x (lit< tt) each.0;
        y = within_fits 900000000 p.y (lit< tt) each.1;
      }

  line_fits : (points : List Point) → list_all is_in_world points ≡ true → Line points
  unfolding Line
  line_fits [] e = tt
  line_fits (p ∷ ps) e = let each = and_parts (is_in_world p) (list_all is_in_world ps) e in
      (point_fits p each.0, line_fits ps each.1)

  split : (xs ys : List Point) → list_all is_in_world (xs ++ ys) ≡ true
      → (list_all is_in_world xs ≡ true) × (list_all is_in_world ys ≡ true)
  split xs ys e =
      and_parts (list_all is_in_world xs) (list_all is_in_world ys)
      (sym (list_all-append is_in_world xs ys) ∙ e)

  lines_fit : (lines : List (List Point)) → list_all is_in_world (joined lines) ≡ true → Lines lines
  unfolding Lines
  lines_fit [] e = tt
  lines_fit (l ∷ ls) e = let s = split l (joined ls) e in (line_fits l s.0, lines_fit ls s.1)

  areas_fit : (areas : List (List (List Point)))
      → list_all is_in_world (joined (joined areas)) ≡ true → AllByRecursion Lines areas
  areas_fit [] e = tt
  areas_fit (a ∷ areas) e =
      let s = split (joined a) (joined (joined areas))
      (sym (ap (λ t. list_all is_in_world t) (flat_map-append (λ x. x) a (joined areas)))
      ∙ e) in
      (lines_fit a s.0, areas_fit areas s.1)

  prints_body : (g : Geometry) → list_all is_in_world (points_of g) ≡ true → Prints g
  unfolding Line
  prints_body (geo.Point p) e =
      let f = lone_line p (line_fits (p ∷ []) e).0 in
      let m = points_members (p ∷ []) f in record {
        lexed = λ b. worded b keyword.Point (lone_text p) (lone_tokens p)
            (lone_member p (line_fits (p ∷ []) e).0).blank_lexed;
        one = one_piece keyword.Point (lone_tokens p) refl
            (list_counted position_text position_tokens (p ∷ []) m);
        back = ap (λ z. codes "POINT " ++ z) (list_alone position_text position_tokens (p ∷ []) m);
      }
  prints_body (geo.Line points) e =
      let m = points_members points (line_fits points e) in record {
        lexed = λ b. worded b keyword.LineString (line_text points) (line_tokens points)
            (list_lexed position_text position_tokens true points m);
        one = one_piece keyword.LineString (line_tokens points) refl
            (list_counted position_text position_tokens points m);
        back = ap (λ z. codes "LINESTRING " ++ z)
            (list_alone position_text position_tokens points m);
      }
  prints_body (geo.Area rings) e =
      let m = lines_members rings (lines_fit rings e) in record {
        lexed = λ b. worded b keyword.Polygon (rings_text rings) (rings_tokens rings)
            (list_lexed line_text line_tokens true rings m);
        one = one_piece keyword.Polygon (rings_tokens rings) refl
            (list_counted line_text line_tokens rings m);
        back = ap (λ z. codes "POLYGON " ++ z) (list_alone line_text line_tokens rings m);
      }
  prints_body (geo.ManyPoints points) e =
      let m = lone_members points (line_fits points e) in record {
        lexed = λ b. worded b keyword.MultiPoint (list_text lone_text points)
            (list_tokens lone_tokens points) (list_lexed lone_text lone_tokens true points m);
        one = one_piece keyword.MultiPoint (list_tokens lone_tokens points) refl
            (list_counted lone_text lone_tokens points m);
        back = ap (λ z. codes "MULTIPOINT " ++ z) (list_alone lone_text lone_tokens points m);
      }
  prints_body (geo.ManyLines lines) e =
      let m = lines_members lines (lines_fit lines e) in record {
        lexed = λ b. worded b keyword.MultiLineString (rings_text lines) (rings_tokens lines)
            (list_lexed line_text line_tokens true lines m);
        one = one_piece keyword.MultiLineString (rings_tokens lines) refl
            (list_counted line_text line_tokens lines m);
        back = ap (λ z. codes "MULTILINESTRING " ++ z) (list_alone line_text line_tokens lines m);
      }
  prints_body (geo.ManyAreas areas) e =
      let m = areas_members areas (areas_fit areas e) in record {
        lexed = λ b. worded b keyword.MultiPolygon (list_text rings_text areas)
            (list_tokens rings_tokens areas) (list_lexed rings_text rings_tokens true areas m);
        one = one_piece keyword.MultiPolygon (list_tokens rings_tokens areas) refl
            (list_counted rings_text rings_tokens areas m);
        back = ap (λ z. codes "MULTIPOLYGON " ++ z) (list_alone rings_text rings_tokens areas m);
      }

  in_world : (a b c d : Bool)
      → (if a then Some Many
      else (if not b then Some Range
      else (if c then Some Short else (if d then Some Ring else None)))) ≡ None → b ≡ true
  in_world true b c d e = absurd (cc)
  in_world false false c d e = absurd (cc)
  in_world false true c d e = refl

  pub prints : (g : Geometry) → fault_of g ≡ None → Prints g
  prints g kept = prints_body g (in_world _ _ _ _ kept)
