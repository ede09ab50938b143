-- A text spells at most one geometry.
use Rattle.std.proofs.Common.{◌≡◌, ℕ, Bool, true, false, List, [], ◌∷◌, ◌++◌, drop, Some, refl, sym}
use Rattle.std.proofs.Common.{ap, ◌∙◌, subst}
use Rattle.gm_geom.specs.declared.point.Point.{Point}
use Rattle.gm_geom.specs.declared.geometry.Geometry.{Geometry}
use Rattle.gm_geom.specs.declared.geometry.Geometry.TheVariants as geo
use Rattle.gm_wkt.specs.Grammar.{SpellsMember, SpellsList, SpellsPosition, SpellsLine, SpellsRings}
use Rattle.gm_wkt.specs.Grammar.{SpellsLoose, SpellsBody, SpellsText, keyword_of}
use Rattle.gm_wkt.specs.Reader.{skip_blanks, separator, separator_at, point_at, SpellsPoint}
use Rattle.gm_wkt.specs.Reader.{Starts, Ends, UpTo}
use Rattle.gm_wkt.specs.Starting.{point_starts, list_starts}
use Rattle.gm_wkt.specs.Keyword.{letter_run}
use Rattle.gm_wkt.proofs.Points.{point_only}
use Rattle.gm_wkt.proofs.Members.{member_item, list_at_front}
use Rattle.gm_wkt.proofs.Readers.{pair_parts}
use Rattle.gm_wkt.proofs.Keywords.{text_keyword, text_body}

-- whatever follows, the front of a text spells at most one value, and what follows is the same
record IsSettled {A : Type 0} (Item : List ℕ → A → Type 0) : Type 0 where
  starts : (bytes : List ℕ) (x : A) → Item bytes x → Starts bytes
  same : (front other tail rest : List ℕ) (x y : A) → Item front x → Ends tail → Item other y
      → Ends rest → front ++ tail ≡ other ++ rest → (x ≡ y) × (tail ≡ rest)

point_settled : (loose : Bool) → IsSettled (SpellsPoint loose)
point_settled loose = record {
  starts = point_starts loose;
  same = λ front other tail rest x y s e t f written.
      pair_parts (x, tail) (y, rest)
      (sym (point_only loose front tail x s e) ∙ ap (λ u. point_at loose u) written
      ∙ point_only loose other rest y t f);
}

member_unique : {A : Type 0} (Item : List ℕ → A → Type 0) → IsSettled Item
    → (text : List ℕ) (x y : A) (more other : Bool) (tail rest : List ℕ)
    → SpellsMember Item text x (separator more ∷ tail)
    → SpellsMember Item text y (separator other ∷ rest) → (x ≡ y) × (more ≡ other) × (tail ≡ rest)
member_unique Item settled text x y more other tail rest m n =
    let a = member_item Item settled.starts text x more tail m in
    let b = member_item Item settled.starts text y other rest n in
    let same = settled.same a.0 b.0 a.1 b.1 x y a.2 a.3 b.2 b.3 (sym a.4 ∙ b.4) in
    let parts = pair_parts (more, tail) (other, rest) (sym a.5 ∙ ap separator_at same.1 ∙ b.5) in
    (same.0, parts.0, parts.1)

up_to_unique : {A : Type 0} (Item : List ℕ → A → Type 0) → IsSettled Item
    → (text : List ℕ) (xs ys : List A) (tail rest : List ℕ) → UpTo Item text xs tail
    → UpTo Item text ys rest → (xs ≡ ys) × (tail ≡ rest)
up_to_unique Item settled text [] ys tail rest u v = absurd u
up_to_unique Item settled text (x ∷ []) [] tail rest u v = absurd v
up_to_unique Item settled text (x ∷ []) (y ∷ []) tail rest u v =
    let same = member_unique Item settled text x y false false tail rest u v in
    (ap (λ z. z ∷ []) same.0, same.2)
up_to_unique Item settled text (x ∷ []) (y ∷ z ∷ zs) tail rest u v =
    let no : false ≡ true =
    (member_unique Item settled text x y false true tail v.0 u v.1).1 in absurd (cc)
up_to_unique Item settled text (x ∷ w ∷ ws) [] tail rest u v = absurd v
up_to_unique Item settled text (x ∷ w ∷ ws) (y ∷ []) tail rest u v =
    let no : true ≡ false =
    (member_unique Item settled text x y true false u.0 rest u.1 v).1 in absurd (cc)
up_to_unique Item settled text (x ∷ w ∷ ws) (y ∷ z ∷ zs) tail rest u v =
    let same = member_unique Item settled text x y true true u.0 v.0 u.1 v.1 in
    let later = up_to_unique Item settled u.0 (w ∷ ws) (z ∷ zs) tail rest u.2
    (subst (λ t. UpTo Item t (z ∷ zs) rest) (sym same.2) v.2) in
    (ap (λ h. h ∷ w ∷ ws) same.0 ∙ ap (λ t. y ∷ t) later.0, later.1)

list_settled : {A : Type 0} (Item : List ℕ → A → Type 0) → IsSettled Item
    → IsSettled (SpellsList Item)
list_settled Item settled = record {
  starts = list_starts Item;
  same = λ front other tail rest xs ys s e t f written.
      let a = list_at_front Item front xs tail s in
      let b = list_at_front Item other ys rest t in
      up_to_unique Item settled a.0 xs ys tail rest a.1
      (subst (λ i. UpTo Item i ys rest)
      (sym (inside_same a.0 b.0 (sym a.2 ∙ written ∙ b.2))) b.1);
}
  where
    inside_same : (a b : List ℕ) → 40 ∷ a ≡ 40 ∷ b → a ≡ b
    inside_same a b e = cc

whole_unique : {A : Type 0} (Item : List ℕ → A → Type 0) → IsSettled Item
    → (text : List ℕ) (x y : A) → Item text x → Item text y → x ≡ y
whole_unique Item settled text x y s t = (settled.same text text [] [] x y s tt t tt refl).0

position_settled : IsSettled SpellsPosition
position_settled = let p = point_settled false in record { starts = p.starts; same = p.same }

loose_settled : IsSettled SpellsLoose
loose_settled = let p = point_settled true in record { starts = p.starts; same = p.same }

line_settled : IsSettled SpellsLine
line_settled = list_settled SpellsPosition position_settled

rings_settled : IsSettled SpellsRings
rings_settled = list_settled SpellsLine line_settled

same_head : (p q : Point) → p ∷ [] ≡ q ∷ [] → p ≡ q
same_head p q e = cc

body_unique : (body : List ℕ) (g h : Geometry) → keyword_of g ≡ keyword_of h → SpellsBody body g
    → SpellsBody body h → g ≡ h
body_unique body (geo.Point x) (geo.Point y) e s t =
    ap (λ p. geo.Point p)
    (same_head x y (whole_unique SpellsLine line_settled body (x ∷ []) (y ∷ []) s t))
body_unique body (geo.Point x) (geo.Line y) e s t = absurd (cc)
body_unique body (geo.Point x) (geo.Area y) e s t = absurd (cc)
body_unique body (geo.Point x) (geo.ManyPoints y) e s t = absurd (cc)
body_unique body (geo.Point x) (geo.ManyLines y) e s t = absurd (cc)
body_unique body (geo.Point x) (geo.ManyAreas y) e s t = absurd (cc)
body_unique body (geo.Line x) (geo.Point y) e s t = absurd (cc)
body_unique body (geo.Line x) (geo.Line y) e s t =
    ap (λ l. geo.Line l) (whole_unique SpellsLine line_settled body x y s t)
body_unique body (geo.Line x) (geo.Area y) e s t = absurd (cc)
body_unique body (geo.Line x) (geo.ManyPoints y) e s t = absurd (cc)
body_unique body (geo.Line x) (geo.ManyLines y) e s t = absurd (cc)
body_unique body (geo.Line x) (geo.ManyAreas y) e s t = absurd (cc)
body_unique body (geo.Area x) (geo.Point y) e s t = absurd (cc)
body_unique body (geo.Area x) (geo.Line y) e s t = absurd (cc)
body_unique body (geo.Area x) (geo.Area y) e s t =
    ap (λ l. geo.Area l) (whole_unique SpellsRings rings_settled body x y s t)
body_unique body (geo.Area x) (geo.ManyPoints y) e s t = absurd (cc)
body_unique body (geo.Area x) (geo.ManyLines y) e s t = absurd (cc)
body_unique body (geo.Area x) (geo.ManyAreas y) e s t = absurd (cc)
body_unique body (geo.ManyPoints x) (geo.Point y) e s t = absurd (cc)
body_unique body (geo.ManyPoints x) (geo.Line y) e s t = absurd (cc)
body_unique body (geo.ManyPoints x) (geo.Area y) e s t = absurd (cc)
body_unique body (geo.ManyPoints x) (geo.ManyPoints y) e s t =
    ap (λ l. geo.ManyPoints l)
    (whole_unique (SpellsList SpellsLoose) (list_settled SpellsLoose loose_settled)
    body x y s t)
body_unique body (geo.ManyPoints x) (geo.ManyLines y) e s t = absurd (cc)
body_unique body (geo.ManyPoints x) (geo.ManyAreas y) e s t = absurd (cc)
body_unique body (geo.ManyLines x) (geo.Point y) e s t = absurd (cc)
body_unique body (geo.ManyLines x) (geo.Line y) e s t = absurd (cc)
body_unique body (geo.ManyLines x) (geo.Area y) e s t = absurd (cc)
body_unique body (geo.ManyLines x) (geo.ManyPoints y) e s t = absurd (cc)
body_unique body (geo.ManyLines x) (geo.ManyLines y) e s t =
    ap (λ l. geo.ManyLines l) (whole_unique SpellsRings rings_settled body x y s t)
body_unique body (geo.ManyLines x) (geo.ManyAreas y) e s t = absurd (cc)
body_unique body (geo.ManyAreas x) (geo.Point y) e s t = absurd (cc)
body_unique body (geo.ManyAreas x) (geo.Line y) e s t = absurd (cc)
body_unique body (geo.ManyAreas x) (geo.Area y) e s t = absurd (cc)
body_unique body (geo.ManyAreas x) (geo.ManyPoints y) e s t = absurd (cc)
body_unique body (geo.ManyAreas x) (geo.ManyLines y) e s t = absurd (cc)
body_unique body (geo.ManyAreas x) (geo.ManyAreas y) e s t =
    ap (λ l. geo.ManyAreas l)
    (whole_unique (SpellsList SpellsRings) (list_settled SpellsRings rings_settled)
    body x y s t)

pub text_unique : (text : List ℕ) (g h : Geometry) → SpellsText text g → SpellsText text h → g ≡ h
text_unique text g h s t =
    let named : Some (keyword_of g) ≡ Some (keyword_of h) =
    sym (text_keyword text g s) ∙ text_keyword text h t in
    let same : keyword_of g ≡ keyword_of h = cc in
    body_unique (skip_blanks (drop (letter_run text) text)) g h same (text_body text g s)
    (text_body text h t)
