-- The function gives exactly the geometry that the text spells.
use Rattle.std.proofs.Common.{◌≡◌, ℕ, zero, suc, ◌<◌, ◌≤◌, Bool, true, false, List, [], ◌∷◌, ◌++◌}
use Rattle.std.proofs.Common.{length, map, take, drop, Option, Some, None, Result, Ok, Err, refl}
use Rattle.std.proofs.Common.{sym, ap, ◌∙◌, subst, arith, append-nil, length-append}
use Rattle.std.specs.Option.{option_map, option_and_then}
use Rattle.std.specs.Char.{to_ascii_lowercase}
use Rattle.gm_base.proofs.Options.{map_some, then_some}
use Rattle.gm_geom.specs.declared.point.Point.{Point}
use Rattle.gm_geom.specs.declared.geometry.Geometry.{Geometry}
use Rattle.gm_geom.specs.declared.geometry.Geometry.TheVariants as geo
use Rattle.gm_wkt.specs.declared.keyword.Keyword.{Keyword}
use Rattle.gm_wkt.specs.declared.keyword.Keyword.TheVariants as keyword
use Rattle.gm_wkt.specs.Grammar.{SpellsMember, SpellsList, SpellsPosition, SpellsLone, SpellsLine}
use Rattle.gm_wkt.specs.Grammar.{SpellsRings, SpellsLoose, SpellsBody, SpellsText, keyword_of}
use Rattle.gm_wkt.specs.Reader.{skip_blanks, behind, separator_at, point_at, lone_at, SpellsPoint}
use Rattle.gm_wkt.specs.Reader.{Starts, Ends, Takes, UpTo}
use Rattle.gm_wkt.specs.Starting.{point_starts, list_starts}
use Rattle.gm_wkt.specs.declared.fault.WktFault.{WktFault}
use Rattle.gm_wkt.specs.declared.fault.WktFault.TheVariants as fault
use Rattle.gm_wkt.specs.Answer.{IsAnswer, IsUnlessMemory, kept_or, judged, answer_of}
use Rattle.gm_wkt.specs.Keyword.{letter_run, keyword_named}
use Rattle.gm_wkt.specs.Value.{Reader, member_then, members_at, list_at, if_last, whole, line_at}
use Rattle.gm_wkt.specs.Value.{body_of, geometry_of}
use Rattle.gm_wkt.proofs.Points.{point_found, point_only, lone_found, lone_only, behind_some}
use Rattle.gm_wkt.proofs.Members.{member_item, member_found, list_at_front, list_found}
use Rattle.gm_wkt.proofs.Keywords.{text_keyword, text_body, text_found}

-- a reader that is exact
record IsExact {A : Type 0} (item : Reader A) (Item : List ℕ → A → Type 0) : Type 0 where
  found : (text : List ℕ) (r : A × List ℕ) → item text ≡ Some r → Takes Item text r.0 r.1
  only : (front tail : List ℕ) (x : A) → Item front x → Ends tail
      → item (front ++ tail) ≡ Some (x, tail)
  starts : (bytes : List ℕ) (x : A) → Item bytes x → Starts bytes

more_up_to : {A : Type 0} (Item : List ℕ → A → Type 0) (text rest tail : List ℕ) (x : A)
    (xs : List A) → SpellsMember Item text x (44 ∷ rest) → UpTo Item rest xs tail
    → UpTo Item text (x ∷ xs) tail
more_up_to Item text rest tail x [] m u = absurd u
more_up_to Item text rest tail x (y ∷ ys) m u = (rest, m, u)

members_found : {A : Type 0} (item : Reader A) (Item : List ℕ → A → Type 0) → IsExact item Item
    → (n : ℕ) (text : List ℕ) (r : List A × List ℕ) → members_at item n text ≡ Some r
    → UpTo Item text r.0 r.1
unfolding members_at
members_found item Item exact zero text r e = absurd (cc)
members_found {A = A} item Item exact (suc n) text r e =
    let read = then_some
    (λ (m : A × List ℕ). member_then (members_at item n) m.0 (separator_at m.1))
    (item (skip_blanks text)) r e in
    let taken = exact.found (skip_blanks text) read.0 read.1 in
    by_separator (λ rest q e. members_found item Item exact n rest q e) (separator_at read.0.1)
    read.0.0 read.0.1 taken refl read.2
  where
    last : (x : A) (after rest : List ℕ) → Takes Item (skip_blanks text) x after
        → separator_at after ≡ Some (false, rest) → ◌≡◌ {A = Option (List A × List ℕ)}
        (Some (x ∷ [], rest)) (Some r) → UpTo Item text r.0 r.1
    last x after rest taken s e =
        let same : ◌≡◌ {A = List A × List ℕ} (x ∷ [], rest) r = cc in
        let P : List A × List ℕ → Type 0 = λ q. UpTo Item text q.0 q.1 in
        subst P same (member_found Item text after x (false, rest) taken s)

    more : ((rest : List ℕ) (q : List A × List ℕ) → members_at item n rest ≡ Some q
        → UpTo Item rest q.0 q.1) → (x : A) (after rest : List ℕ)
        → Takes Item (skip_blanks text) x after → separator_at after ≡ Some (true, rest)
        → option_map (λ q. (x ∷ q.0, q.1)) (members_at item n rest) ≡ Some r
        → UpTo Item text r.0 r.1
    more again x after rest taken s e =
        let read = map_some (λ (q : List A × List ℕ). (x ∷ q.0, q.1))
        (members_at item n rest) r e in
        let P : List A × List ℕ → Type 0 = λ q. UpTo Item text q.0 q.1 in
        subst P read.2
        (more_up_to Item text rest read.0.1 x read.0.0
        (member_found Item text after x (true, rest) taken s) (again rest read.0 read.1))

    by_separator : ((rest : List ℕ) (q : List A × List ℕ) → members_at item n rest ≡ Some q
        → UpTo Item rest q.0 q.1) → (o : Option (Bool × List ℕ)) (x : A) (after : List ℕ)
        → Takes Item (skip_blanks text) x after → separator_at after ≡ o
        → member_then (members_at item n) x o ≡ Some r → UpTo Item text r.0 r.1
    by_separator again None x after taken s e = absurd (cc)
    by_separator again (Some (true, rest)) x after taken s e = more again x after rest taken s e
    by_separator again (Some (false, rest)) x after taken s e = last x after rest taken s e

members_only : {A : Type 0} (item : Reader A) (Item : List ℕ → A → Type 0) → IsExact item Item
    → (n : ℕ) (text : List ℕ) (xs : List A) (tail : List ℕ) → UpTo Item text xs tail → length xs ≤ n
    → members_at item n text ≡ Some (xs, tail)
unfolding members_at
members_only item Item exact n text [] tail u few = absurd u
members_only item Item exact zero text (x ∷ []) tail u few = absurd (omega arith)
members_only item Item exact zero text (x ∷ y ∷ ys) tail u few = absurd (omega arith)
members_only item Item exact (suc n) text (x ∷ []) tail u few =
    let at = member_item Item exact.starts text x false tail u in
    ap (λ o. option_and_then (λ m. member_then (members_at item n) m.0 (separator_at m.1)) o)
    (ap item at.4 ∙ exact.only at.0 at.1 x at.2 at.3)
    ∙ ap (λ o. member_then (members_at item n) x o) at.5
members_only item Item exact (suc n) text (x ∷ y ∷ ys) tail u few =
    let at = member_item Item exact.starts text x true u.0 u.1 in
    ap (λ o. option_and_then (λ m. member_then (members_at item n) m.0 (separator_at m.1)) o)
    (ap item at.4 ∙ exact.only at.0 at.1 x at.2 at.3)
    ∙ ap (λ o. member_then (members_at item n) x o) at.5
    ∙ ap (λ o. option_map (λ q. (x ∷ q.0, q.1)) o)
    (members_only item Item exact n u.0 (y ∷ ys) tail u.2 (omega arith))

-- there are no more members than bytes
member_longer : {A : Type 0} (Item : List ℕ → A → Type 0) (text : List ℕ) (x : A) (b : ℕ)
    (rest : List ℕ) → SpellsMember Item text x (b ∷ rest) → length rest < length text
member_longer Item text x b rest m =
    omega (
      arith,
      ap length m.written,
      length-append m.before (m.item ++ (m.after ++ b ∷ rest)),
      length-append m.item (m.after ++ b ∷ rest),
      length-append m.after (b ∷ rest),
    )

fewer : {A : Type 0} (Item : List ℕ → A → Type 0) (text : List ℕ) (xs : List A) (tail : List ℕ)
    → UpTo Item text xs tail → length xs ≤ length text
fewer Item text [] tail u = absurd u
fewer Item text (x ∷ []) tail u = omega (arith, member_longer Item text x 41 tail u)
fewer Item text (x ∷ y ∷ ys) tail u =
    omega (arith, member_longer Item text x 44 u.0 u.1, fewer Item u.0 (y ∷ ys) tail u.2)

list_exact : {A : Type 0} (item : Reader A) (Item : List ℕ → A → Type 0) → IsExact item Item
    → IsExact (list_at item) (SpellsList Item)
list_exact item Item exact = record {
  found = λ text r e.
      let read = then_some (λ (inside : List ℕ). members_at item (length inside) inside)
      (behind 40 text) r e in
      list_found Item text read.0 r.0 r.1 (behind_some 40 text read.0 read.1)
      (members_found item Item exact (length read.0) read.0 r read.2);
  only = λ front tail xs l ends.
      let at = list_at_front Item front xs tail l in
      ap (list_at item) at.2
      ∙ members_only item Item exact (length at.0) at.0 xs tail at.1
      (fewer Item at.0 xs tail at.1);
  starts = list_starts Item;
}

point_exact : (loose : Bool) → IsExact (point_at loose) (SpellsPoint loose)
point_exact loose =
    record { found = point_found loose; only = point_only loose; starts = point_starts loose }

position_exact : IsExact (point_at false) SpellsPosition
position_exact = let p = point_exact false in
    record {
      found = λ text r e. let t = p.found text r e in
          record { front = t.front; spells = t.spells; written = t.written };
      only =
          p.only;
      starts = p.starts;
    }

loose_exact : IsExact (point_at true) SpellsLoose
loose_exact = let p = point_exact true in
    record {
      found = λ text r e. let t = p.found text r e in
          record { front = t.front; spells = t.spells; written = t.written };
      only =
          p.only;
      starts = p.starts;
    }

lone_exact : IsExact lone_at SpellsLone
lone_exact = record {
  found = lone_found;
  only = λ front tail x s ends. lone_only front tail x s;
  starts = λ bytes x s. list_starts SpellsPosition bytes (x ∷ []) s;
}

line_exact : IsExact line_at SpellsLine
line_exact = list_exact (point_at false) SpellsPosition position_exact

rings_exact : IsExact (list_at line_at) SpellsRings
rings_exact = list_exact line_at SpellsLine line_exact

last_some : {A : Type 0} (x : A) (rest : List ℕ) (y : A) → if_last x rest ≡ Some y
    → (x ≡ y) × (rest ≡ [])
last_some x [] y e = (cc, refl)
last_some x (b ∷ rest) y e = absurd (cc)

whole_found : {A : Type 0} (item : Reader A) (Item : List ℕ → A → Type 0) → IsExact item Item
    → (text : List ℕ) (x : A) → whole item text ≡ Some x → Item text x
whole_found item Item exact text x e =
    let read = then_some (λ r. if_last r.0 r.1) (item text) x e in
    let end = last_some read.0.0 read.0.1 x read.2 in
    let t = exact.found text read.0 read.1 in
    subst (λ y. Item text y) end.0
    (subst (λ u. Item u read.0.0)
    (sym (t.written ∙ ap (λ r. t.front ++ r) end.1 ∙ append-nil t.front)) t.spells)

whole_only : {A : Type 0} (item : Reader A) (Item : List ℕ → A → Type 0) → IsExact item Item
    → (text : List ℕ) (x : A) → Item text x → whole item text ≡ Some x
whole_only item Item exact text x s =
    ap (λ o. option_and_then (λ r. if_last r.0 r.1) o)
    (ap item (sym (append-nil text)) ∙ exact.only text [] x s tt)

body_found : (k : Keyword) (body : List ℕ) (g : Geometry) → body_of k body ≡ Some g
    → (keyword_of g ≡ k) × SpellsBody body g
body_found keyword.Point body g e =
    let read = map_some (λ (x : Point). geo.Point x) (whole lone_at body) g e in
    let P : Geometry → Type 0 = λ h. (keyword_of h ≡ keyword.Point) × SpellsBody body h in
    subst P read.2 (refl, whole_found lone_at SpellsLone lone_exact body read.0 read.1)
body_found keyword.Line body g e =
    let read = map_some (λ (x : List Point). geo.Line x) (whole line_at body) g e in
    let P : Geometry → Type 0 = λ h. (keyword_of h ≡ keyword.Line) × SpellsBody body h in
    subst P read.2 (refl, whole_found line_at SpellsLine line_exact body read.0 read.1)
body_found keyword.Area body g e =
    let read = map_some (λ (x : List (List Point)). geo.Area x)
    (whole (list_at line_at) body) g e in
    let P : Geometry → Type 0 = λ h. (keyword_of h ≡ keyword.Area) × SpellsBody body h in
    subst P read.2 (refl, whole_found (list_at line_at) SpellsRings rings_exact body read.0 read.1)
body_found keyword.ManyPoints body g e =
    let read = map_some (λ (x : List Point). geo.ManyPoints x)
    (whole (list_at (point_at true)) body) g e in
    let P : Geometry → Type 0 = λ h. (keyword_of h ≡ keyword.ManyPoints) × SpellsBody body h in
    subst P read.2 (
      refl,
      whole_found (list_at (point_at true)) (SpellsList SpellsLoose)
          (list_exact (point_at true) SpellsLoose loose_exact) body read.0 read.1,
    )
body_found keyword.ManyLines body g e =
    let read = map_some (λ (x : List (List Point)). geo.ManyLines x)
    (whole (list_at line_at) body) g e in
    let P : Geometry → Type 0 = λ h. (keyword_of h ≡ keyword.ManyLines) × SpellsBody body h in
    subst P read.2 (refl, whole_found (list_at line_at) SpellsRings rings_exact body read.0 read.1)
body_found keyword.ManyAreas body g e =
    let read = map_some (λ (x : List (List (List Point))). geo.ManyAreas x)
    (whole (list_at (list_at line_at)) body) g e in
    let P : Geometry → Type 0 = λ h. (keyword_of h ≡ keyword.ManyAreas) × SpellsBody body h in
    subst P read.2 (
      refl,
      whole_found (list_at (list_at line_at)) (SpellsList SpellsRings)
          (list_exact (list_at line_at) SpellsRings rings_exact) body read.0 read.1,
    )

body_only : (body : List ℕ) (g : Geometry) → SpellsBody body g
    → body_of (keyword_of g) body ≡ Some g
body_only body (geo.Point x) s =
    ap (λ o. option_map (λ (x : Point). geo.Point x) o)
    (whole_only lone_at SpellsLone lone_exact body x s)
body_only body (geo.Line x) s =
    ap (λ o. option_map (λ (x : List Point). geo.Line x) o)
    (whole_only line_at SpellsLine line_exact body x s)
body_only body (geo.Area x) s =
    ap (λ o. option_map (λ (x : List (List Point)). geo.Area x) o)
    (whole_only (list_at line_at) SpellsRings rings_exact body x s)
body_only body (geo.ManyPoints x) s =
    ap (λ o. option_map (λ (x : List Point). geo.ManyPoints x) o)
    (whole_only (list_at (point_at true)) (SpellsList SpellsLoose)
    (list_exact (point_at true) SpellsLoose loose_exact) body x s)
body_only body (geo.ManyLines x) s =
    ap (λ o. option_map (λ (x : List (List Point)). geo.ManyLines x) o)
    (whole_only (list_at line_at) SpellsRings rings_exact body x s)
body_only body (geo.ManyAreas x) s =
    ap (λ o. option_map (λ (x : List (List (List Point))). geo.ManyAreas x) o)
    (whole_only (list_at (list_at line_at)) (SpellsList SpellsRings)
    (list_exact (list_at line_at) SpellsRings rings_exact) body x s)

pub geometry_found : (text : List ℕ) (g : Geometry) → geometry_of text ≡ Some g → SpellsText text g
geometry_found text g e =
    let read = then_some (λ (k : Keyword). body_of k (skip_blanks (drop (letter_run text) text)))
    (keyword_named (map to_ascii_lowercase (take (letter_run text) text))) g e in
    let body = body_found read.0 (skip_blanks (drop (letter_run text) text)) g read.2 in
    text_found text (take (letter_run text) text) (drop (letter_run text) text)
    (skip_blanks (drop (letter_run text) text)) read.0 g refl refl refl (sym read.1)
    body.0 body.1

pub geometry_only : (text : List ℕ) (g : Geometry) → SpellsText text g → geometry_of text ≡ Some g
geometry_only text g s =
    ap (λ o. option_and_then (λ k. body_of k (skip_blanks (drop (letter_run text) text))) o)
    (text_keyword text g s)
    ∙ body_only (skip_blanks (drop (letter_run text) text)) g (text_body text g s)

none_spelled : (text : List ℕ) (o : Option Geometry) → geometry_of text ≡ o
    → ((g : Geometry) → SpellsText text g → ⊥) → judged o ≡ Err fault.Syntax
none_spelled text None e never = refl
none_spelled text (Some g) e never = absurd (never g (geometry_found text g e))

pub value_from : (text : List ℕ) (r : Result Geometry WktFault) → IsAnswer text r
    → IsUnlessMemory (answer_of text) r
value_from text (Ok g) a = ap judged (geometry_only text g a.0) ∙ ap (kept_or g) a.1
value_from text (Err fault.Syntax) a = none_spelled text (geometry_of text) refl a
value_from text (Err (fault.Geom f)) a =
    ap judged (geometry_only text a.0 a.1) ∙ ap (kept_or a.0) a.2
value_from text (Err fault.NoMemory) a = tt
