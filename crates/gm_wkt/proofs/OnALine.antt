-- No text that spells a geometry is empty, or has 0x0A.
use Rattle.std.specs.Prelude.{map, ◌==◌}
use Rattle.std.proofs.Common.{◌≡◌, ◌<◌, ◌++◌, ◌∷◌, ◌∙◌, [], ℕ, List, Bool, length, refl, sym, ap}
use Rattle.std.proofs.Common.{subst, true, false, inl, inr, arith}
use Rattle.std.specs.List.{list_all, list_any}
use Rattle.std.specs.Char.{to_ascii_lowercase}
use Rattle.std.proofs.lemmas.Bool.{cases_Bool, eqb-true, and_parts, or_parts}
use Rattle.gm_geom.specs.declared.point.Point.{Point}
use Rattle.gm_geom.specs.declared.geometry.Geometry.{Geometry}
use Rattle.gm_geom.specs.declared.geometry.Geometry.TheVariants as geo
use Rattle.gm_geom.specs.Number.{is_number_byte}
use Rattle.gm_wkt.specs.declared.keyword.Keyword.{Keyword}
use Rattle.gm_wkt.specs.declared.keyword.Keyword.TheVariants as keyword
use Rattle.gm_base.specs.Ascii.{is_blank}
use Rattle.gm_wkt.specs.Grammar.{SpellsPosition, SpellsMember, SpellsMembers, SpellsList}
use Rattle.gm_wkt.specs.Grammar.{SpellsLine, SpellsRings, SpellsLoose, SpellsBody, SpellsText}
use Rattle.gm_wkt.specs.Grammar.{keyword_of, keyword_text}

-- no byte is 0x0A
abbrev Clear : List ℕ → Type 0
Clear bytes = list_any (λ byte. byte == 10) bytes ≡ false

-- pieces
joins : (x y : List ℕ) → Clear x → Clear y → Clear (x ++ y)
joins [] y a b = b
joins (c ∷ x) y a b = elim (cases_Bool (c == 10)) [
  | inl e ↦ cc (rw e at a)
  | inr e ↦ rw e (joins x y (rw e at a) b)
]

-- bytes of a class that has not 0x0A
of_class : (test : ℕ → Bool) → test 10 ≡ false → (bytes : List ℕ) → list_all test bytes ≡ true
    → Clear bytes
of_class test none [] all = refl
of_class test none (c ∷ bytes) all =
    let parts = and_parts (test c) (list_all test bytes) all in
    elim (cases_Bool (c == 10)) [
      | inl e ↦ cc (sym none ∙ ap test (sym (eqb-true c 10 e)) ∙ parts.0)
      | inr e ↦ rw e (of_class test none bytes parts.1)
    ]

position : (bytes : List ℕ) (p : Point) → SpellsPosition bytes p → Clear bytes
position bytes p s =
    rw s.written (joins s.first (s.gap ++ s.second)
    (of_class is_number_byte refl s.first s.x.bytes_of)
    (joins s.gap s.second (of_class is_blank refl s.gap s.blanks)
    (of_class is_number_byte refl s.second s.y.bytes_of)))

abbrev AllClear : {A : Type 0} → (List ℕ → A → Type 0) → Type 0
AllClear {A} Item = (bytes : List ℕ) (x : A) → Item bytes x → Clear bytes

member : {A : Type 0} (Item : List ℕ → A → Type 0) → AllClear Item
    → (bytes : List ℕ) (x : A) (rest : List ℕ) → Clear rest → SpellsMember Item bytes x rest
    → Clear bytes
member Item clear bytes x rest r s =
    rw s.written (joins s.before (s.item ++ (s.after ++ rest))
    (of_class is_blank refl s.before s.blanks_before)
    (joins s.item (s.after ++ rest) (clear s.item x s.spells)
    (joins s.after rest (of_class is_blank refl s.after s.blanks_after) r)))

members : {A : Type 0} (Item : List ℕ → A → Type 0) → AllClear Item → (bytes : List ℕ) (xs : List A)
    → SpellsMembers Item bytes xs → Clear bytes
members Item clear bytes [] s = absurd s
members Item clear bytes (x ∷ []) s = member Item clear bytes x [] refl s
members Item clear bytes (x ∷ y ∷ xs) s =
    member Item clear bytes x (44 ∷ s.0) (members Item clear s.0 (y ∷ xs) s.2) s.1

listed : {A : Type 0} (Item : List ℕ → A → Type 0) → AllClear Item → (bytes : List ℕ) (xs : List A)
    → SpellsList Item bytes xs → Clear bytes
listed Item clear bytes xs s = rw s.2 (joins s.0 (41 ∷ []) (members Item clear s.0 xs s.1) refl)

line : (bytes : List ℕ) (points : List Point) → SpellsLine bytes points → Clear bytes
line bytes points s = listed SpellsPosition position bytes points s

rings : (bytes : List ℕ) (lines : List (List Point)) → SpellsRings bytes lines → Clear bytes
rings bytes lines s = listed SpellsLine line bytes lines s

loose : (bytes : List ℕ) (p : Point) → SpellsLoose bytes p → Clear bytes
loose bytes p (inl s) = position bytes p s
loose bytes p (inr s) = line bytes (p ∷ []) s

body_clear : (body : List ℕ) (g : Geometry) → SpellsBody body g → Clear body
body_clear body (geo.Point p) s = line body (p ∷ []) s
body_clear body (geo.Line points) s = line body points s
body_clear body (geo.Area lines) s = rings body lines s
body_clear body (geo.ManyPoints points) s = listed SpellsLoose loose body points s
body_clear body (geo.ManyLines lines) s = rings body lines s
body_clear body (geo.ManyAreas areas) s = listed SpellsRings rings body areas s

-- a name is as clear as its small letters
lowered : (name : List ℕ) → Clear (map to_ascii_lowercase name) → Clear name
lowered [] e = refl
lowered (c ∷ name) e = elim (cases_Bool (c == 10)) [
  | inl same ↦ let at : c ≡ 10 = eqb-true c 10 same in cc (rw at at e)
  | inr other ↦ rw other (lowered name (or_parts _ _ e).1)
]

keyword_clear : (word : Keyword)
    → (Clear (map to_ascii_lowercase (keyword_text word)))
    × (0 < length (map to_ascii_lowercase (keyword_text word)))
keyword_clear keyword.Point = (refl, omega arith)
keyword_clear keyword.Line = (refl, omega arith)
keyword_clear keyword.Area = (refl, omega arith)
keyword_clear keyword.ManyPoints = (refl, omega arith)
keyword_clear keyword.ManyLines = (refl, omega arith)
keyword_clear keyword.ManyAreas = (refl, omega arith)

pub clear : (text : List ℕ) (g : Geometry) → SpellsText text g
    → list_any (λ byte. byte == 10) text ≡ false
clear text g s =
    let small : Clear (map to_ascii_lowercase s.name) =
    subst (λ (t : List ℕ). Clear t) (sym s.named) (keyword_clear (keyword_of g)).0 in
    rw s.written (joins s.name (s.gap ++ s.body) (lowered s.name small)
    (joins s.gap s.body (of_class is_blank refl s.gap s.blanks) (body_clear s.body g s.spells)))

not_empty : (name rest : List ℕ) → 0 < length (map to_ascii_lowercase name)
    → 0 < length (name ++ rest)
not_empty [] rest l = absurd (omega (arith, l))
not_empty (c ∷ name) rest l = omega arith

pub some : (text : List ℕ) (g : Geometry) → SpellsText text g → 0 < length text
some text g s =
    let long : 0 < length (map to_ascii_lowercase s.name) =
    subst (λ (t : List ℕ). 0 < length t) (sym s.named) (keyword_clear (keyword_of g)).1 in
    rw s.written (not_empty s.name (s.gap ++ s.body) long)
