-- A value that a whole text spells.
use Rattle.std.proofs.Common.{◌≡◌, ℕ, List, [], ◌∷◌, ◌++◌, Option, Some, None, Result, Ok, Err, map}
use Rattle.std.proofs.Common.{take, drop, refl, sym, ap, ◌∙◌, subst, append-nil, true, false}
use Rattle.std.proofs.Common.{length, ◌==◌, eqb-true, arith}
use Rattle.gm_geom.specs.declared.point.Point.{Point}
use Rattle.std.specs.Char.{to_ascii_lowercase}
use Rattle.gm_geom.specs.declared.geometry.Geometry.{Geometry}
use Rattle.gm_geom.specs.Validity.{fault_of}
use Rattle.gm_wkt.specs.declared.keyword.Keyword.{Keyword}
use Rattle.gm_wkt.specs.declared.fault.WktFault.{WktFault}
use Rattle.gm_wkt.specs.declared.fault.WktFault.TheVariants as fault
use Rattle.gm_wkt.specs.Answer.{IsAnswer, IsReadAs}
use Rattle.gm_wkt.specs.Grammar.{SpellsLone, SpellsText, SpellsBody, keyword_of}
use Rattle.gm_wkt.specs.Keyword.{letter_run, keyword_named}
use Rattle.gm_wkt.specs.Reader.{skip_blanks, lone_at}
use Rattle.gm_wkt.proofs.Keywords.{text_keyword, text_body}
use Rattle.gm_wkt.proofs.Points.{lone_found, lone_only}
use Rattle.gm_wkt.proofs.Readers.{pair_parts, ItemOnly}

pub whole_same : {A : Type 0} (Item : List ℕ → A → Type 0) (text rest : List ℕ) (value x : A)
    → ItemOnly Item text value rest → Item text x → (value ≡ x) × (rest ≡ [])
whole_same Item text rest value x only spells = only text [] x spells tt (sym (append-nil text))

pub whole_lone : (text : List ℕ) (x : Point) → SpellsLone text x → lone_at text ≡ Some (x, [])
whole_lone text x s = ap lone_at (sym (append-nil text)) ∙ lone_only text [] x s

some_none : {A : Type 0} (o : Option A) (a : A) → None ≡ o → o ≡ Some a → ⊥
some_none o a none some = cc

pub lone_none : (text : List ℕ) (x : Point) → None ≡ lone_at text → SpellsLone text x → ⊥
lone_none text x none s = some_none (lone_at text) (x, []) none (whole_lone text x s)

pub not_empty : (rest : List ℕ) → false ≡ (length rest == 0) → rest ≡ [] → ⊥
not_empty [] e none = cc
not_empty (b ∷ rest) e none = cc

pub is_nil : (rest : List ℕ) → (length rest == 0) ≡ true → rest ≡ []
is_nil [] e = refl
is_nil (b ∷ rest) e = let n : length (b ∷ rest) ≡ 0 = eqb-true (length (b ∷ rest)) 0 e in
    absurd (omega arith)

pub lone_same : (text rest : List ℕ) (p x : Point) → Some (p, rest) ≡ lone_at text
    → SpellsLone text x → (p ≡ x) × (rest ≡ [])
lone_same text rest p x read s = pair_parts (p, rest) (x, []) (read ∙ whole_lone text x s)

pub lone_whole : (text rest : List ℕ) (p : Point) → Some (p, rest) ≡ lone_at text → rest ≡ []
    → SpellsLone text p
lone_whole text rest p read none =
    let t = lone_found text (p, rest) (sym read) in
    let P : List ℕ → Type 0 = λ u. SpellsLone u p in
    subst P (sym (t.written ∙ ap (λ r. t.front ++ r) none ∙ append-nil t.front)) t.spells

pub keyword_none : (text name : List ℕ) (g : Geometry)
    → None ≡ keyword_named (map to_ascii_lowercase name) → name ≡ take (letter_run text) text
    → SpellsText text g → ⊥
keyword_none text name g none e s =
    some_none (keyword_named (map to_ascii_lowercase name)) (keyword_of g) none
    (ap (λ n. keyword_named (map to_ascii_lowercase n)) e ∙ text_keyword text g s)

pub keyword_same : (text name : List ℕ) (k : Keyword) (g : Geometry)
    → Some k ≡ keyword_named (map to_ascii_lowercase name) → name ≡ take (letter_run text) text
    → SpellsText text g → keyword_of g ≡ k
keyword_same text name k g some e s =
    let both_are : Some k ≡ Some (keyword_of g) =
    some ∙ ap (λ n. keyword_named (map to_ascii_lowercase n)) e ∙ text_keyword text g s in
    cc

pub body_spells : (text rest body : List ℕ) (g : Geometry) → rest ≡ drop (letter_run text) text
    → body ≡ skip_blanks rest → SpellsText text g → SpellsBody body g
body_spells text rest body g er eb s =
    let P : List ℕ → Type 0 = λ t. SpellsBody t g in
    subst P (sym (eb ∙ ap skip_blanks er)) (text_body text g s)

pub answer_from : (text : List ℕ) (h : Geometry) (r : Result Geometry WktFault) → SpellsText text h
    → IsReadAs h r → IsAnswer text r
answer_from text h (Ok k) s e = let P : Geometry → Type 0 =
    λ g. SpellsText text g × (fault_of g ≡ None) in subst P (sym e.0) (s, e.1)
answer_from text h (Err fault.Syntax) s e = absurd e
answer_from text h (Err (fault.Geom f)) s e = (h, s, e)
answer_from text h (Err fault.NoMemory) s e = tt
