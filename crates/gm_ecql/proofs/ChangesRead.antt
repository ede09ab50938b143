-- Changes: what is read is spelled so, and what is spelled is read.
use Rattle.std.proofs.Common.{◌≡◌, ℕ, Bool, true, false, ◌==◌, cond, List, [], ◌∷◌, ◌++◌, Some}
use Rattle.std.proofs.Common.{None, refl, sym, ◌∙◌, ap, subst, inl, inr}
use Rattle.gm_base.proofs.Options.{same_some, no_some}
use Rattle.gm_base.proofs.Booleans.{not_both}
use Rattle.gm_types.specs.Specification.{Specification}
use Rattle.gm_filter.specs.Suitability.{Suits}
use Rattle.gm_ecql.specs.declared.keyword.Keyword.{Keyword}
use Rattle.gm_ecql.specs.declared.keyword.Keyword.TheVariants as keyword
use Rattle.gm_ecql.specs.Change.{New, new_literal, new_geometry, new_null, new_tokens, IsNew}
use Rattle.gm_ecql.specs.Change.{new_at, assignment_tokens_at, assignment_of, change_judged}
use Rattle.gm_ecql.specs.Change.{change_document, JudgedChange, SpellsChangeJudged}
use Rattle.gm_ecql.specs.Geometry.{piece_at}
use Rattle.gm_ecql.specs.Grammar.{IsGeometryPiece}
use Rattle.gm_ecql.specs.Judging.{faultless}
use Rattle.gm_ecql.specs.Parser.{document}
use Rattle.gm_ecql.specs.Places.{keyword_place}
use Rattle.gm_ecql.specs.Reader.{after_keyword, name_at, constant_at}
use Rattle.gm_ecql.specs.Token.{Seen, a_keyword, a_name, a_text, an_instant, a_number, a_symbol}
use Rattle.gm_ecql.specs.Keyword.{begins_geometry}
use Rattle.gm_ecql.proofs.Places.{same_keyword}
use Rattle.gm_ecql.proofs.Readers.{keyword_first, name_first}
use Rattle.gm_ecql.proofs.Sound.{chosen}
use Rattle.gm_ecql.proofs.TestFirst.{bound, mapped, chose, constant_first}
use Rattle.gm_ecql.proofs.TestFound.{constant_found, piece_more}
use Rattle.gm_ecql.proofs.TestSound.{piece_there}
use Rattle.gm_ecql.proofs.GrammarFound.{document_complete}
use Rattle.gm_ecql.proofs.GrammarSound.{document_sound}
use Rattle.gm_ecql.proofs.Suiting.{are_utf8, first_faultless, joined_utf8, spelled_suits}

record NewThere (ts : List Seen) (n : New) (rest : List Seen) : Type 0 where
  formed : IsNew n
  written : ts ≡ new_tokens n ++ rest

new_there : (ts : List Seen) (r : New × List Seen) → new_at ts ≡ Some r → NewThere ts r.0 r.1
new_there ts r h = elim (chose (constant_at ts) _ _ _ h) [
  | inl c ↦ subst (λ p. NewThere ts p.0 p.1) (same_some (new_literal c.0.0, c.0.1) r c.2)
      (record { formed = tt; written = constant_first ts c.0 c.1 })
  | inr c ↦ elim (chose (after_keyword keyword.Null ts) _ _ _ c.1) [
    | inl c ↦ subst (λ p. NewThere ts p.0 p.1) (same_some (new_null, c.0) r c.2)
        (record { formed = tt; written = keyword_first keyword.Null ts c.0 c.1 })
    | inr c ↦
        let m = mapped (piece_at ts) (λ r. (new_geometry r.0, r.1)) r c.1 in
        let p = piece_there ts m.0 m.1 in
        subst (λ p. NewThere ts p.0 p.1) m.2 (record { formed = p.0; written = p.1 })
  ]
]

other_word : (w k : Keyword) (rest : List Seen) → begins_geometry w ≡ false
    → begins_geometry k ≡ true
    → after_keyword w (a_keyword k ∷ rest) ≡ None
other_word w k rest e f = by_place (keyword_place k == keyword_place w) refl
  where
    by_place : (x : Bool) → (keyword_place k == keyword_place w) ≡ x
        → cond x (Some rest) None ≡ None
    by_place true p = not_both (begins_geometry k) f (ap begins_geometry (same_keyword k w p) ∙ e)
    by_place false p = refl

-- a geometry begins with its word
piece_begins : (piece : List Seen) → IsGeometryPiece piece
    → (k : Keyword) × (ts : List Seen) × (piece ≡ a_keyword k ∷ ts) × (begins_geometry k ≡ true)
piece_begins [] h = no_some ([], []) h
piece_begins (a_keyword k ∷ ts) h = elim (chosen (begins_geometry k) _ _ _ h) [
  | inl p ↦ (k, ts, refl, p.0)
  | inr p ↦ no_some (a_keyword k ∷ ts, []) p.1
]
piece_begins (a_name bytes ∷ ts) h = no_some (a_name bytes ∷ ts, []) h
piece_begins (a_text bytes ∷ ts) h = no_some (a_text bytes ∷ ts, []) h
piece_begins (an_instant at ∷ ts) h = no_some (an_instant at ∷ ts, []) h
piece_begins (a_number bytes ∷ ts) h = no_some (a_number bytes ∷ ts, []) h
piece_begins (a_symbol s ∷ ts) h = no_some (a_symbol s ∷ ts, []) h

word_no_constant : (k : Keyword) (rest : List Seen) → begins_geometry k ≡ true
    → constant_at (a_keyword k ∷ rest) ≡ None
word_no_constant k rest e =
    rw (other_word keyword.True k rest refl e, other_word keyword.False k rest refl e) refl

geometry_found : (piece rest : List Seen) → IsGeometryPiece piece
    → new_at (piece ++ rest) ≡ Some (new_geometry piece, rest)
geometry_found piece rest p =
    let b = piece_begins piece p in
    let whole : piece ++ rest ≡ a_keyword b.0 ∷ (b.1 ++ rest) = ap (λ z. z ++ rest) b.2 in
    let c : constant_at (piece ++ rest) ≡ None =
    ap constant_at whole ∙ word_no_constant b.0 (b.1 ++ rest) b.3 in
    let n : after_keyword keyword.Null (piece ++ rest) ≡ None =
    ap (after_keyword keyword.Null) whole
    ∙ other_word keyword.Null b.0 (b.1 ++ rest) refl b.3 in
    rw (c, n, piece_more piece piece [] rest p) refl

new_found : (n : New) (rest : List Seen) → IsNew n → new_at (new_tokens n ++ rest) ≡ Some (n, rest)
new_found (new_literal w) rest p = rw (constant_found w rest) refl
new_found (new_geometry piece) rest p = geometry_found piece rest p
new_found new_null rest p = refl

front_found : (name : List ℕ) (n : New) (rest : List Seen) → IsNew n
    → assignment_tokens_at (a_name name ∷ (new_tokens n ++ a_keyword keyword.Where ∷ rest))
    ≡ Some (name, (n, rest))
unfolding assignment_tokens_at
front_found name n rest p = rw (new_found n (a_keyword keyword.Where ∷ rest) p) refl

pub change_sound : (s : Specification) (ts : List Seen) (c : JudgedChange)
    → change_document s ts ≡ Some c → SpellsChangeJudged s ts c
unfolding change_document assignment_tokens_at
change_sound s ts c h =
    let f = bound (assignment_tokens_at ts) _ c h in
    let a = bound (assignment_of s f.0.0 f.0.1.0) _ c f.2 in
    let j = bound (document s f.0.1.1) _ c a.2 in
    let x = bound (name_at ts) _ f.0 f.1 in
    let y = bound (new_at x.0.1) _ f.0 x.2 in
    let z = bound (after_keyword keyword.Where y.0.1) _ f.0 y.2 in
    let same : (x.0.0, (y.0.0, z.0)) ≡ f.0 = same_some (x.0.0, (y.0.0, z.0)) f.0 z.2 in
    let n = new_there x.0.1 y.0 y.1 in
    let front : ts ≡ a_name x.0.0 ∷ (new_tokens y.0.0 ++ a_keyword keyword.Where ∷ z.0) =
    name_first ts x.0.1 x.0.0 x.1 ∙ ap (λ r. a_name x.0.0 ∷ r) n.written
    ∙ ap (λ r. a_name x.0.0 ∷ (new_tokens y.0.0 ++ r))
    (keyword_first keyword.Where y.0.1 z.0 z.1) in
    record {
      name = f.0.0;
      given = f.0.1.0;
      rest = f.0.1.1;
      assignment = a.0;
      filter = j.0;
      formed = subst (λ p. IsNew p.1.0) same n.formed;
      written = subst
          (λ p. ts ≡ a_name p.0 ∷ (new_tokens p.1.0 ++ a_keyword keyword.Where ∷ p.1.1)) same front;
      assigns = a.1;
      filters = document_sound s f.0.1.1 j.0 j.1;
      means = sym (same_some (change_judged a.0 j.0) c j.2);
    }

pub change_complete : (s : Specification) (ts : List Seen) (c : JudgedChange)
    → SpellsChangeJudged s ts c → change_document s ts ≡ Some c
unfolding change_document
change_complete s ts c w =
    let f : assignment_tokens_at ts ≡ Some (w.name, (w.given, w.rest)) =
    ap assignment_tokens_at w.written ∙ front_found w.name w.given w.rest w.formed in
    rw (f, w.assigns, document_complete s w.rest w.filter w.filters)
    (ap (λ z. Some z) (sym w.means))

pub change_suits : (s : Specification) (ts : List Seen) (c : JudgedChange) → are_utf8 ts ≡ true
    → change_document s ts ≡ Some c
    → c.faults ≡ faultless → Suits s c.meaning
change_suits s ts c u h e =
    let w = change_sound s ts c h in
    let v : are_utf8 (new_tokens w.given ++ a_keyword keyword.Where ∷ w.rest) ≡ true =
    ap are_utf8 (sym w.written) ∙ u in
    let r = joined_utf8 (new_tokens w.given) (a_keyword keyword.Where ∷ w.rest) v in
    let f = first_faultless w.assignment.faults w.filter.faults
    (ap (λ x. x.faults) (sym w.means) ∙ e) in
    subst (λ x. Suits s x.meaning) (sym w.means) (spelled_suits s w.rest w.filter r.1 w.filters f.1)
