-- The canonical text of a type spells it.
use Rattle.std.proofs.Common.{◌≡◌, ◌<◌, ◌+◌, ℕ, zero, suc, Bool, true, false, ◌&&◌, ◌||◌, cond}
use Rattle.std.proofs.Common.{List, [], ◌∷◌, ◌++◌, map, length, Option, Some, None, refl, sym, ◌∙◌}
use Rattle.std.proofs.Common.{ap, subst, arith, append-nil}
use Rattle.std.specs.Prelude.{not, nat_le, position, count_by, option_map, slice_get}
use Rattle.std.specs.List.{list_all, list_any, join_with_byte}
use Rattle.std.specs.Str.{is_utf8}
use Rattle.std.proofs.lemmas.Bool.{and_parts, and_from, not-true, eq-eqb, ne_eqb}
use Rattle.std.proofs.lemmas.List.Sums.{sum_by-cons}
use Rattle.std.proofs.lemmas.Option.{slice_get-map}
use Rattle.gm_base.proofs.Options.{same_some}
use Rattle.gm_types.specs.declared.attribute.Attribute.{Attribute}
use Rattle.gm_types.specs.declared.datum.Datum.{Datum}
use Rattle.gm_types.specs.Datum.{is_datum}
use Rattle.gm_types.specs.FeatureType.{IsValid, is_default_geometry, is_geometry_kind}
use Rattle.gm_types.specs.Kind.{is_geometry}
use Rattle.gm_types.specs.Reader.{is_set, place_or, geometry_place, stands_on_geometry, stars_fit}
use Rattle.gm_types.specs.Reader.{specification_of}
use Rattle.gm_types.specs.Specification.{Specification}
use Rattle.gm_types.specs.Spelling.{WrittenAttribute, WrittenDatum, has_blanks, may_be_written}
use Rattle.gm_types.specs.Spelling.{Spells, canonical_attributes, needs_quotes, canonical_datum}
use Rattle.gm_types.specs.Spelling.{canonical_text, separated}
use Rattle.gm_types.specs.Words.{is_bare, is_bare_form, is_quotable, has_no_quote, is_key}
use Rattle.gm_types.proofs.Lists.{position_here, position_later, none_passes}
use Rattle.gm_types.proofs.Spelled.{spelled_is_read}
use Rattle.gm_types.proofs.Together.{geometry_there}

abbrev pub stars_from : Option ℕ → ℕ → List Attribute → List Bool
stars_from geometry place attributes =
    map (λ (w : WrittenAttribute). w.star) (canonical_attributes geometry place attributes)

same_attributes : (geometry : Option ℕ) (place : ℕ) (attributes : List Attribute)
    → attributes ≡ map (λ (w : WrittenAttribute). w.attribute)
    (canonical_attributes geometry place attributes)
same_attributes geometry place [] = refl
same_attributes geometry place (a ∷ rest) =
    ap (λ l. a ∷ l) (same_attributes geometry (place + 1) rest)

same_data : (given : List Datum)
    → given ≡ map (λ (w : WrittenDatum). w.datum) (map canonical_datum given)
same_data [] = refl
same_data (d ∷ given) = ap (λ l. d ∷ l) (same_data given)

all_blank : (geometry : Option ℕ) (place : ℕ) (attributes : List Attribute)
    → list_all has_blanks (canonical_attributes geometry place attributes) ≡ true
all_blank geometry place [] = refl
all_blank geometry place (a ∷ rest) = all_blank geometry (place + 1) rest

quoted_or_bare : (value : List ℕ) → is_quotable value ≡ true
    → (needs_quotes value || is_bare value) ≡ true
unfolding is_quotable is_bare
quoted_or_bare value h =
    elim (is_bare_form value) as (λ b. (not b || (b && is_utf8 value)) ≡ true) [
      | true ↦ (and_parts (has_no_quote value) (is_utf8 value) h).1
      | false ↦ refl
    ]

all_quoted : (given : List Datum) → list_all is_datum given ≡ true
    → list_all may_be_written (map canonical_datum given) ≡ true
all_quoted [] h = refl
all_quoted (d ∷ given) h =
    let parts = and_parts (is_datum d) (list_all is_datum given) h in
    and_from (may_be_written (canonical_datum d))
    (list_all may_be_written (map canonical_datum given))
    (quoted_or_bare d.value (and_parts (is_key d.key) (is_quotable d.value) parts.0).1)
    (all_quoted given parts.1)

-- no star from a place on that is behind the geometry's, or where there is none
record HasNoStar (stars : List Bool) : Type 0 where
  pub count : count_by is_set stars ≡ 0
  pub place : position is_set stars ≡ None

count_none : (stars : List Bool) → count_by is_set (false ∷ stars) ≡ count_by is_set stars
count_none stars = refl

no_star_before : (stars : List Bool) → HasNoStar stars → HasNoStar (false ∷ stars)
no_star_before stars h = record {
  count = count_none stars ∙ h.count;
  place = position_later is_set false stars refl ∙ ap (option_map suc) h.place;
}

empty_stars : HasNoStar []
empty_stars = record { count = refl; place = refl }

no_stars : (place : ℕ) (attributes : List Attribute) → HasNoStar (stars_from None place attributes)
no_stars place [] = empty_stars
no_stars place (a ∷ rest) =
    no_star_before (stars_from None (place + 1) rest) (no_stars (place + 1) rest)

stars_behind : (geometry place : ℕ) (attributes : List Attribute) → geometry < place
    → HasNoStar (stars_from (Some geometry) place attributes)
stars_behind geometry place [] h = empty_stars
stars_behind geometry place (a ∷ rest) h =
    subst (λ (b : Bool). HasNoStar (b ∷ stars_from (Some geometry) (place + 1) rest))
    (sym (ne_eqb geometry place (λ e. omega (arith, h, e))))
    (no_star_before (stars_from (Some geometry) (place + 1) rest)
    (stars_behind geometry (place + 1) rest (omega (arith, h))))

-- one star, that many places further
record HasStar (stars : List Bool) (place : ℕ) : Type 0 where
  pub count : count_by is_set stars ≡ 1
  pub place_is : position is_set stars ≡ Some place

star_here : (stars : List Bool) → HasNoStar stars → HasStar (true ∷ stars) 0
star_here stars h = record {
  count = sum_by-cons (λ (b : Bool). cond (is_set b) 1 0) true stars ∙ ap (λ n. 1 + n) h.count;
  place_is = position_here is_set true stars refl;
}

star_before : (stars : List Bool) (n : ℕ) → HasStar stars n → HasStar (false ∷ stars) (suc n)
star_before stars n h = record {
  count = count_none stars ∙ h.count;
  place_is = position_later is_set false stars refl ∙ ap (option_map suc) h.place_is;
}

one_star : (geometry place : ℕ) (attributes : List Attribute) (further : ℕ)
    → place + further ≡ geometry → further < length attributes
    → HasStar (stars_from (Some geometry) place attributes) further
one_star geometry place [] further e h = absurd (omega (arith, h))
one_star geometry place (a ∷ rest) zero e h =
    subst (λ (b : Bool). HasStar (b ∷ stars_from (Some geometry) (place + 1) rest) 0)
    (sym (eq-eqb geometry place (omega (arith, e))))
    (star_here (stars_from (Some geometry) (place + 1) rest)
    (stars_behind geometry (place + 1) rest (omega (arith, e))))
one_star geometry place (a ∷ rest) (suc further) e h =
    subst (λ (b : Bool). HasStar (b ∷ stars_from (Some geometry) (place + 1) rest) (suc further))
    (sym (ne_eqb geometry place (λ same. omega (arith, e, same))))
    (star_before (stars_from (Some geometry) (place + 1) rest) further
    (one_star geometry (place + 1) rest further (omega (arith, e)) (omega (arith, h))))

-- the stars of a type stand where they may, and say its default geometry
record StarsSay (t : Specification) (stars : List Bool) : Type 0 where
  pub fit : stars_fit stars t.attributes ≡ true
  pub geometry : t.geometry ≡ geometry_place stars t.attributes

stars_say : (t : Specification) → IsValid t → StarsSay t (stars_from t.geometry 0 t.attributes)
stars_say t v = go t.geometry refl
  where
    go : (g : Option ℕ) → t.geometry ≡ g → StarsSay t (stars_from t.geometry 0 t.attributes)
    go None e =
        let stars = no_stars 0 t.attributes in
        let none : is_default_geometry t None ≡ true =
        subst (λ (o : Option ℕ). is_default_geometry t o ≡ true) e v.geometry in
        subst (λ (o : Option ℕ). StarsSay t (stars_from o 0 t.attributes)) (sym e) record {
          fit = and_from (nat_le (count_by is_set (stars_from None 0 t.attributes)) 1)
              (stands_on_geometry t.attributes (position is_set (stars_from None 0 t.attributes)))
              (ap (λ n. nat_le n 1) stars.count) (ap (stands_on_geometry t.attributes) stars.place);
          geometry = e ∙ sym
              (ap (λ o. place_or o (position (λ (a : Attribute). is_geometry a.kind) t.attributes))
              stars.place
              ∙ none_passes (λ (a : Attribute). is_geometry a.kind) t.attributes
              (not-true (list_any (λ (a : Attribute). is_geometry a.kind) t.attributes) none));
        }
    go (Some place) e =
        let there = geometry_there t place e v in
        let stars = one_star place 0 t.attributes place (omega arith) there.within in
        let kind : is_geometry_kind
        (option_map (λ (a : Attribute). a.kind) (slice_get t.attributes place)) ≡ true =
        ap is_geometry_kind (sym (slice_get-map (λ (a : Attribute). a.kind) t.attributes place))
        ∙ there.geometry in
        subst (λ (o : Option ℕ). StarsSay t (stars_from o 0 t.attributes)) (sym e) record {
          fit = and_from (nat_le (count_by is_set (stars_from (Some place) 0 t.attributes)) 1)
              (stands_on_geometry t.attributes
              (position is_set (stars_from (Some place) 0 t.attributes)))
              (ap (λ n. nat_le n 1) stars.count)
              (ap (stands_on_geometry t.attributes) stars.place_is ∙ kind);
          geometry = e ∙ sym
              (ap (λ o. place_or o (position (λ (a : Attribute). is_geometry a.kind) t.attributes))
              stars.place_is);
        }

pub canonical_spells : (t : Specification) → IsValid t → Spells (canonical_text t) t
unfolding canonical_text
canonical_spells t v =
    let say = stars_say t v in
    record {
      attributes = canonical_attributes t.geometry 0 t.attributes;
      given = map canonical_datum t.data;
      text_is = refl;
      attributes_are = same_attributes t.geometry 0 t.attributes;
      data_are = same_data t.data;
      blanks = all_blank t.geometry 0 t.attributes;
      quotes = all_quoted t.data v.data;
      stars = say.fit;
      geometry = say.geometry;
      valid = v;
    }

pub canonical_read : (t : Specification) → IsValid t
    → specification_of t.name t.number (canonical_text t) ≡ Some t
canonical_read t v = spelled_is_read (canonical_text t) t (canonical_spells t v)

pub canonical_once : (t u : Specification) → IsValid t
    → specification_of t.name t.number (canonical_text t) ≡ Some u
    → canonical_text u ≡ canonical_text t
canonical_once t u v e = ap canonical_text (sym (same_some t u (sym (canonical_read t v) ∙ e)))

pub canonical_tells : (t u : Specification) → IsValid t → IsValid u → t.name ≡ u.name
    → t.number ≡ u.number → canonical_text t ≡ canonical_text u → t ≡ u
canonical_tells t u v w name number text =
    same_some t u (sym (canonical_read t v)
    ∙ ap (λ n. specification_of n t.number (canonical_text t)) name
    ∙ ap (λ n. specification_of u.name n (canonical_text t)) number
    ∙ ap (specification_of u.name u.number) text ∙ canonical_read u w)

-- texts with commas before all but the first
separated_later : (place : ℕ) (text : List ℕ) (texts : List (List ℕ))
    → separated (suc place) (text ∷ texts) ≡ 44 ∷ join_with_byte 44 (text ∷ texts)
separated_later place text [] = ap (λ t. 44 ∷ t) (append-nil text)
separated_later place text (next ∷ texts) =
    ap (λ t. 44 ∷ (text ++ t)) (separated_later (suc place) next texts)

pub separated_joined : (texts : List (List ℕ)) → separated 0 texts ≡ join_with_byte 44 texts
separated_joined [] = refl
separated_joined (text ∷ []) = append-nil text
separated_joined (text ∷ next ∷ texts) = ap (λ t. text ++ t) (separated_later 0 next texts)
