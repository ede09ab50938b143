-- The printed name of an attribute is a piece of its name, and the name leads back to the
-- attribute.
use Rattle.std.proofs.Common.{◌≡◌, ℕ, zero, suc, ◌+◌, true, false, not, ◌&&◌, cond, List, [], ◌∷◌}
use Rattle.std.proofs.Common.{length, map, Some, None, option_map, refl, sym, ◌∙◌, ap, subst, arith}
use Rattle.std.specs.Prelude.{slice_get, nat_lt}
use Rattle.std.specs.List.{list_all, list_any, prefix_len}
use Rattle.std.proofs.lemmas.Bool.{lt-ltb, or_parts, and_parts}
use Rattle.std.proofs.lemmas.Option.{slice_get-map, slice_get_within}
use Rattle.std.proofs.lemmas.Str.{IsUtf8-from_ascii}
use Rattle.gm_base.proofs.Options.{same_some, no_some}
use Rattle.gm_base.proofs.Booleans.{false_of_not}
use Rattle.gm_base.proofs.Numbers.{eq_true}
use Rattle.gm_types.specs.declared.attribute.Attribute.{Attribute}
use Rattle.gm_types.specs.declared.kind.Kind.{Kind}
use Rattle.gm_types.specs.FeatureType.{IsType, is_attribute}
use Rattle.gm_types.specs.Attribute.{is_described}
use Rattle.gm_types.specs.Specification.{Specification, place_of_name, kind_at, names_of}
use Rattle.gm_types.specs.Words.{same_text, are_distinct, is_name}
use Rattle.gm_ecql.specs.Printer.{name_at, name_if, name_text}
use Rattle.gm_ecql.specs.Token.{a_name}
use Rattle.gm_ecql.proofs.Complete.{word_ascii}
use Rattle.gm_ecql.proofs.PrintedWords.{name_bytes, name_piece}
use Rattle.gm_ecql.proofs.Sequences.{Printed}
use Rattle.gm_ecql.proofs.TestFirst.{mapped}

same_self : (x : List ℕ) → same_text x x ≡ true
same_self [] = refl
same_self (b ∷ bs) = ap (λ t. t && same_text bs bs) (eq_true b) ∙ same_self bs

-- another attribute has another name
other_name : (x : List ℕ) (attributes : List Attribute) (place : ℕ) (a : Attribute)
    → list_any (same_text x) (map (λ attribute. attribute.name) attributes) ≡ false
    → slice_get attributes place ≡ Some a → same_text x a.name ≡ false
other_name x [] place a none is = no_some a is
other_name x (b ∷ bs) zero a none is =
    subst (λ (c : Attribute). same_text x c.name ≡ false) (same_some b a is)
    (or_parts (same_text x b.name)
    (list_any (same_text x) (map (λ attribute. attribute.name) bs)) none).0
other_name x (b ∷ bs) (suc place) a none is =
    other_name x bs place a
    (or_parts (same_text x b.name)
    (list_any (same_text x) (map (λ attribute. attribute.name) bs)) none).1 is

-- so the first of its name is the attribute itself
first_place : (attributes : List Attribute) (place : ℕ) (a : Attribute)
    → are_distinct (map (λ attribute. attribute.name) attributes) ≡ true
    → slice_get attributes place ≡ Some a
    → prefix_len (λ (b : Attribute). not (same_text b.name a.name)) attributes ≡ place
unfolding are_distinct
first_place [] place a apart is = no_some a is
first_place (b ∷ bs) zero a apart is =
    ap (λ x. cond (not x) (1 + prefix_len (λ (c : Attribute). not (same_text c.name a.name)) bs) 0)
    (subst (λ (c : Attribute). same_text b.name c.name ≡ true) (same_some b a is)
    (same_self b.name))
first_place (b ∷ bs) (suc place) a apart is =
    let p = and_parts (not (list_any (same_text b.name) (map (λ attribute. attribute.name) bs)))
    (are_distinct (map (λ attribute. attribute.name) bs)) apart in
    ap (λ x. cond (not x) (1 + prefix_len (λ (c : Attribute). not (same_text c.name a.name)) bs) 0)
    (other_name b.name bs place a (false_of_not _ p.0) is)
    ∙ ap (λ n. 1 + n) (first_place bs place a p.1 is) ∙ one_more place
  where
    one_more : (n : ℕ) → 1 + n ≡ suc n
    one_more n = omega arith

named_place : (s : Specification) (place : ℕ) (a : Attribute) → are_distinct (names_of s) ≡ true
    → slice_get s.attributes place ≡ Some a → place_of_name s a.name ≡ Some place
unfolding place_of_name
named_place s place a apart is =
    ap (λ n. cond (nat_lt n (length s.attributes)) (Some n) None)
    (first_place s.attributes place a apart is)
    ∙ ap (λ x. cond x (Some place) None)
    (lt-ltb place (length s.attributes) (slice_get_within s.attributes place a is))

attribute_passes : (attributes : List Attribute) (place : ℕ) (a : Attribute)
    → list_all is_attribute attributes ≡ true → slice_get attributes place ≡ Some a
    → is_attribute a ≡ true
attribute_passes [] place a all is = no_some a is
attribute_passes (b ∷ bs) zero a all is =
    subst (λ (c : Attribute). is_attribute c ≡ true) (same_some b a is)
    (and_parts (is_attribute b) (list_all is_attribute bs) all).0
attribute_passes (b ∷ bs) (suc place) a all is =
    attribute_passes bs place a (and_parts (is_attribute b) (list_all is_attribute bs) all).1 is

-- there is such an attribute
pub record Named (s : Specification) (place : ℕ) (k : Kind) : Type 0 where
  pub kind : kind_at s place ≡ Some k
  pub printed : Printed (name_text (name_at s place)) (a_name (name_at s place))
  pub back : place_of_name s (name_at s place) ≡ Some place

pub named : (s : Specification) (place : ℕ) (k : Kind) → IsType s → kind_at s place ≡ Some k
    → Named s place k
named s place k t is =
    let m = mapped (slice_get s.attributes place) (λ (a : Attribute). a.kind) k
    (sym (slice_get-map (λ (a : Attribute). a.kind) s.attributes place) ∙ is) in
    let a : Attribute = m.0 in
    let name : name_at s place ≡ a.name =
    ap name_if (slice_get-map (λ (a : Attribute). a.name) s.attributes place
    ∙ ap (option_map (λ (a : Attribute). a.name)) m.1) in
    let passes = attribute_passes s.attributes place a t.valid.attributes m.1 in
    let bytes = name_bytes a.name
    (and_parts (is_name a.name) _
    (and_parts (is_described a.name a.kind a.options) _ passes).0).0 in
    record {
      kind = is;
      printed = subst (λ n. Printed (name_text n) (a_name n)) (sym name)
          (name_piece a.name bytes (IsUtf8-from_ascii a.name (word_ascii a.name bytes.all)));
      back = ap (place_of_name s) name ∙ named_place s place a t.valid.names m.1;
    }
