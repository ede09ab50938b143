-- What is read from a text breaks no rule.
use Rattle.std.proofs.Common.{◌≡◌, ◌<◌, ℕ, suc, Bool, true, false, ◌&&◌, ◌||◌, ◌==◌, List, [], ◌∷◌}
use Rattle.std.proofs.Common.{length, take, drop, Option, Some, None, refl, sym, ◌∙◌, ap, subst}
use Rattle.std.proofs.Common.{inl, inr, arith}
use Rattle.std.specs.Prelude.{◌-◌, count_by, slice_index_or, not, nat_le, position, slice_get}
use Rattle.std.specs.Prelude.{option_map, if◌then◌else◌}
use Rattle.std.specs.List.{list_all}
use Rattle.std.specs.Str.{is_utf8}
use Rattle.std.proofs.lemmas.Bool.{and_parts, and_from, or_parts, not-true, not_from_false}
use Rattle.std.proofs.lemmas.Option.{slice_get-map}
use Rattle.gm_base.proofs.Options.{same_some}
use Rattle.gm_types.specs.declared.attribute.Attribute.{Attribute}
use Rattle.gm_types.specs.declared.attribute.AttributeOption.{AttributeOption}
use Rattle.gm_types.specs.declared.datum.Datum.{Datum}
use Rattle.gm_types.specs.declared.kind.Kind.{Kind}
use Rattle.gm_types.specs.Attribute.{attribute_from, is_option, is_described, is_indexed, is_high}
use Rattle.gm_types.specs.Attribute.{option_keys}
use Rattle.gm_types.specs.Datum.{is_datum, datum_keys}
use Rattle.gm_types.specs.FeatureType.{IsOutline, IsValid, is_attribute, is_default_geometry}
use Rattle.gm_types.specs.FeatureType.{is_geometry_kind, same_bool, has_settings}
use Rattle.gm_types.specs.Kind.{is_geometry}
use Rattle.gm_types.specs.Parts.{parts_of, part_len, cut_once, trimmed}
use Rattle.gm_types.specs.Reader.{value_if, read_before, read_all, option_pair, option_from}
use Rattle.gm_types.specs.Reader.{option_of, options_of, attribute_if, attribute_with}
use Rattle.gm_types.specs.Reader.{attribute_typed, attribute_behind, attribute_of, front_of}
use Rattle.gm_types.specs.Reader.{behind_of, kind_named, without_star, quoted_value, value_of}
use Rattle.gm_types.specs.Reader.{datum_if, datum_with, datum_from, datum_of, attributes_of}
use Rattle.gm_types.specs.Reader.{stars_of, data_of, place_or, is_set, geometry_place}
use Rattle.gm_types.specs.Reader.{stands_on_geometry, stars_fit, specification_from}
use Rattle.gm_types.specs.Reader.{specification_if, outline_with, outline_of}
use Rattle.gm_types.specs.Specification.{Specification, kind_at, names_of}
use Rattle.gm_base.specs.Ascii.{is_blank}
use Rattle.gm_types.specs.Words.{is_name, is_key, is_bare, is_bare_byte, is_bare_form}
use Rattle.gm_types.specs.Words.{is_mark, is_quotable, has_no_quote, are_distinct}
use Rattle.gm_types.proofs.Cuts.{PartsAt, parts_first, some_none}
use Rattle.gm_types.proofs.Lists.{found_at, none_found}
use Rattle.gm_types.proofs.ReadParts.{value_taken}

-- what each reading gives passes a test
read_passes : {A : Type 0} (read : List ℕ → Option A) (test : A → Bool)
    → ((p : List ℕ) (x : A) → read p ≡ Some x → test x ≡ true)
    → (parts : List (List ℕ)) (xs : List A) → read_all read parts ≡ Some xs
    → list_all test xs ≡ true
read_passes {A} read test each [] xs e =
    subst (λ (l : List A). list_all test l ≡ true) (same_some [] xs e) refl
read_passes {A} read test each (p ∷ ps) xs e =
    go (read p) (read_all read ps) refl refl e (read_passes read test each ps)
  where
    go : (o : Option A) (os : Option (List A)) → read p ≡ o → read_all read ps ≡ os
        → read_before o os ≡ Some xs
        → ((ys : List A) → read_all read ps ≡ Some ys → list_all test ys ≡ true)
        → list_all test xs ≡ true
    go None os eo eos h rest = absurd (some_none xs (sym h))
    go (Some x) None eo eos h rest = absurd (some_none xs (sym h))
    go (Some x) (Some ys) eo eos h rest =
        subst (λ (l : List A). list_all test l ≡ true) (same_some (x ∷ ys) xs h)
        (and_from (test x) (list_all test ys) (each p x eo) (rest ys eos))

option_valid : (kind : Kind) (text : List ℕ) (o : AttributeOption) → option_of kind text ≡ Some o
    → is_option kind o ≡ true
unfolding option_of
option_valid kind text o e = go (cut_once 61 text) e
  where
    checked : (pair : AttributeOption) (b : Bool) → is_option kind pair ≡ b
        → (if b then Some pair else None) ≡ Some o → is_option kind o ≡ true
    checked pair true t h =
        subst (λ (q : AttributeOption). is_option kind q ≡ true) (same_some pair o h) t
    checked pair false t h = absurd (some_none o (sym h))

    go : (c : Option (List ℕ × List ℕ)) → option_from kind c ≡ Some o → is_option kind o ≡ true
    go None h = absurd (some_none o (sym h))
    go (Some c) h = checked (option_pair c.0 c.1) (is_option kind (option_pair c.0 c.1)) refl h

options_valid : (kind : Kind) (text : Option (List ℕ)) (os : List AttributeOption)
    → options_of kind text ≡ Some os → list_all (is_option kind) os ≡ true
options_valid kind None os e =
    subst (λ (l : List AttributeOption). list_all (is_option kind) l ≡ true)
    (same_some [] os e) refl
options_valid kind (Some text) os e =
    read_passes (option_of kind) (is_option kind) (option_valid kind) (parts_of 58 text) os e

same_itself : (b : Bool) → same_bool b b ≡ true
same_itself true = refl
same_itself false = refl

attribute_made : (name : List ℕ) (kind : Kind) (options : List AttributeOption)
    → is_name name ≡ true → list_all (is_option kind) options ≡ true
    → are_distinct (option_keys options) ≡ true
    → is_attribute (attribute_from name kind options) ≡ true
attribute_made name kind options named valid distinct =
    and_from (is_described name kind options)
    (same_bool (is_indexed kind options) (is_indexed kind options)
    && same_bool (is_high options) (is_high options))
    (and_from (is_name name)
    (list_all (is_option kind) options && are_distinct (option_keys options)) named
    (and_from (list_all (is_option kind) options) (are_distinct (option_keys options))
    valid distinct))
    (and_from (same_bool (is_indexed kind options) (is_indexed kind options))
    (same_bool (is_high options) (is_high options))
    (same_itself (is_indexed kind options)) (same_itself (is_high options)))

attribute_valid : (part : List ℕ) (a : Attribute) → attribute_of part ≡ Some a
    → is_attribute a ≡ true
unfolding attribute_of
attribute_valid part a e =
    behind (front_of text (cut_once 58 text)) (behind_of (cut_once 58 text)) e
  where
    text : List ℕ
    text = without_star (trimmed part)

    made : (name : List ℕ) (kind : Kind) (options : List AttributeOption)
        → list_all (is_option kind) options ≡ true → (b : Bool)
        → (is_name name && are_distinct (option_keys options)) ≡ b
        → attribute_if b name kind options ≡ Some a → is_attribute a ≡ true
    made name kind options valid true t h =
        let parts = and_parts (is_name name) (are_distinct (option_keys options)) t in
        subst (λ (q : Attribute). is_attribute q ≡ true)
        (same_some (attribute_from name kind options) a h)
        (attribute_made name kind options parts.0 valid parts.1)
    made name kind options valid false t h = absurd (some_none a (sym h))

    with_options : (name : List ℕ) (kind : Kind) (given : Option (List ℕ))
        (os : Option (List AttributeOption)) → options_of kind given ≡ os
        → attribute_with name kind os ≡ Some a → is_attribute a ≡ true
    with_options name kind given None eo h = absurd (some_none a (sym h))
    with_options name kind given (Some options) eo h =
        made name kind options (options_valid kind given options eo)
        (is_name name && are_distinct (option_keys options)) refl h

    typed : (name : List ℕ) (kind : Option Kind) (given : Option (List ℕ))
        → attribute_typed name kind given ≡ Some a → is_attribute a ≡ true
    typed name None given h = absurd (some_none a (sym h))
    typed name (Some kind) given h = with_options name kind given (options_of kind given) refl h

    behind : (name : List ℕ) (rest : Option (List ℕ)) → attribute_behind name rest ≡ Some a
        → is_attribute a ≡ true
    behind name None h = absurd (some_none a (sym h))
    behind name (Some rest) h =
        typed name (kind_named (front_of rest (cut_once 58 rest))) (behind_of (cut_once 58 rest)) h

bare_byte : (b : ℕ) → is_bare_byte b ≡ true → not (b == 39) ≡ true
bare_byte b h =
    let mark = and_parts (not (is_mark b)) (not (is_blank b)) h in
    let none = not-true (is_mark b) mark.0 in
    not_from_false (b == 39) (or_parts (b == 44 || b == 59 || b == 58 || b == 61) (b == 39) none).1

bare_unquoted : (bytes : List ℕ) → list_all is_bare_byte bytes ≡ true → has_no_quote bytes ≡ true
bare_unquoted [] h = refl
bare_unquoted (b ∷ bytes) h =
    let parts = and_parts (is_bare_byte b) (list_all is_bare_byte bytes) h in
    and_from (not (b == 39)) (has_no_quote bytes) (bare_byte b parts.0)
    (bare_unquoted bytes parts.1)

pub bare_quotable : (bytes : List ℕ) → is_bare bytes ≡ true → is_quotable bytes ≡ true
unfolding is_bare is_quotable
bare_quotable bytes h =
    let parts = and_parts (is_bare_form bytes) (is_utf8 bytes) h in
    and_from (has_no_quote bytes) (is_utf8 bytes)
    (bare_unquoted bytes
    (and_parts (nat_le 1 (length bytes)) (list_all is_bare_byte bytes) parts.0).1) parts.1

value_valid : (text value : List ℕ) → value_of text ≡ Some value → is_quotable value ≡ true
unfolding value_of
value_valid [] value e = absurd (some_none value (sym e))
value_valid (b ∷ bytes) value e = go (b == 39) refl e
  where
    quoted : (q ok : Bool) (inside : List ℕ) → is_quotable inside ≡ ok
        → value_if (q && ok) inside ≡ Some value → is_quotable value ≡ true
    quoted true true inside t h =
        subst (λ (v : List ℕ). is_quotable v ≡ true) (same_some inside value h) t
    quoted true false inside t h = absurd (some_none value (sym h))
    quoted false ok inside t h = absurd (some_none value (sym h))

    go : (q : Bool) → (b == 39) ≡ q
        → (if q then quoted_value bytes else value_if (is_bare (b ∷ bytes)) (b ∷ bytes))
        ≡ Some value → is_quotable value ≡ true
    go true t h = quoted (slice_index_or bytes (length bytes - 1) 0 == 39)
        (is_quotable (take (length bytes - 1) bytes)) (take (length bytes - 1) bytes) refl h
    go false t h =
        let taken = value_taken (is_bare (b ∷ bytes)) (b ∷ bytes) value h in
        subst (λ (v : List ℕ). is_quotable v ≡ true) taken.1 (bare_quotable (b ∷ bytes) taken.0)

datum_valid : (part : List ℕ) (d : Datum) → datum_of part ≡ Some d → is_datum d ≡ true
unfolding datum_of
datum_valid part d e = go (cut_once 61 (trimmed part)) e
  where
    keyed : (key value : List ℕ) (b : Bool) → is_key key ≡ b → is_quotable value ≡ true
        → datum_if b key value ≡ Some d → is_datum d ≡ true
    keyed key value true t ok h = subst (λ (q : Datum). is_datum q ≡ true)
        (same_some (let pair : Datum = record { key = key; value = value } in pair) d h)
        (and_from (is_key key) (is_quotable value) t ok)
    keyed key value false t ok h = absurd (some_none d (sym h))

    valued : (key text : List ℕ) (o : Option (List ℕ)) → value_of text ≡ o
        → datum_with key o ≡ Some d → is_datum d ≡ true
    valued key text None t h = absurd (some_none d (sym h))
    valued key text (Some value) t h =
        keyed key value (is_key key) refl (value_valid text value t) h

    go : (c : Option (List ℕ × List ℕ)) → datum_from c ≡ Some d → is_datum d ≡ true
    go None h = absurd (some_none d (sym h))
    go (Some c) h = valued c.0 c.1 (value_of c.1) refl h

data_valid : (text : Option (List ℕ)) (ds : List Datum) → data_of text ≡ Some ds
    → list_all is_datum ds ≡ true
data_valid None ds e =
    subst (λ (l : List Datum). list_all is_datum l ≡ true) (same_some [] ds e) refl
data_valid (Some text) ds e = read_passes datum_of is_datum datum_valid (parts_of 44 text) ds e

-- a text has a part, so what is read of all has an element
some_read : {A : Type 0} (read : List ℕ → Option A) (text : List ℕ) (xs : List A)
    → read_all read (parts_of 44 text) ≡ Some xs → 0 < length xs
some_read {A} read text xs e = go (parts_first 44 false text)
  where
    first : (p : List ℕ) (ps : List (List ℕ)) → parts_of 44 text ≡ p ∷ ps → 0 < length xs
    first p ps h = step (read p) (read_all read ps) (ap (read_all read) (sym h) ∙ e)
      where
        step : (o : Option A) (os : Option (List A)) → read_before o os ≡ Some xs → 0 < length xs
        step None os k = absurd (some_none xs (sym k))
        step (Some x) None k = absurd (some_none xs (sym k))
        step (Some x) (Some ys) k =
            subst (λ (l : List A). 0 < length l) (same_some (x ∷ ys) xs k) (omega arith)

    go : PartsAt 44 text (parts_of 44 text) (part_len 44 false text) → 0 < length xs
    go (inl h) = first text [] h.1
    go (inr h) = first (take (part_len 44 false text) text)
        (parts_of 44 (drop (suc (part_len 44 false text)) text)) h.1

geometry_valid : (t : Specification) (stars : List Bool)
    → t.geometry ≡ geometry_place stars t.attributes
    → stands_on_geometry t.attributes (position is_set stars) ≡ true
    → is_default_geometry t t.geometry ≡ true
geometry_valid t stars e stands =
    subst (λ (o : Option ℕ). is_default_geometry t o ≡ true) (sym e)
    (go (position is_set stars) stands
    (position (λ (a : Attribute). is_geometry a.kind) t.attributes) refl)
  where
    kind_there : (place : ℕ)
        → kind_at t place ≡ option_map (λ (a : Attribute). a.kind) (slice_get t.attributes place)
    kind_there place = slice_get-map (λ (a : Attribute). a.kind) t.attributes place

    go : (star : Option ℕ) → stands_on_geometry t.attributes star ≡ true → (first : Option ℕ)
        → position (λ (a : Attribute). is_geometry a.kind) t.attributes ≡ first
        → is_default_geometry t (place_or star first) ≡ true
    go (Some place) h first f = ap is_geometry_kind (kind_there place) ∙ h
    go None h (Some place) f =
        let found = found_at (λ (a : Attribute). is_geometry a.kind) t.attributes place f in
        ap is_geometry_kind
        (kind_there place ∙ ap (option_map (λ (a : Attribute). a.kind)) found.is) ∙ found.passes
    go None h None f = ap not (none_found (λ (a : Attribute). is_geometry a.kind) t.attributes f)

-- what is read, with its name and number
pub record IsOutlineOf (name : List ℕ) (number : ℕ) (t : Specification) : Type 0 where
  pub name_is : t.name ≡ name
  pub number_is : t.number ≡ number
  pub outline : IsOutline t

pub outline_valid : (name : List ℕ) (number : ℕ) (text : List ℕ) (t : Specification)
    → outline_of name number text ≡ Some t → IsOutlineOf name number t
unfolding outline_of
outline_valid name number text t e =
    go (front_of text (cut_once 59 text)) (behind_of (cut_once 59 text))
    (attributes_of (front_of text (cut_once 59 text)))
    (data_of (behind_of (cut_once 59 text))) refl refl e
  where
    made : (front : List ℕ) (rest : Option (List ℕ)) (list : List Attribute) (ds : List Datum)
        → attributes_of front ≡ Some list → data_of rest ≡ Some ds
        → (b : Bool) → stars_fit (stars_of front) list ≡ b
        → specification_if b (specification_from name number (stars_of front) list ds) ≡ Some t
        → IsOutlineOf name number t
    made front rest list ds ea ed true fit h =
        let made_t : Specification = specification_from name number (stars_of front) list ds in
        let stands = and_parts (nat_le (count_by is_set (stars_of front)) 1)
        (stands_on_geometry list (position is_set (stars_of front))) fit in
        subst (IsOutlineOf name number) (same_some made_t t h) record {
          name_is = refl;
          number_is = refl;
          outline = record {
            some = some_read attribute_of front list ea;
            attributes = read_passes attribute_of is_attribute attribute_valid
                (parts_of 44 front) list ea;
            geometry = geometry_valid made_t (stars_of front) refl stands.1;
            «data» = data_valid rest ds ed;
          };
        }
    made front rest list ds ea ed false fit h = absurd (some_none t (sym h))

    go : (front : List ℕ) (rest : Option (List ℕ)) (oa : Option (List Attribute))
        (od : Option (List Datum)) → attributes_of front ≡ oa → data_of rest ≡ od
        → outline_with name number (stars_of front) oa od ≡ Some t → IsOutlineOf name number t
    go front rest None od ea ed h = absurd (some_none t (sym h))
    go front rest (Some list) None ea ed h = absurd (some_none t (sym h))
    go front rest (Some list) (Some ds) ea ed h =
        made front rest list ds ea ed (stars_fit (stars_of front) list) refl h

-- an outline whose parts go together breaks no rule
pub valid_from : (t : Specification) → IsOutline t → are_distinct (names_of t) ≡ true
    → are_distinct (datum_keys t.data) ≡ true
    → has_settings t ≡ true → IsValid t
valid_from t outline names keys settings = record {
  some = outline.some;
  attributes = outline.attributes;
  names = names;
  geometry = outline.geometry;
  «data» = outline.data;
  keys = keys;
  settings = settings;
}
