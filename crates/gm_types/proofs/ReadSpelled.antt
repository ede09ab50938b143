-- A text that is read spells what is read.
use Rattle.std.proofs.Common.{◌≡◌, ◌+◌, ℕ, suc, Bool, true, false, ◌&&◌, ◌||◌, ◌==◌, cond, List, []}
use Rattle.std.proofs.Common.{◌∷◌, ◌++◌, map, length, take, drop, Option, Some, None, refl, sym}
use Rattle.std.proofs.Common.{◌∙◌, ap, inl, inr, arith}
use Rattle.std.specs.Prelude.{not, if◌then◌else◌, ◌-◌, slice_index_or, codes, option_map}
use Rattle.std.specs.List.{list_all, prefix_len, onto_first, join_with_byte}
use Rattle.std.proofs.lemmas.Bool.{and_parts, and_from, eqb-true}
use Rattle.std.proofs.lemmas.List.{append-nil, take-append-drop, take_all}
use Rattle.std.proofs.Math.Seq.{take-suc}
use Rattle.gm_base.proofs.Options.{same_some}
use Rattle.gm_types.specs.FeatureType.{IsValid}
use Rattle.gm_types.specs.declared.attribute.Attribute.{Attribute}
use Rattle.gm_types.specs.declared.attribute.AttributeOption.{AttributeOption}
use Rattle.gm_types.specs.declared.datum.Datum.{Datum}
use Rattle.gm_types.specs.declared.kind.GeoKind.{GeoKind}
use Rattle.gm_types.specs.declared.kind.GeoKind.TheVariants as shape
use Rattle.gm_types.specs.declared.kind.Kind.{Kind}
use Rattle.gm_types.specs.declared.kind.Kind.TheVariants.{Text, Integer, Long, Boolean, Date, Geo}
use Rattle.gm_types.specs.Attribute.{is_option, attribute_from, option_keys}
use Rattle.gm_types.specs.Kind.{kind_name, shape_name}
use Rattle.gm_types.specs.Parts.{turned, ends_part, parts_from, parts_of, part_len, cut_once}
use Rattle.gm_types.specs.Parts.{before_end, trimmed_end, trimmed}
use Rattle.gm_types.specs.Reader.{value_if, read_before, read_all, option_pair, option_if}
use Rattle.gm_types.specs.Reader.{option_from, option_of, options_of, attribute_if, attribute_with}
use Rattle.gm_types.specs.Reader.{attribute_typed, attribute_behind, attribute_in, attribute_of}
use Rattle.gm_types.specs.Reader.{front_of, behind_of, shape_named, kind_named, begins_with_star}
use Rattle.gm_types.specs.Reader.{without_star, is_starred, quoted_value, value_of, datum_if}
use Rattle.gm_types.specs.Reader.{datum_with, datum_from, datum_of, attributes_of, stars_of}
use Rattle.gm_types.specs.Reader.{data_of, geometry_place, stars_fit, specification_from}
use Rattle.gm_types.specs.Reader.{specification_if, outline_with, outline_of, is_consistent}
use Rattle.gm_types.specs.Reader.{consistent_only, specification_of}
use Rattle.gm_types.specs.Specification.{Specification}
use Rattle.gm_types.specs.Spelling.{pair_text, options_text, attribute_text, star_text, value_text}
use Rattle.gm_types.specs.Spelling.{WrittenAttribute, written_attribute, WrittenDatum}
use Rattle.gm_types.specs.Spelling.{written_datum, data_part, has_blanks, may_be_written, Spells}
use Rattle.gm_base.specs.Ascii.{is_blank}
use Rattle.gm_types.specs.Words.{is_name, is_key, is_bare, is_quotable, same_text, are_distinct}
use Rattle.gm_types.proofs.Cuts.{some_none, PartsAt, parts_first, parts_some}
use Rattle.gm_types.proofs.Noted.{same_list}
use Rattle.gm_types.proofs.Outlined.{read_valid}

-- parts, joined again
join_onto : (mark byte : ℕ) (parts : List (List ℕ)) → (parts ≡ [] → ⊥)
    → join_with_byte mark (onto_first byte parts) ≡ byte ∷ join_with_byte mark parts
join_onto mark byte [] some = absurd (some refl)
join_onto mark byte (p ∷ []) some = refl
join_onto mark byte (p ∷ q ∷ ps) some = refl

some_parts : (mark : ℕ) (open_quote : Bool) (text : List ℕ)
    → parts_from mark open_quote text ≡ [] → ⊥
some_parts mark open_quote text e = go (parts_first mark open_quote text)
  where
    no_cons : (p : List ℕ) (ps : List (List ℕ)) → p ∷ ps ≡ [] → ⊥
    no_cons p ps h = cc

    go : PartsAt mark text (parts_from mark open_quote text) (part_len mark open_quote text) → ⊥
    go (inl h) = no_cons text [] (sym h.1 ∙ e)
    go (inr h) = no_cons (take (part_len mark open_quote text) text)
        (parts_of mark (drop (suc (part_len mark open_quote text)) text)) (sym h.1 ∙ e)

join_at : (mark : ℕ) (parts : List (List ℕ)) → (parts ≡ [] → ⊥)
    → join_with_byte mark ([] ∷ parts) ≡ mark ∷ join_with_byte mark parts
join_at mark [] some = absurd (some refl)
join_at mark (p ∷ ps) some = refl

joined_again : (mark : ℕ) (open_quote : Bool) (text : List ℕ)
    → join_with_byte mark (parts_from mark open_quote text) ≡ text
unfolding parts_from
joined_again mark open_quote [] = refl
joined_again mark open_quote (b ∷ text) =
    go (ends_part mark open_quote b) refl (joined_again mark false text)
    (joined_again mark (turned open_quote b) text)
  where
    go : (t : Bool) → ends_part mark open_quote b ≡ t
        → join_with_byte mark (parts_from mark false text) ≡ text
        → join_with_byte mark (parts_from mark (turned open_quote b) text) ≡ text
        → join_with_byte mark
        (if t then [] ∷ parts_from mark false text
        else onto_first b (parts_from mark (turned open_quote b) text)) ≡ b ∷ text
    go true e here there =
        join_at mark (parts_from mark false text) (some_parts mark false text)
        ∙ ap (λ c. c ∷ join_with_byte mark (parts_from mark false text))
        (sym (eqb-true b mark (and_parts (not open_quote) (b == mark) e).1))
        ∙ ap (λ t. b ∷ t) here
    go false e here there =
        join_onto mark b (parts_from mark (turned open_quote b) text)
        (some_parts mark (turned open_quote b) text) ∙ ap (λ t. b ∷ t) there

-- a cut, joined again
cut_again : (mark : ℕ) (text part behind : List ℕ) → cut_once mark text ≡ Some (part, behind)
    → text ≡ part ++ mark ∷ behind
cut_again mark text part behind e =
    sym (joined_again mark false text)
    ∙ ap (join_with_byte mark) (parts_some mark text part behind e)
    ∙ joined_two (parts_of mark behind) (some_parts mark false behind)
    ∙ ap (λ t. part ++ mark ∷ t) (joined_again mark false behind)
  where
    joined_two : (ps : List (List ℕ)) → (ps ≡ [] → ⊥)
        → join_with_byte mark (part ∷ ps) ≡ part ++ mark ∷ join_with_byte mark ps
    joined_two [] some = absurd (some refl)
    joined_two (p ∷ ps) some = refl

-- blanks at the ends
record IsTrimmed (text inner : List ℕ) : Type 0 where
  pub before : List ℕ
  pub after : List ℕ
  pub before_blank : list_all is_blank before ≡ true
  pub after_blank : list_all is_blank after ≡ true
  pub is : text ≡ before ++ (inner ++ after)

run_blank : (bytes : List ℕ) → list_all is_blank (take (prefix_len is_blank bytes) bytes) ≡ true
run_blank [] = refl
run_blank (b ∷ bytes) =
    elim (is_blank b) as
    (λ t. is_blank b ≡ t
    → list_all is_blank (take (cond t (1 + prefix_len is_blank bytes) 0) (b ∷ bytes))
    ≡ true) [
      | true ↦ λ e. ap (λ n. list_all is_blank (take n (b ∷ bytes)))
          (one_more (prefix_len is_blank bytes))
          ∙ and_from (is_blank b) (list_all is_blank (take (prefix_len is_blank bytes) bytes)) e
          (run_blank bytes)
      | false ↦ λ e. refl
    ] refl
  where
    one_more : (n : ℕ) → 1 + n ≡ suc n
    one_more n = omega arith

record EndsBlank (text : List ℕ) : Type 0 where
  pub after : List ℕ
  pub blank : list_all is_blank after ≡ true
  pub is : text ≡ trimmed_end text ++ after

ends_nil : (b : ℕ) (text : List ℕ) → trimmed_end text ≡ [] → EndsBlank text → (t : Bool)
    → is_blank b ≡ t → EndsBlank (b ∷ text)
ends_nil b text e rest true h = record {
  after = b ∷ rest.after;
  blank = and_from (is_blank b) (list_all is_blank rest.after) h rest.blank;
  is = ap (λ t. b ∷ t) (rest.is ∙ ap (λ t. t ++ rest.after) e)
      ∙ sym (ap (λ t. before_end b t ++ (b ∷ rest.after)) e
      ∙ ap (λ u. (if u then [] else b ∷ []) ++ (b ∷ rest.after)) h);
}
ends_nil b text e rest false h = record {
  after = rest.after;
  blank = rest.blank;
  is = ap (λ t. b ∷ t) (rest.is ∙ ap (λ t. t ++ rest.after) e)
      ∙ sym (ap (λ t. before_end b t ++ rest.after) e
      ∙ ap (λ u. (if u then [] else b ∷ []) ++ rest.after) h);
}

ends_more : (b c : ℕ) (text inner : List ℕ) → trimmed_end text ≡ c ∷ inner → EndsBlank text
    → EndsBlank (b ∷ text)
ends_more b c text inner e rest = record {
  after = rest.after;
  blank = rest.blank;
  is = ap (λ t. b ∷ t) rest.is ∙ ap (λ t. (b ∷ t) ++ rest.after) e
      ∙ ap (λ t. before_end b t ++ rest.after) (sym e);
}

ends_blank : (text : List ℕ) → EndsBlank text
ends_blank [] = record { after = []; blank = refl; is = refl }
ends_blank (b ∷ text) = go (trimmed_end text) refl (ends_blank text)
  where
    go : (inner : List ℕ) → trimmed_end text ≡ inner → EndsBlank text → EndsBlank (b ∷ text)
    go (c ∷ inner) e rest = ends_more b c text inner e rest
    go [] e rest = ends_nil b text e rest (is_blank b) refl

trimmed_again : (text : List ℕ) → IsTrimmed text (trimmed text)
trimmed_again text =
    let rest = drop (prefix_len is_blank text) text in
    let ends = ends_blank rest in
    record {
      before = take (prefix_len is_blank text) text;
      after = ends.after;
      before_blank = run_blank text;
      after_blank = ends.blank;
      is = sym (take-append-drop (prefix_len is_blank text) text)
          ∙ ap (λ t. take (prefix_len is_blank text) text ++ t) ends.is;
    }

-- a text that is some of these words
word_or : {A : Type 0} (P : Type 0) (t : Bool) (j k : A) (rest : Option A)
    → (if t then Some j else rest) ≡ Some k → (t ≡ true → j ≡ k → P) → (rest ≡ Some k → P) → P
word_or P true j k rest e first second = first refl (same_some j k e)
word_or P false j k rest e first second = second e

shape_again : (text : List ℕ) (g : GeoKind) → shape_named text ≡ Some g → text ≡ shape_name g
unfolding shape_named
shape_again text g e =
    let P : Type 0 = text ≡ shape_name g in
    let is : (j : GeoKind) → same_text text (shape_name j) ≡ true → j ≡ g → P =
    λ j t same. same_list text (shape_name j) t ∙ ap shape_name same in
    word_or P (same_text text (codes "Point")) shape.Point g _ e (is shape.Point) (λ e2.
    word_or P (same_text text (codes "LineString")) shape.LineString g _ e2
    (is shape.LineString) (λ e3.
    word_or P (same_text text (codes "Polygon")) shape.Polygon g _ e3 (is shape.Polygon) (λ e4.
    word_or P (same_text text (codes "MultiPoint")) shape.MultiPoint g _ e4
    (is shape.MultiPoint) (λ e5.
    word_or P (same_text text (codes "MultiLineString")) shape.MultiLineString g _ e5
    (is shape.MultiLineString) (λ e6.
    word_or P (same_text text (codes "MultiPolygon")) shape.MultiPolygon g _ e6
    (is shape.MultiPolygon) (λ e7.
    word_or P (same_text text (codes "Geometry")) shape.Any g None e7 (is shape.Any)
    (λ e8. absurd (some_none g (sym e8)))
    ))))))

kind_again : (text : List ℕ) (k : Kind) → kind_named text ≡ Some k → text ≡ kind_name k
unfolding kind_named
kind_again text k e =
    let P : Type 0 = text ≡ kind_name k in
    let is : (j : Kind) → same_text text (kind_name j) ≡ true → j ≡ k → P =
    λ j t same. same_list text (kind_name j) t ∙ ap kind_name same in
    word_or P (same_text text (codes "String")) Text k _ e (is Text) (λ e2.
    word_or P (same_text text (codes "Integer")) Integer k _ e2 (is Integer) (λ e3.
    word_or P (same_text text (codes "Long")) Long k _ e3 (is Long) (λ e4.
    word_or P (same_text text (codes "Boolean")) Boolean k _ e4 (is Boolean) (λ e5.
    word_or P (same_text text (codes "Date")) Date k _ e5 (is Date)
    (λ e6. shaped (shape_named text) refl e6)))))
  where
    shaped : (o : Option GeoKind) → shape_named text ≡ o → option_map (λ g. Geo g) o ≡ Some k
        → text ≡ kind_name k
    shaped None eo h = absurd (some_none k (sym h))
    shaped (Some g) eo h = shape_again text g eo ∙ ap kind_name (same_some (Geo g) k h)

-- options
option_again : (kind : Kind) (text : List ℕ) (o : AttributeOption) → option_of kind text ≡ Some o
    → text ≡ pair_text o
unfolding option_of
option_again kind text o e = go (cut_once 61 text) refl e
  where
    checked : (key value : List ℕ) (b : Bool) → option_if b key value ≡ Some o
        → key ++ (61 ∷ value) ≡ pair_text o
    checked key value true h = ap pair_text (same_some (option_pair key value) o h)
    checked key value false h = absurd (some_none o (sym h))

    go : (c : Option (List ℕ × List ℕ)) → cut_once 61 text ≡ c → option_from kind c ≡ Some o
        → text ≡ pair_text o
    go None ec h = absurd (some_none o (sym h))
    go (Some c) ec h =
        cut_again 61 text c.0 c.1 ec ∙ checked c.0 c.1 (is_option kind (option_pair c.0 c.1)) h

all_again : {A : Type 0} (read : List ℕ → Option A) (write : A → List ℕ)
    → ((p : List ℕ) (x : A) → read p ≡ Some x → p ≡ write x)
    → (parts : List (List ℕ)) (xs : List A) → read_all read parts ≡ Some xs → parts ≡ map write xs
all_again {A} read write each [] xs e = ap (map write) (same_some [] xs e)
all_again {A} read write each (p ∷ ps) xs e =
    go (read p) (read_all read ps) refl refl e (all_again read write each ps)
  where
    go : (o : Option A) (os : Option (List A)) → read p ≡ o → read_all read ps ≡ os
        → read_before o os ≡ Some xs
        → ((ys : List A) → read_all read ps ≡ Some ys → ps ≡ map write ys) → p ∷ ps ≡ map write xs
    go None os eo eos h rest = absurd (some_none xs (sym h))
    go (Some x) None eo eos h rest = absurd (some_none xs (sym h))
    go (Some x) (Some ys) eo eos h rest =
        ap (λ q. q ∷ ps) (each p x eo) ∙ ap (λ l. write x ∷ l) (rest ys eos)
        ∙ ap (map write) (same_some (x ∷ ys) xs h)

options_joined : (options : List AttributeOption) → (map pair_text options ≡ [] → ⊥)
    → options_text options ≡ 58 ∷ join_with_byte 58 (map pair_text options)
options_joined [] some = absurd (some refl)
options_joined (o ∷ []) some = ap (λ t. 58 ∷ t) (append-nil (pair_text o))
options_joined (o ∷ next ∷ options) some =
    ap (λ t. (58 ∷ pair_text o) ++ t)
    (options_joined (next ∷ options) (λ e. no_cons (pair_text next) (map pair_text options) e))
  where
    no_cons : (p : List ℕ) (ps : List (List ℕ)) → p ∷ ps ≡ [] → ⊥
    no_cons p ps h = cc

options_again : (kind : Kind) (text : List ℕ) (options : List AttributeOption)
    → read_all (option_of kind) (parts_of 58 text) ≡ Some options
    → 58 ∷ text ≡ options_text options
options_again kind text options e =
    let parts = all_again (option_of kind) pair_text (option_again kind)
    (parts_of 58 text) options e in
    ap (λ t. 58 ∷ t) (sym (joined_again 58 false text) ∙ ap (join_with_byte 58) parts)
    ∙ sym (options_joined options (λ none. some_parts 58 false text (parts ∙ none)))

-- an attribute
abbrev pub tail_of : Option (List ℕ) → List ℕ
tail_of None = []
tail_of (Some text) = 58 ∷ text

given_again : (kind : Kind) (given : Option (List ℕ)) (options : List AttributeOption)
    → options_of kind given ≡ Some options → tail_of given ≡ options_text options
given_again kind None options e = ap options_text (same_some [] options e)
given_again kind (Some text) options e = options_again kind text options e

typed_again : (name word : List ℕ) (given : Option (List ℕ)) (a : Attribute)
    → attribute_typed name (kind_named word) given ≡ Some a
    → name ++ ((58 ∷ word) ++ tail_of given) ≡ attribute_text a
typed_again name word given a e = go (kind_named word) refl e
  where
    made : (k : Kind) (options : List AttributeOption) (b : Bool)
        → attribute_if b name k options ≡ Some a
        → name ++ ((58 ∷ kind_name k) ++ options_text options) ≡ attribute_text a
    made k options true h = ap attribute_text (same_some (attribute_from name k options) a h)
    made k options false h = absurd (some_none a (sym h))

    with_options : (k : Kind) → word ≡ kind_name k → (os : Option (List AttributeOption))
        → options_of k given ≡ os → attribute_with name k os ≡ Some a
        → name ++ ((58 ∷ word) ++ tail_of given) ≡ attribute_text a
    with_options k is None eo h = absurd (some_none a (sym h))
    with_options k is (Some options) eo h =
        ap (λ t. name ++ ((58 ∷ t) ++ tail_of given)) is
        ∙ ap (λ t. name ++ ((58 ∷ kind_name k) ++ t)) (given_again k given options eo)
        ∙ made k options (is_name name && are_distinct (option_keys options)) h

    go : (k : Option Kind) → kind_named word ≡ k → attribute_typed name k given ≡ Some a
        → name ++ ((58 ∷ word) ++ tail_of given) ≡ attribute_text a
    go None ek h = absurd (some_none a (sym h))
    go (Some k) ek h = with_options k (kind_again word k ek) (options_of k given) refl h

behind_again : (name text : List ℕ) (a : Attribute) → attribute_behind name (Some text) ≡ Some a
    → name ++ 58 ∷ text ≡ attribute_text a
behind_again name text a e = go (cut_once 58 text) refl e
  where
    go : (c : Option (List ℕ × List ℕ)) → cut_once 58 text ≡ c
        → attribute_typed name (kind_named (front_of text c)) (behind_of c) ≡ Some a
        → name ++ 58 ∷ text ≡ attribute_text a
    go None ec h = ap (λ t. name ++ 58 ∷ t) (sym (append-nil text)) ∙ typed_again name text None a h
    go (Some c) ec h =
        ap (λ t. name ++ 58 ∷ t) (cut_again 58 text c.0 c.1 ec)
        ∙ typed_again name c.0 (Some c.1) a h

inner_again : (text : List ℕ) (a : Attribute) → attribute_in text ≡ Some a → text ≡ attribute_text a
inner_again text a e = go (cut_once 58 text) refl e
  where
    go : (c : Option (List ℕ × List ℕ)) → cut_once 58 text ≡ c
        → attribute_behind (front_of text c) (behind_of c) ≡ Some a → text ≡ attribute_text a
    go None ec h = absurd (some_none a (sym h))
    go (Some c) ec h = cut_again 58 text c.0 c.1 ec ∙ behind_again c.0 c.1 a h

star_again : (text : List ℕ) → text ≡ star_text (begins_with_star text) ++ without_star text
star_again [] = refl
star_again (b ∷ text) = go (b == 42) refl
  where
    go : (t : Bool) → (b == 42) ≡ t
        → b ∷ text ≡ star_text (b == 42) ++ (if b == 42 then text else b ∷ text)
    go true e = ap (λ c. c ∷ text) (eqb-true b 42 e)
        ∙ sym (ap (λ t. star_text t ++ (if t then text else b ∷ text)) e)
    go false e = sym (ap (λ t. star_text t ++ (if t then text else b ∷ text)) e)

record IsPart (part : List ℕ) (a : Attribute) : Type 0 where
  pub w : WrittenAttribute
  pub text_is : part ≡ written_attribute w
  pub attribute_is : w.attribute ≡ a
  pub star_is : w.star ≡ is_starred part
  pub blanks : has_blanks w ≡ true

attribute_again : (part : List ℕ) (a : Attribute) → attribute_of part ≡ Some a → IsPart part a
unfolding attribute_of is_starred
attribute_again part a e =
    let cut = trimmed_again part in
    record {
      w = record {
        before = cut.before;
        star = begins_with_star (trimmed part);
        attribute = a;
        after = cut.after;
      };
      text_is = cut.is ∙ ap (λ t. cut.before ++ (t ++ cut.after))
          (star_again (trimmed part)
          ∙ ap (λ t. star_text (begins_with_star (trimmed part)) ++ t)
          (inner_again (without_star (trimmed part)) a e));
      attribute_is = refl;
      star_is = refl;
      blanks = and_from (list_all is_blank cut.before) (list_all is_blank cut.after)
          cut.before_blank cut.after_blank;
    }

record AreParts (parts : List (List ℕ)) (list : List Attribute) : Type 0 where
  pub ws : List WrittenAttribute
  pub text_is : parts ≡ map written_attribute ws
  pub attributes_are : list ≡ map (λ w. w.attribute) ws
  pub stars_are : map is_starred parts ≡ map (λ w. w.star) ws
  pub blanks : list_all has_blanks ws ≡ true

attributes_again : (parts : List (List ℕ)) (list : List Attribute)
    → read_all attribute_of parts ≡ Some list → AreParts parts list
attributes_again [] list e =
    record {
      ws = [];
      text_is = refl;
      attributes_are = sym (same_some [] list e);
      stars_are = refl;
      blanks = refl;
    }
attributes_again (p ∷ ps) list e =
    go (attribute_of p) (read_all attribute_of ps) refl refl e (attributes_again ps)
  where
    go : (o : Option Attribute) (os : Option (List Attribute)) → attribute_of p ≡ o
        → read_all attribute_of ps ≡ os → read_before o os ≡ Some list
        → ((l : List Attribute) → read_all attribute_of ps ≡ Some l → AreParts ps l)
        → AreParts (p ∷ ps) list
    go None os eo eos h rest = absurd (some_none list (sym h))
    go (Some a) None eo eos h rest = absurd (some_none list (sym h))
    go (Some a) (Some l) eo eos h rest =
        let one = attribute_again p a eo in
        let more = rest l eos in
        record {
          ws = one.w ∷ more.ws;
          text_is = ap (λ t. t ∷ ps) one.text_is
              ∙ ap (λ l. written_attribute one.w ∷ l) more.text_is;
          attributes_are =
              sym (same_some (a ∷ l) list h) ∙ ap (λ x. x ∷ l) (sym one.attribute_is)
              ∙ ap (λ m. one.w.attribute ∷ m) more.attributes_are;
          stars_are = ap (λ s. s ∷ map is_starred ps) (sym one.star_is)
              ∙ ap (λ m. one.w.star ∷ m) more.stars_are;
          blanks = and_from (has_blanks one.w) (list_all has_blanks more.ws) one.blanks more.blanks;
        }

-- user data
last_again : (bytes : List ℕ) → slice_index_or bytes (length bytes - 1) 0 ≡ 39
    → bytes ≡ take (length bytes - 1) bytes ++ 39 ∷ []
last_again [] h = absurd (omega (arith, h))
last_again (b ∷ bytes) h =
    let n : length (b ∷ bytes) - 1 ≡ length bytes = omega arith in
    let last : slice_index_or (b ∷ bytes) (length bytes) 0 ≡ 39 =
    sym (ap (λ m. slice_index_or (b ∷ bytes) m 0) n) ∙ h in
    sym (take_all (suc (length bytes)) (b ∷ bytes) (omega arith))
    ∙ take-suc (b ∷ bytes) (length bytes) 0 (omega arith)
    ∙ ap (λ c. take (length bytes) (b ∷ bytes) ++ c ∷ []) last
    ∙ ap (λ m. take m (b ∷ bytes) ++ 39 ∷ []) (sym n)

record IsValue (text value : List ℕ) : Type 0 where
  pub quoted : Bool
  pub text_is : text ≡ value_text quoted value
  pub may : (quoted || is_bare value) ≡ true

value_again : (text value : List ℕ) → value_of text ≡ Some value → IsValue text value
unfolding value_of
value_again [] value e = absurd (some_none value (sym e))
value_again (b ∷ bytes) value e = go (b == 39) refl e
  where
    inside : (q ok : Bool) → (slice_index_or bytes (length bytes - 1) 0 == 39) ≡ q → b ≡ 39
        → value_if (q && ok) (take (length bytes - 1) bytes) ≡ Some value
        → IsValue (b ∷ bytes) value
    inside true true eq is h =
        let same = same_some (take (length bytes - 1) bytes) value h in
        record {
          quoted = true;
          text_is = ap (λ c. c ∷ bytes) is
              ∙ ap (λ t. 39 ∷ t)
              (last_again bytes (eqb-true (slice_index_or bytes (length bytes - 1) 0) 39 eq))
              ∙ ap (λ v. 39 ∷ (v ++ 39 ∷ [])) same;
          may = refl;
        }
    inside true false eq is h = absurd (some_none value (sym h))
    inside false ok eq is h = absurd (some_none value (sym h))

    bare : (ok : Bool) → is_bare (b ∷ bytes) ≡ ok → value_if ok (b ∷ bytes) ≡ Some value
        → IsValue (b ∷ bytes) value
    bare true eb h =
        let same = same_some (b ∷ bytes) value h in
        record { quoted = false; text_is = same; may = sym (ap is_bare same) ∙ eb }
    bare false eb h = absurd (some_none value (sym h))

    go : (t : Bool) → (b == 39) ≡ t
        → (if t then quoted_value bytes else value_if (is_bare (b ∷ bytes)) (b ∷ bytes))
        ≡ Some value → IsValue (b ∷ bytes) value
    go true et h =
        inside (slice_index_or bytes (length bytes - 1) 0 == 39)
        (is_quotable (take (length bytes - 1) bytes)) refl (eqb-true b 39 et) h
    go false et h = bare (is_bare (b ∷ bytes)) refl h

record IsDatumPart (part : List ℕ) (d : Datum) : Type 0 where
  pub w : WrittenDatum
  pub text_is : part ≡ written_datum w
  pub datum_is : w.datum ≡ d
  pub may : may_be_written w ≡ true

datum_again : (part : List ℕ) (d : Datum) → datum_of part ≡ Some d → IsDatumPart part d
unfolding datum_of
datum_again part d e = go (cut_once 61 (trimmed part)) refl e
  where
    keyed : (key text value : List ℕ) → trimmed part ≡ key ++ 61 ∷ text → value_of text ≡ Some value
        → (b : Bool) → datum_if b key value ≡ Some d → IsDatumPart part d
    keyed key text value et ev true h =
        let cut = trimmed_again part in
        let v = value_again text value ev in
        let pair : Datum = record { key = key; value = value } in
        let same : pair ≡ d = same_some pair d h in
        record {
          w = record { before = cut.before; quoted = v.quoted; datum = pair; after = cut.after };
          text_is = cut.is
              ∙ ap (λ t. cut.before ++ (t ++ cut.after)) (et ∙ ap (λ t. key ++ 61 ∷ t) v.text_is);
          datum_is = same;
          may = and_from (list_all is_blank cut.before && list_all is_blank cut.after)
              (v.quoted || is_bare value)
              (and_from (list_all is_blank cut.before) (list_all is_blank cut.after)
              cut.before_blank cut.after_blank) v.may;
        }
    keyed key text value et ev false h = absurd (some_none d (sym h))

    valued : (key text : List ℕ) → trimmed part ≡ key ++ 61 ∷ text → (o : Option (List ℕ))
        → value_of text ≡ o → datum_with key o ≡ Some d → IsDatumPart part d
    valued key text et None ev h = absurd (some_none d (sym h))
    valued key text et (Some value) ev h = keyed key text value et ev (is_key key) h

    go : (c : Option (List ℕ × List ℕ)) → cut_once 61 (trimmed part) ≡ c → datum_from c ≡ Some d
        → IsDatumPart part d
    go None ec h = absurd (some_none d (sym h))
    go (Some c) ec h = valued c.0 c.1 (cut_again 61 (trimmed part) c.0 c.1 ec) (value_of c.1) refl h

record AreDatumParts (parts : List (List ℕ)) (list : List Datum) : Type 0 where
  pub ws : List WrittenDatum
  pub text_is : parts ≡ map written_datum ws
  pub data_are : list ≡ map (λ w. w.datum) ws
  pub may : list_all may_be_written ws ≡ true

data_again : (parts : List (List ℕ)) (list : List Datum) → read_all datum_of parts ≡ Some list
    → AreDatumParts parts list
data_again [] list e =
    record { ws = []; text_is = refl; data_are = sym (same_some [] list e); may = refl }
data_again (p ∷ ps) list e = go (datum_of p) (read_all datum_of ps) refl refl e (data_again ps)
  where
    go : (o : Option Datum) (os : Option (List Datum)) → datum_of p ≡ o → read_all datum_of ps ≡ os
        → read_before o os ≡ Some list
        → ((l : List Datum) → read_all datum_of ps ≡ Some l → AreDatumParts ps l)
        → AreDatumParts (p ∷ ps) list
    go None os eo eos h rest = absurd (some_none list (sym h))
    go (Some d) None eo eos h rest = absurd (some_none list (sym h))
    go (Some d) (Some l) eo eos h rest =
        let one = datum_again p d eo in
        let more = rest l eos in
        record {
          ws = one.w ∷ more.ws;
          text_is = ap (λ t. t ∷ ps) one.text_is ∙ ap (λ l. written_datum one.w ∷ l) more.text_is;
          data_are = sym (same_some (d ∷ l) list h) ∙ ap (λ x. x ∷ l) (sym one.datum_is)
              ∙ ap (λ m. one.w.datum ∷ m) more.data_are;
          may = and_from (may_be_written one.w) (list_all may_be_written more.ws) one.may more.may;
        }

-- the user data behind `;`, or none
abbrev pub behind_text : Option (List ℕ) → List ℕ
behind_text None = []
behind_text (Some text) = 59 ∷ text

record AreData (rest : Option (List ℕ)) (list : List Datum) : Type 0 where
  pub ws : List WrittenDatum
  pub text_is : behind_text rest ≡ data_part (map written_datum ws)
  pub data_are : list ≡ map (λ w. w.datum) ws
  pub may : list_all may_be_written ws ≡ true

part_of_some : (texts : List (List ℕ)) → (texts ≡ [] → ⊥)
    → 59 ∷ join_with_byte 44 texts ≡ data_part texts
part_of_some [] some = absurd (some refl)
part_of_some (t ∷ texts) some = refl

rest_again : (rest : Option (List ℕ)) (list : List Datum) → data_of rest ≡ Some list
    → AreData rest list
rest_again None list e =
    record { ws = []; text_is = refl; data_are = sym (same_some [] list e); may = refl }
rest_again (Some text) list e =
    let parts = data_again (parts_of 44 text) list e in
    record {
      ws = parts.ws;
      text_is = ap (λ t. 59 ∷ t)
          (sym (joined_again 44 false text) ∙ ap (join_with_byte 44) parts.text_is)
          ∙ part_of_some (map written_datum parts.ws)
          (λ none. some_parts 44 false text (parts.text_is ∙ none));
      data_are = parts.data_are;
      may = parts.may;
    }

-- the whole
pub read_is_spelled : (name : List ℕ) (number : ℕ) (text : List ℕ) (t : Specification)
    → specification_of name number text ≡ Some t → Spells text t
unfolding outline_of
read_is_spelled name number text t e = cut (cut_once 59 text) refl
  where
    valid : IsValid t
    valid = (read_valid name number text t e).valid

    kept : (o : Specification) (b : Bool) → specification_if b o ≡ Some t → o ≡ t
    kept o true h = same_some o t h
    kept o false h = absurd (some_none t (sym h))

    made : (front : List ℕ) (rest : Option (List ℕ)) → text ≡ front ++ behind_text rest
        → (list : List Attribute) (given : List Datum)
        → attributes_of front ≡ Some list → data_of rest ≡ Some given → (fit : Bool)
        → stars_fit (stars_of front) list ≡ fit
        → consistent_only
        (specification_if fit (specification_from name number (stars_of front) list given))
        ≡ Some t → Spells text t
    made front rest whole list given el ed true fit h =
        let o : Specification = specification_from name number (stars_of front) list given in
        let same : o ≡ t = kept o (is_consistent o) h in
        let parts = attributes_again (parts_of 44 front) list el in
        let user = rest_again rest given ed in
        let attributes : list ≡ t.attributes = ap (λ (s : Specification). s.attributes) same in
        record {
          attributes = parts.ws;
          given = user.ws;
          text_is = whole
              ∙ ap (λ f. f ++ behind_text rest)
              (sym (joined_again 44 false front) ∙ ap (join_with_byte 44) parts.text_is)
              ∙ ap (λ b. join_with_byte 44 (map written_attribute parts.ws) ++ b) user.text_is;
          attributes_are = sym attributes ∙ parts.attributes_are;
          data_are = sym (ap (λ (s : Specification). s.data) same) ∙ user.data_are;
          blanks = parts.blanks;
          quotes = user.may;
          stars = ap (λ s. stars_fit s t.attributes) (sym parts.stars_are)
              ∙ ap (stars_fit (stars_of front)) (sym attributes) ∙ fit;
          geometry = sym (ap (λ (s : Specification). s.geometry) same)
              ∙ ap (λ s. geometry_place s list) parts.stars_are
              ∙ ap (geometry_place (map (λ w. w.star) parts.ws)) attributes;
          valid = valid;
        }
    made front rest whole list given el ed false fit h = absurd (some_none t (sym h))

    parsed : (front : List ℕ) (rest : Option (List ℕ)) → text ≡ front ++ behind_text rest
        → (ol : Option (List Attribute)) (od : Option (List Datum))
        → attributes_of front ≡ ol → data_of rest ≡ od
        → consistent_only (outline_with name number (stars_of front) ol od) ≡ Some t → Spells text t
    parsed front rest whole None od el ed h = absurd (some_none t (sym h))
    parsed front rest whole (Some list) None el ed h = absurd (some_none t (sym h))
    parsed front rest whole (Some list) (Some given) el ed h =
        made front rest whole list given el ed (stars_fit (stars_of front) list) refl h

    from_cut : (c : Option (List ℕ × List ℕ)) → cut_once 59 text ≡ c
        → consistent_only
        (outline_with name number (stars_of (front_of text c)) (attributes_of (front_of text c))
        (data_of (behind_of c))) ≡ Some t
    from_cut c ec =
        sym (ap (λ d. consistent_only
        (outline_with name number (stars_of (front_of text d)) (attributes_of (front_of text d))
        (data_of (behind_of d)))) ec) ∙ e

    cut : (c : Option (List ℕ × List ℕ)) → cut_once 59 text ≡ c → Spells text t
    cut None ec = parsed text None (sym (append-nil text)) (attributes_of text) (data_of None) refl
        refl (from_cut None ec)
    cut (Some c) ec =
        parsed c.0 (Some c.1) (cut_again 59 text c.0 c.1 ec) (attributes_of c.0)
        (data_of (Some c.1)) refl refl (from_cut (Some c) ec)
