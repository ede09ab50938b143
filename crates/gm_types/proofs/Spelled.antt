-- A text that spells a specification is read as it.
use Rattle.std.proofs.Common.{◌≡◌, ◌<◌, ℕ, Bool, true, false, ◌&&◌, ◌||◌, ◌==◌, List, [], ◌∷◌, ◌++◌}
use Rattle.std.proofs.Common.{map, length, take, Some, None, refl, sym, ◌∙◌, ap, subst, arith}
use Rattle.std.proofs.Common.{append_assoc, append-nil}
use Rattle.std.specs.Prelude.{nat_le, slice_index_or, ◌-◌, if◌then◌else◌}
use Rattle.std.specs.List.{list_all, join_with_byte}
use Rattle.std.specs.Str.{is_utf8}
use Rattle.std.proofs.lemmas.Bool.{and_parts, and_from, or_left, or_right, eqb-true, false≢true}
use Rattle.gm_base.proofs.Options.{same_some}
use Rattle.gm_types.specs.declared.attribute.Attribute.{Attribute}
use Rattle.gm_types.specs.declared.attribute.AttributeOption.{AttributeOption}
use Rattle.gm_types.specs.declared.datum.Datum.{Datum}
use Rattle.gm_types.specs.declared.kind.GeoKind.TheVariants as shape
use Rattle.gm_types.specs.declared.kind.Kind.{Kind}
use Rattle.gm_types.specs.declared.kind.Kind.TheVariants.{Text, Integer, Long, Boolean, Date, Geo}
use Rattle.gm_types.specs.Attribute.{is_option, attribute_from, is_high, option_keys}
use Rattle.gm_types.specs.Datum.{is_datum, datum_keys}
use Rattle.gm_types.specs.FeatureType.{IsValid, is_attribute, has_settings}
use Rattle.gm_types.specs.Kind.{kind_name}
use Rattle.gm_types.specs.Parts.{cut_once, trimmed}
use Rattle.gm_types.specs.Reader.{value_if, read_before, read_all, option_if, option_from}
use Rattle.gm_types.specs.Reader.{option_of, attribute_if, attribute_with, attribute_typed}
use Rattle.gm_types.specs.Reader.{attribute_behind, attribute_in, attribute_of, front_of}
use Rattle.gm_types.specs.Reader.{behind_of, shape_named, kind_named, begins_with_star}
use Rattle.gm_types.specs.Reader.{without_star, is_starred, quoted_value, value_of, datum_if}
use Rattle.gm_types.specs.Reader.{datum_with, datum_from, datum_of, attributes_of, stars_of}
use Rattle.gm_types.specs.Reader.{data_of, geometry_place, stars_fit, specification_from}
use Rattle.gm_types.specs.Reader.{specification_if, outline_with, outline_of, is_consistent}
use Rattle.gm_types.specs.Reader.{consistent_only, specification_of}
use Rattle.gm_types.specs.Specification.{Specification, names_of}
use Rattle.gm_types.specs.Spelling.{pair_text, options_text, attribute_text, starred_text}
use Rattle.gm_types.specs.Spelling.{value_text, datum_text, WrittenAttribute, written_attribute}
use Rattle.gm_types.specs.Spelling.{WrittenDatum, written_datum, written, has_blanks}
use Rattle.gm_types.specs.Spelling.{may_be_written, Spells}
use Rattle.gm_types.specs.Words.{is_name, is_key, is_key_byte, is_bare, is_bare_byte, is_bare_form}
use Rattle.gm_base.specs.Ascii.{is_blank}
use Rattle.gm_types.specs.Words.{is_quotable, has_no_quote, are_distinct}
use Rattle.gm_types.proofs.Scan.{IsWhole, AreWhole, IsTight, whole_append, whole_plain}
use Rattle.gm_types.proofs.Scan.{whole_quoted, parts_join, cut_whole, uncut_whole, trimmed_tight}
use Rattle.std.proofs.lemmas.List.{length-append}
use Rattle.gm_types.proofs.ByteClasses.{apart, all_plain, all_append, all_more, no_blank, name_keys}
use Rattle.gm_types.proofs.ByteClasses.{kind_keys, key_keys, bare_bares, IsPair, pair_of}
use Rattle.gm_types.proofs.ByteClasses.{is_attribute_byte, IsMade, made, starred_bytes, last_of}
use Rattle.gm_types.proofs.ByteClasses.{tight_all}
use Rattle.gm_types.proofs.Outlined.{outline_uncut, outline_cut}

kind_read : (kind : Kind) → kind_named (kind_name kind) ≡ Some kind
unfolding kind_named shape_named
kind_read Text = refl
kind_read Integer = refl
kind_read Long = refl
kind_read Boolean = refl
kind_read Date = refl
kind_read (Geo shape.Point) = refl
kind_read (Geo shape.LineString) = refl
kind_read (Geo shape.Polygon) = refl
kind_read (Geo shape.MultiPoint) = refl
kind_read (Geo shape.MultiLineString) = refl
kind_read (Geo shape.MultiPolygon) = refl
kind_read (Geo shape.Any) = refl

-- options
key_whole : (mark : ℕ) → is_key_byte mark ≡ false → (key : List ℕ) → is_key key ≡ true
    → IsWhole mark key
key_whole mark low key h =
    whole_plain mark key (all_plain is_key_byte mark low refl key (key_keys key h))

option_read : (kind : Kind) (option : AttributeOption) → is_option kind option ≡ true
    → option_of kind (pair_text option) ≡ Some option
unfolding option_of
option_read kind option h =
    let pair = pair_of kind option h in
    ap (option_from kind)
    (cut_whole 61 option.key option.value (key_whole 61 refl option.key pair.key))
    ∙ ap (λ b. option_if b option.key option.value) h

pair_whole : (option : AttributeOption) → IsPair option → IsWhole 58 (pair_text option)
pair_whole option pair =
    whole_append 58 option.key (61 ∷ option.value) (key_whole 58 refl option.key pair.key)
    (whole_plain 58 (61 ∷ option.value)
    (all_plain (λ b. is_bare_byte b || b == 61) 58 refl refl (61 ∷ option.value)
    (all_more is_bare_byte (λ b. is_bare_byte b || b == 61) (λ b t. ap (λ c. c || b == 61) t)
    option.value (bare_bares option.value pair.value))))

pairs_whole : (kind : Kind) (options : List AttributeOption)
    → list_all (is_option kind) options ≡ true → AreWhole 58 (map pair_text options)
pairs_whole kind [] h = tt
pairs_whole kind (option ∷ options) h =
    let parts = and_parts (is_option kind option) (list_all (is_option kind) options) h in
    (pair_whole option (pair_of kind option parts.0), pairs_whole kind options parts.1)

pairs_read : (kind : Kind) (options : List AttributeOption)
    → list_all (is_option kind) options ≡ true
    → read_all (option_of kind) (map pair_text options) ≡ Some options
pairs_read kind [] h = refl
pairs_read kind (option ∷ options) h =
    let parts = and_parts (is_option kind option) (list_all (is_option kind) options) h in
    ap (λ o. read_before o (read_all (option_of kind) (map pair_text options)))
    (option_read kind option parts.0)
    ∙ ap (read_before (Some option)) (pairs_read kind options parts.1)

joined : (option : AttributeOption) (options : List AttributeOption)
    → options_text (option ∷ options) ≡ 58 ∷ join_with_byte 58 (map pair_text (option ∷ options))
joined option [] = ap (λ t. 58 ∷ t) (append-nil (pair_text option))
joined option (next ∷ options) = ap (λ t. (58 ∷ pair_text option) ++ t) (joined next options)

-- an attribute
typed_read : (name : List ℕ) (kind : Kind) (options : List AttributeOption)
    → list_all (is_option kind) options ≡ true
    → attribute_behind name (Some (kind_name kind ++ options_text options))
    ≡ attribute_with name kind (Some options)
typed_read name kind [] h =
    let whole = whole_plain 58 (kind_name kind)
    (all_plain is_key_byte 58 refl refl (kind_name kind) (kind_keys kind)) in
    ap (λ t. attribute_behind name (Some t)) (append-nil (kind_name kind))
    ∙ ap (λ c. attribute_typed name (kind_named (front_of (kind_name kind) c)) (behind_of c))
    (uncut_whole 58 (kind_name kind) whole)
    ∙ ap (λ k. attribute_typed name k None) (kind_read kind)
typed_read name kind (option ∷ options) h =
    let whole = whole_plain 58 (kind_name kind)
    (all_plain is_key_byte 58 refl refl (kind_name kind) (kind_keys kind)) in
    let rest = join_with_byte 58 (map pair_text (option ∷ options)) in
    ap (λ t. attribute_behind name (Some (kind_name kind ++ t))) (joined option options)
    ∙ ap (λ c. attribute_typed name (kind_named (front_of (kind_name kind ++ 58 ∷ rest) c))
    (behind_of c)) (cut_whole 58 (kind_name kind) rest whole)
    ∙ ap (λ k. attribute_typed name k (Some rest)) (kind_read kind)
    ∙ ap (λ parts. attribute_with name kind (read_all (option_of kind) parts))
    (parts_join 58 (pair_text option) (map pair_text options)
    (pairs_whole kind (option ∷ options) h))
    ∙ ap (attribute_with name kind) (pairs_read kind (option ∷ options) h)

made_same : (a : Attribute) → IsMade a → attribute_from a.name a.kind a.options ≡ a
made_same a m =
    ap (λ i. let q : Attribute =
    record {
      name = a.name;
      kind = a.kind;
      indexed = i;
      high = is_high a.options;
      options = a.options;
    } in q) (sym m.indexed)
    ∙ ap (λ i. let q : Attribute =
    record { name = a.name; kind = a.kind; indexed = a.indexed; high = i; options = a.options } in
    q) (sym m.high)

attribute_read : (a : Attribute) → IsMade a → attribute_in (attribute_text a) ≡ Some a
attribute_read a m =
    let whole = whole_plain 58 a.name
    (all_plain is_key_byte 58 refl refl a.name (name_keys a.name m.name)) in
    let rest = kind_name a.kind ++ options_text a.options in
    ap (λ c. attribute_behind (front_of (attribute_text a) c) (behind_of c))
    (cut_whole 58 a.name rest whole)
    ∙ typed_read a.name a.kind a.options m.options
    ∙ ap (λ b. attribute_if b a.name a.kind a.options)
    (and_from (is_name a.name) (are_distinct (option_keys a.options)) m.name m.keys)
    ∙ ap Some (made_same a m)

-- a name begins with no star
record Begins (text : List ℕ) : Type 0 where
  pub first : ℕ
  pub rest : List ℕ
  pub is : text ≡ first ∷ rest
  pub no_star : (first == 42) ≡ false

name_begins : (name : List ℕ) → is_name name ≡ true → (rest : List ℕ) → Begins (name ++ rest)
unfolding is_name
name_begins [] h rest = absurd (false≢true h)
name_begins (b ∷ name) h rest = record {
  first = b;
  rest = name ++ rest;
  is = refl;
  no_star = star (b == 42) refl;
}
  where
    letter : list_all is_key_byte (b ∷ name) ≡ true
    letter = name_keys (b ∷ name) h

    star : (t : Bool) → (b == 42) ≡ t → t ≡ false
    star true e = absurd
        (false≢true (ap is_key_byte (sym (eqb-true b 42 e))
        ∙ (and_parts (is_key_byte b) (list_all is_key_byte name) letter).0))
    star false e = refl

unstarred_same : (text : List ℕ) → Begins text → without_star text ≡ text
unstarred_same text b =
    ap without_star b.is ∙ ap (λ t. if t then b.rest else b.first ∷ b.rest) b.no_star ∙ sym b.is

no_star : (text : List ℕ) → Begins text → begins_with_star text ≡ false
no_star text b = ap begins_with_star b.is ∙ b.no_star

star_dropped : (star : Bool) (a : Attribute) → IsMade a
    → without_star (starred_text star a) ≡ attribute_text a
star_dropped true a m = refl
star_dropped false a m =
    unstarred_same (attribute_text a)
    (name_begins a.name m.name ((58 ∷ kind_name a.kind) ++ options_text a.options))

star_seen : (star : Bool) (a : Attribute) → IsMade a → begins_with_star (starred_text star a) ≡ star
star_seen true a m = refl
star_seen false a m =
    no_star (attribute_text a)
    (name_begins a.name m.name ((58 ∷ kind_name a.kind) ++ options_text a.options))

starred_tight : (star : Bool) (a : Attribute) → IsMade a → IsTight (starred_text star a)
starred_tight true a m =
    tight_all is_attribute_byte refl refl 42 (attribute_text a) (starred_bytes true a m)
starred_tight false a m =
    let b = name_begins a.name m.name ((58 ∷ kind_name a.kind) ++ options_text a.options) in
    subst IsTight (sym b.is)
    (tight_all is_attribute_byte refl refl b.first b.rest
    (subst (λ (t : List ℕ). list_all is_attribute_byte t ≡ true) b.is (starred_bytes false a m)))

-- an attribute as it is written
pub record IsWritten (w : WrittenAttribute) : Type 0 where
  pub blanks : has_blanks w ≡ true
  pub attribute : is_attribute w.attribute ≡ true

written_trimmed : (w : WrittenAttribute) → IsWritten w
    → trimmed (written_attribute w) ≡ starred_text w.star w.attribute
written_trimmed w h =
    let blanks = and_parts (list_all is_blank w.before) (list_all is_blank w.after) h.blanks in
    trimmed_tight w.before (starred_text w.star w.attribute) w.after blanks.0 blanks.1
    (starred_tight w.star w.attribute (made w.attribute h.attribute))

written_read : (w : WrittenAttribute) → IsWritten w
    → attribute_of (written_attribute w) ≡ Some w.attribute
unfolding attribute_of
written_read w h =
    let m = made w.attribute h.attribute in
    ap (λ t. attribute_in (without_star t)) (written_trimmed w h)
    ∙ ap attribute_in (star_dropped w.star w.attribute m)
    ∙ attribute_read w.attribute m

written_star : (w : WrittenAttribute) → IsWritten w → is_starred (written_attribute w) ≡ w.star
unfolding is_starred
written_star w h =
    ap begins_with_star (written_trimmed w h)
    ∙ star_seen w.star w.attribute (made w.attribute h.attribute)

-- its bytes, blanks too
abbrev pub is_written_byte : ℕ → Bool
is_written_byte b = is_attribute_byte b || is_blank b

written_bytes : (w : WrittenAttribute) → IsWritten w
    → list_all is_written_byte (written_attribute w) ≡ true
written_bytes w h =
    let blanks = and_parts (list_all is_blank w.before) (list_all is_blank w.after) h.blanks in
    all_append is_written_byte w.before (starred_text w.star w.attribute ++ w.after)
    (all_more is_blank is_written_byte (λ b t. or_right (is_attribute_byte b) (is_blank b) t)
    w.before blanks.0)
    (all_append is_written_byte (starred_text w.star w.attribute) w.after
    (all_more is_attribute_byte is_written_byte
    (λ b t. or_left (is_attribute_byte b) (is_blank b) t) (starred_text w.star w.attribute)
    (starred_bytes w.star w.attribute (made w.attribute h.attribute)))
    (all_more is_blank is_written_byte (λ b t. or_right (is_attribute_byte b) (is_blank b) t)
    w.after blanks.1))

-- written attributes
abbrev pub AreWritten : List WrittenAttribute → Type 0
AreWritten [] = Unit {0}
AreWritten (w ∷ ws) = IsWritten w × AreWritten ws

are_written : (ws : List WrittenAttribute) → list_all has_blanks ws ≡ true
    → list_all is_attribute (map (λ w. w.attribute) ws) ≡ true → AreWritten ws
are_written [] b a = tt
are_written (w ∷ ws) b a =
    let blanks = and_parts (has_blanks w) (list_all has_blanks ws) b in
    let attributes =
    and_parts (is_attribute w.attribute)
    (list_all is_attribute (map (λ w. w.attribute) ws)) a in
    (record { blanks = blanks.0; attribute = attributes.0 }, are_written ws blanks.1 attributes.1)

attributes_whole : (ws : List WrittenAttribute) → AreWritten ws
    → AreWhole 44 (map written_attribute ws)
attributes_whole [] h = tt
attributes_whole (w ∷ ws) h = (
  whole_plain 44 (written_attribute w)
      (all_plain is_written_byte 44 refl refl (written_attribute w) (written_bytes w h.0)),
  attributes_whole ws h.1,
)

attributes_read : (ws : List WrittenAttribute) → AreWritten ws
    → read_all attribute_of (map written_attribute ws) ≡ Some (map (λ w. w.attribute) ws)
attributes_read [] h = refl
attributes_read (w ∷ ws) h =
    ap (λ o. read_before o (read_all attribute_of (map written_attribute ws))) (written_read w h.0)
    ∙ ap (read_before (Some w.attribute)) (attributes_read ws h.1)

stars_read : (ws : List WrittenAttribute) → AreWritten ws
    → map is_starred (map written_attribute ws) ≡ map (λ w. w.star) ws
stars_read [] h = refl
stars_read (w ∷ ws) h =
    ap (λ b. b ∷ map is_starred (map written_attribute ws)) (written_star w h.0)
    ∙ ap (λ l. w.star ∷ l) (stars_read ws h.1)

-- their text has no `;`
abbrev pub is_listed_byte : ℕ → Bool
is_listed_byte b = is_written_byte b || b == 44

joined_bytes : (w : WrittenAttribute) (ws : List WrittenAttribute) → AreWritten (w ∷ ws)
    → list_all is_listed_byte (join_with_byte 44 (map written_attribute (w ∷ ws))) ≡ true
joined_bytes w [] h =
    all_more is_written_byte is_listed_byte (λ b t. or_left (is_written_byte b) (b == 44) t)
    (written_attribute w) (written_bytes w h.0)
joined_bytes w (v ∷ ws) h =
    all_append is_listed_byte (written_attribute w)
    (44 ∷ join_with_byte 44 (map written_attribute (v ∷ ws)))
    (all_more is_written_byte is_listed_byte (λ b t. or_left (is_written_byte b) (b == 44) t)
    (written_attribute w) (written_bytes w h.0))
    (joined_bytes v ws h.1)

joined_whole : (w : WrittenAttribute) (ws : List WrittenAttribute) → AreWritten (w ∷ ws)
    → IsWhole 59 (join_with_byte 44 (map written_attribute (w ∷ ws)))
joined_whole w ws h =
    whole_plain 59 (join_with_byte 44 (map written_attribute (w ∷ ws)))
    (all_plain is_listed_byte 59 refl refl (join_with_byte 44 (map written_attribute (w ∷ ws)))
    (joined_bytes w ws h))

-- user data
pub record IsWrittenDatum (w : WrittenDatum) : Type 0 where
  pub before : list_all is_blank w.before ≡ true
  pub after : list_all is_blank w.after ≡ true
  pub key : is_key w.datum.key ≡ true
  pub quotable : is_quotable w.datum.value ≡ true
  pub bare : w.quoted ≡ false → is_bare w.datum.value ≡ true

written_datum_of : (w : WrittenDatum) → may_be_written w ≡ true → is_datum w.datum ≡ true
    → IsWrittenDatum w
written_datum_of w h d =
    let parts = and_parts (list_all is_blank w.before && list_all is_blank w.after)
    (w.quoted || is_bare w.datum.value) h in
    let blanks = and_parts (list_all is_blank w.before) (list_all is_blank w.after) parts.0 in
    let datum = and_parts (is_key w.datum.key) (is_quotable w.datum.value) d in
    record {
      before = blanks.0;
      after = blanks.1;
      key = datum.0;
      quotable = datum.1;
      bare = λ e. sym (ap (λ b. b || is_bare w.datum.value) e) ∙ parts.1;
    }

quote_free : (value : List ℕ) → is_quotable value ≡ true → has_no_quote value ≡ true
unfolding is_quotable
quote_free value h = (and_parts (has_no_quote value) (is_utf8 value) h).0

value_whole : (mark : ℕ) → (39 == mark) ≡ false → is_bare_byte mark ≡ false
    → (quoted : Bool) (value : List ℕ) → is_quotable value ≡ true
    → (quoted ≡ false → is_bare value ≡ true) → IsWhole mark (value_text quoted value)
value_whole mark other low true value q bare = whole_quoted mark value other (quote_free value q)
value_whole mark other low false value q bare =
    whole_plain mark value
    (all_plain is_bare_byte mark low refl value (bare_bares value (bare refl)))

datum_whole : (w : WrittenDatum) → IsWrittenDatum w → IsWhole 44 (written_datum w)
datum_whole w h =
    let blank_plain : (bytes : List ℕ) → list_all is_blank bytes ≡ true → IsWhole 44 bytes =
    λ bytes b. whole_plain 44 bytes (all_plain is_blank 44 refl refl bytes b) in
    whole_append 44 w.before (datum_text w.quoted w.datum ++ w.after)
    (blank_plain w.before h.before)
    (whole_append 44 (datum_text w.quoted w.datum) w.after
    (whole_append 44 w.datum.key (61 ∷ value_text w.quoted w.datum.value)
    (key_whole 44 refl w.datum.key h.key)
    (whole_append 44 (61 ∷ []) (value_text w.quoted w.datum.value) (whole_plain 44 (61 ∷ []) refl)
    (value_whole 44 refl refl w.quoted w.datum.value h.quotable h.bare)))
    (blank_plain w.after h.after))

-- the last byte of a datum: a quote, or the last of a bare value
record Ends (text : List ℕ) : Type 0 where
  pub front : List ℕ
  pub last : ℕ
  pub is : text ≡ front ++ last ∷ []
  pub kept : is_blank last ≡ false

bare_ends : (value : List ℕ) → is_bare value ≡ true → Ends value
unfolding is_bare
bare_ends [] h = absurd (false≢true h)
bare_ends (b ∷ value) h =
    let all = (and_parts (nat_le 1 (length (b ∷ value))) (list_all is_bare_byte (b ∷ value))
    (and_parts (is_bare_form (b ∷ value)) (is_utf8 (b ∷ value)) h).0).1 in
    let last = last_of is_bare_byte b value all in
    record {
      front = last.front;
      last = last.last;
      is = last.is;
      kept = no_blank is_bare_byte refl refl last.last last.passes;
    }

value_ends : (quoted : Bool) (value : List ℕ) → (quoted ≡ false → is_bare value ≡ true)
    → Ends (value_text quoted value)
value_ends true value bare = record { front = 39 ∷ value; last = 39; is = refl; kept = refl }
value_ends false value bare = bare_ends value (bare refl)

record BeginsKey (key : List ℕ) : Type 0 where
  pub first : ℕ
  pub rest : List ℕ
  pub is : key ≡ first ∷ rest
  pub kept : is_blank first ≡ false

key_begins : (key : List ℕ) → is_key key ≡ true → BeginsKey key
unfolding is_key
key_begins [] h = absurd (false≢true h)
key_begins (b ∷ key) h = record {
  first = b;
  rest = key;
  is = refl;
  kept = no_blank is_key_byte refl refl b
      (and_parts (is_key_byte b) (list_all is_key_byte key)
      (and_parts (nat_le 1 (length (b ∷ key))) (list_all is_key_byte (b ∷ key)) h).1).0;
}

datum_tight : (w : WrittenDatum) → IsWrittenDatum w → IsTight (datum_text w.quoted w.datum)
datum_tight w h =
    let b = key_begins w.datum.key h.key in
    let e = value_ends w.quoted w.datum.value h.bare in
    record {
      first = b.first;
      rest = b.rest ++ (61 ∷ value_text w.quoted w.datum.value);
      front = w.datum.key ++ (61 ∷ e.front);
      last = e.last;
      begins = ap (λ k. k ++ (61 ∷ value_text w.quoted w.datum.value)) b.is;
      ends = ap (λ v. w.datum.key ++ (61 ∷ v)) e.is
          ∙ sym (append_assoc w.datum.key (61 ∷ e.front) (e.last ∷ []));
      first_kept = b.kept;
      last_kept = e.kept;
    }

last_quote : (value : List ℕ) (n : ℕ) → n ≡ length value
    → slice_index_or (value ++ 39 ∷ []) n 0 ≡ 39
last_quote [] n e = rw e refl
last_quote (b ∷ value) n e = rw e (last_quote value (length value) refl)

all_but_last : (value : List ℕ) (n : ℕ) → n ≡ length value → take n (value ++ 39 ∷ []) ≡ value
all_but_last [] n e = rw e refl
all_but_last (b ∷ value) n e = rw e (ap (λ t. b ∷ t) (all_but_last value (length value) refl))

quoted_read : (value : List ℕ) → is_quotable value ≡ true
    → quoted_value (value ++ 39 ∷ []) ≡ Some value
quoted_read value h =
    let len : length (value ++ 39 ∷ []) - 1 ≡ length value = simp length-append (omega arith) in
    ap (λ n. value_if
    (slice_index_or (value ++ 39 ∷ []) n 0 == 39 && is_quotable (take n (value ++ 39 ∷ [])))
    (take n (value ++ 39 ∷ []))) len
    ∙ ap (λ v. value_if (slice_index_or (value ++ 39 ∷ []) (length value) 0 == 39 && is_quotable v)
    v) (all_but_last value (length value) refl)
    ∙ ap (λ b. value_if (b == 39 && is_quotable value) value) (last_quote value (length value) refl)
    ∙ ap (λ b. value_if b value) h

bare_read : (value : List ℕ) → is_bare value ≡ true → value_of value ≡ Some value
unfolding value_of is_bare
bare_read [] h = absurd (false≢true h)
bare_read (b ∷ value) h =
    let all = (and_parts (nat_le 1 (length (b ∷ value))) (list_all is_bare_byte (b ∷ value))
    (and_parts (is_bare_form (b ∷ value)) (is_utf8 (b ∷ value)) h).0).1 in
    let first = (and_parts (is_bare_byte b) (list_all is_bare_byte value) all).0 in
    ap (λ t. if t then quoted_value value else value_if (is_bare (b ∷ value)) (b ∷ value))
    (apart is_bare_byte 39 b refl first)
    ∙ ap (λ t. value_if t (b ∷ value)) h

value_read : (quoted : Bool) (value : List ℕ) → is_quotable value ≡ true
    → (quoted ≡ false → is_bare value ≡ true)
    → value_of (value_text quoted value) ≡ Some value
unfolding value_of
value_read true value q bare = quoted_read value q
value_read false value q bare = bare_read value (bare refl)

datum_read : (w : WrittenDatum) → IsWrittenDatum w → datum_of (written_datum w) ≡ Some w.datum
unfolding datum_of
datum_read w h =
    ap (λ t. datum_from (cut_once 61 t))
    (trimmed_tight w.before (datum_text w.quoted w.datum) w.after h.before h.after
    (datum_tight w h))
    ∙ ap datum_from
    (cut_whole 61 w.datum.key (value_text w.quoted w.datum.value)
    (key_whole 61 refl w.datum.key h.key))
    ∙ ap (datum_with w.datum.key) (value_read w.quoted w.datum.value h.quotable h.bare)
    ∙ ap (λ b. datum_if b w.datum.key w.datum.value) h.key

abbrev pub AreWrittenData : List WrittenDatum → Type 0
AreWrittenData [] = Unit {0}
AreWrittenData (w ∷ ws) = IsWrittenDatum w × AreWrittenData ws

are_written_data : (ws : List WrittenDatum) → list_all may_be_written ws ≡ true
    → list_all is_datum (map (λ w. w.datum) ws) ≡ true → AreWrittenData ws
are_written_data [] b d = tt
are_written_data (w ∷ ws) b d =
    let may = and_parts (may_be_written w) (list_all may_be_written ws) b in
    let datum = and_parts (is_datum w.datum) (list_all is_datum (map (λ w. w.datum) ws)) d in
    (written_datum_of w may.0 datum.0, are_written_data ws may.1 datum.1)

data_whole : (ws : List WrittenDatum) → AreWrittenData ws → AreWhole 44 (map written_datum ws)
data_whole [] h = tt
data_whole (w ∷ ws) h = (datum_whole w h.0, data_whole ws h.1)

data_read : (ws : List WrittenDatum) → AreWrittenData ws
    → read_all datum_of (map written_datum ws) ≡ Some (map (λ w. w.datum) ws)
data_read [] h = refl
data_read (w ∷ ws) h =
    ap (λ o. read_before o (read_all datum_of (map written_datum ws))) (datum_read w h.0)
    ∙ ap (read_before (Some w.datum)) (data_read ws h.1)

-- the attributes of a text
attributes_found : (w : WrittenAttribute) (ws : List WrittenAttribute) → AreWritten (w ∷ ws)
    → attributes_of (join_with_byte 44 (map written_attribute (w ∷ ws)))
    ≡ Some (map (λ w. w.attribute) (w ∷ ws))
attributes_found w ws h =
    ap (read_all attribute_of)
    (parts_join 44 (written_attribute w) (map written_attribute ws)
    (attributes_whole (w ∷ ws) h)) ∙ attributes_read (w ∷ ws) h

stars_found : (w : WrittenAttribute) (ws : List WrittenAttribute) → AreWritten (w ∷ ws)
    → stars_of (join_with_byte 44 (map written_attribute (w ∷ ws))) ≡ map (λ w. w.star) (w ∷ ws)
stars_found w ws h =
    ap (map is_starred)
    (parts_join 44 (written_attribute w) (map written_attribute ws)
    (attributes_whole (w ∷ ws) h)) ∙ stars_read (w ∷ ws) h

data_found : (w : WrittenDatum) (ws : List WrittenDatum) → AreWrittenData (w ∷ ws)
    → data_of (Some (join_with_byte 44 (map written_datum (w ∷ ws))))
    ≡ Some (map (λ w. w.datum) (w ∷ ws))
data_found w ws h =
    ap (read_all datum_of)
    (parts_join 44 (written_datum w) (map written_datum ws) (data_whole (w ∷ ws) h))
    ∙ data_read (w ∷ ws) h

outline_found : (name : List ℕ) (number : ℕ) (w : WrittenAttribute) (ws : List WrittenAttribute)
    (ds : List WrittenDatum) → AreWritten (w ∷ ws)
    → AreWrittenData ds
    → outline_of name number (written (w ∷ ws) ds)
    ≡ outline_with name number (map (λ w. w.star) (w ∷ ws)) (Some (map (λ w. w.attribute) (w ∷ ws)))
    (Some (map (λ w. w.datum) ds))
outline_found name number w ws [] h d =
    let text = join_with_byte 44 (map written_attribute (w ∷ ws)) in
    ap (outline_of name number) (append-nil text)
    ∙ sym (outline_uncut name number text (uncut_whole 59 text (joined_whole w ws h)))
    ∙ ap (λ s. outline_with name number s (attributes_of text) (Some [])) (stars_found w ws h)
    ∙ ap (λ o. outline_with name number (map (λ w. w.star) (w ∷ ws)) o (Some []))
    (attributes_found w ws h)
outline_found name number w ws (v ∷ ds) h d =
    let text = join_with_byte 44 (map written_attribute (w ∷ ws)) in
    let rest = join_with_byte 44 (map written_datum (v ∷ ds)) in
    sym (outline_cut name number (text ++ 59 ∷ rest) text rest
    (cut_whole 59 text rest (joined_whole w ws h)))
    ∙ ap (λ s. outline_with name number s (attributes_of text) (data_of (Some rest)))
    (stars_found w ws h)
    ∙ ap (λ o. outline_with name number (map (λ w. w.star) (w ∷ ws)) o (data_of (Some rest)))
    (attributes_found w ws h)
    ∙ ap (λ o. outline_with name number (map (λ w. w.star) (w ∷ ws))
    (Some (map (λ w. w.attribute) (w ∷ ws))) o) (data_found v ds d)

consistent_valid : (t : Specification) → IsValid t → is_consistent t ≡ true
consistent_valid t v =
    and_from (are_distinct (names_of t))
    (are_distinct (datum_keys t.data) && has_settings t) v.names
    (and_from (are_distinct (datum_keys t.data)) (has_settings t) v.keys v.settings)

-- what is written, put together
put_together : (t : Specification) (stars : List Bool) → stars_fit stars t.attributes ≡ true
    → t.geometry ≡ geometry_place stars t.attributes → IsValid t
    → consistent_only (outline_with t.name t.number stars (Some t.attributes) (Some t.data))
    ≡ Some t
put_together t stars fit geometry v =
    ap (λ b. consistent_only
    (specification_if b (specification_from t.name t.number stars t.attributes t.data))) fit
    ∙ ap (λ g. consistent_only
    (Some (let q : Specification =
    record {
      name = t.name;
      number = t.number;
      attributes = t.attributes;
      «data» = t.data;
      geometry = g;
    } in q)))
    (sym geometry)
    ∙ ap (λ b. specification_if b t) (consistent_valid t v)

pub spelled_is_read : (text : List ℕ) (t : Specification) → Spells text t
    → specification_of t.name t.number text ≡ Some t
spelled_is_read text t s =
    go s.attributes s.given s.text_is s.attributes_are s.data_are s.blanks s.quotes
    s.stars s.geometry
  where
    none : (attributes : List Attribute) → 0 < length attributes → attributes ≡ [] → ⊥
    none attributes some e = absurd (omega (arith, some, ap length e))

    go : (ws : List WrittenAttribute) (ds : List WrittenDatum) → text ≡ written ws ds
        → t.attributes ≡ map (λ w. w.attribute) ws
        → t.data ≡ map (λ w. w.datum) ds → list_all has_blanks ws ≡ true
        → list_all may_be_written ds ≡ true
        → stars_fit (map (λ w. w.star) ws) t.attributes ≡ true
        → t.geometry ≡ geometry_place (map (λ w. w.star) ws) t.attributes
        → specification_of t.name t.number text ≡ Some t
    go [] ds e attributes given blanks quotes stars geometry =
        absurd (none t.attributes s.valid.some attributes)
    go (w ∷ ws) ds e attributes given blanks quotes stars geometry =
        let are = are_written (w ∷ ws) blanks
        (subst (λ (l : List Attribute). list_all is_attribute l ≡ true) attributes
        s.valid.attributes) in
        let data_are =
        are_written_data ds quotes
        (subst (λ (l : List Datum). list_all is_datum l ≡ true) given s.valid.data) in
        ap (specification_of t.name t.number) e
        ∙ ap consistent_only (outline_found t.name t.number w ws ds are data_are)
        ∙ ap (λ l. consistent_only
        (outline_with t.name t.number (map (λ w. w.star) (w ∷ ws)) (Some l)
        (Some (map (λ w. w.datum) ds)))) (sym attributes)
        ∙ ap (λ l. consistent_only
        (outline_with t.name t.number (map (λ w. w.star) (w ∷ ws)) (Some t.attributes) (Some l)))
        (sym given)
        ∙ put_together t (map (λ w. w.star) (w ∷ ws)) stars geometry s.valid

-- a text spells one specification of a name and a number
pub one_spelled : (text : List ℕ) (t u : Specification) → Spells text t → Spells text u
    → t.name ≡ u.name → t.number ≡ u.number → t ≡ u
one_spelled text t u a b name number =
    same_some t u (sym (spelled_is_read text t a) ∙ ap (λ n. specification_of n t.number text) name
    ∙ ap (λ n. specification_of u.name n text) number
    ∙ spelled_is_read text u b)
