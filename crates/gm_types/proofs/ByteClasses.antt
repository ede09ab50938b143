-- The bytes that specifications are spelled with.
use Rattle.std.proofs.Common.{◌≡◌, ℕ, Bool, true, false, ◌&&◌, ◌||◌, ◌==◌, List, [], ◌∷◌, ◌++◌}
use Rattle.std.proofs.Common.{length, refl, sym, ◌∙◌, ap}
use Rattle.std.specs.Prelude.{not, nat_le}
use Rattle.std.specs.List.{list_all}
use Rattle.std.specs.Str.{is_utf8}
use Rattle.std.proofs.lemmas.Bool.{and_parts, and_from, or_left, or_from, eqb-true, false≢true}
use Rattle.std.proofs.lemmas.Bool.{not_from_false, not-true}
use Rattle.std.proofs.lemmas.List.Folds.{list_all-append}
use Rattle.gm_types.specs.declared.attribute.Attribute.{Attribute}
use Rattle.gm_types.specs.declared.attribute.AttributeOption.{AttributeOption}
use Rattle.gm_types.specs.declared.kind.GeoKind.TheVariants as shape
use Rattle.gm_types.specs.declared.kind.Kind.{Kind}
use Rattle.gm_types.specs.declared.kind.Kind.TheVariants.{Text, Integer, Long, Boolean, Date, Geo}
use Rattle.gm_types.specs.Attribute.{is_option, is_described, is_indexed, is_high, may_have}
use Rattle.gm_types.specs.Attribute.{option_keys}
use Rattle.gm_types.specs.FeatureType.{is_attribute, same_bool}
use Rattle.gm_types.specs.Kind.{kind_name}
use Rattle.gm_types.specs.Spelling.{pair_text, options_text, attribute_text, star_text}
use Rattle.gm_types.specs.Spelling.{starred_text}
use Rattle.gm_types.specs.Words.{continues_name, is_name, is_key, is_key_byte, is_bare}
use Rattle.gm_base.specs.Ascii.{is_blank}
use Rattle.gm_types.specs.Words.{is_bare_byte, is_bare_form, is_mark, are_distinct}
use Rattle.gm_types.proofs.Scan.{is_plain, IsTight}
use Rattle.gm_types.proofs.Texts.{name_bytes}

-- a byte that passes is not one that does not
pub apart : (test : ℕ → Bool) (m b : ℕ) → test m ≡ false → test b ≡ true → (b == m) ≡ false
apart test m b low h = go (b == m) refl
  where
    go : (t : Bool) → (b == m) ≡ t → t ≡ false
    go true e = absurd (false≢true (sym low ∙ ap test (sym (eqb-true b m e)) ∙ h))
    go false e = refl

pub plain_byte : (test : ℕ → Bool) (m b : ℕ) → test m ≡ false → test 39 ≡ false → test b ≡ true
    → is_plain m b ≡ true
plain_byte test m b low quote h =
    and_from (not (b == m)) (not (b == 39)) (not_from_false (b == m) (apart test m b low h))
    (not_from_false (b == 39) (apart test 39 b quote h))

pub all_plain : (test : ℕ → Bool) (m : ℕ) → test m ≡ false → test 39 ≡ false → (bytes : List ℕ)
    → list_all test bytes ≡ true → list_all (is_plain m) bytes ≡ true
all_plain test m low quote [] h = refl
all_plain test m low quote (b ∷ bytes) h =
    let parts = and_parts (test b) (list_all test bytes) h in
    and_from (is_plain m b) (list_all (is_plain m) bytes) (plain_byte test m b low quote parts.0)
    (all_plain test m low quote bytes parts.1)

pub no_blank : (test : ℕ → Bool) → test 32 ≡ false → test 9 ≡ false → (b : ℕ) → test b ≡ true
    → is_blank b ≡ false
no_blank test space tab b h =
    or_from (b == 32) (b == 9) (apart test 32 b space h) (apart test 9 b tab h)

pub all_more : (test more : ℕ → Bool) → ((b : ℕ) → test b ≡ true → more b ≡ true) → (bytes : List ℕ)
    → list_all test bytes ≡ true → list_all more bytes ≡ true
all_more test more each [] h = refl
all_more test more each (b ∷ bytes) h =
    let parts = and_parts (test b) (list_all test bytes) h in
    and_from (more b) (list_all more bytes) (each b parts.0) (all_more test more each bytes parts.1)

pub all_append : (test : ℕ → Bool) (xs ys : List ℕ) → list_all test xs ≡ true
    → list_all test ys ≡ true → list_all test (xs ++ ys) ≡ true
all_append test xs ys x y =
    list_all-append test xs ys ∙ and_from (list_all test xs) (list_all test ys) x y

-- names and kinds are of the bytes of keys, and these are of those of bare values
name_key : (b : ℕ) → continues_name b ≡ true → is_key_byte b ≡ true
name_key b h =
    or_left (continues_name b || b == 46) (b == 45) (or_left (continues_name b) (b == 46) h)

pub key_bare : (b : ℕ) → is_key_byte b ≡ true → is_bare_byte b ≡ true
key_bare b h =
    and_from (not (is_mark b)) (not (is_blank b))
    (not_from_false (is_mark b)
    (or_from (b == 44 || b == 59 || b == 58 || b == 61) (b == 39)
    (or_from (b == 44 || b == 59 || b == 58) (b == 61)
    (or_from (b == 44 || b == 59) (b == 58)
    (or_from (b == 44) (b == 59) (apart is_key_byte 44 b refl h) (apart is_key_byte 59 b refl h))
    (apart is_key_byte 58 b refl h))
    (apart is_key_byte 61 b refl h))
    (apart is_key_byte 39 b refl h)))
    (not_from_false (is_blank b) (no_blank is_key_byte refl refl b h))

pub name_keys : (bytes : List ℕ) → is_name bytes ≡ true → list_all is_key_byte bytes ≡ true
unfolding is_name
name_keys bytes h = all_more continues_name is_key_byte name_key bytes (name_bytes bytes h)

pub kind_keys : (kind : Kind) → list_all is_key_byte (kind_name kind) ≡ true
kind_keys Text = refl
kind_keys Integer = refl
kind_keys Long = refl
kind_keys Boolean = refl
kind_keys Date = refl
kind_keys (Geo shape.Point) = refl
kind_keys (Geo shape.LineString) = refl
kind_keys (Geo shape.Polygon) = refl
kind_keys (Geo shape.MultiPoint) = refl
kind_keys (Geo shape.MultiLineString) = refl
kind_keys (Geo shape.MultiPolygon) = refl
kind_keys (Geo shape.Any) = refl

pub key_keys : (bytes : List ℕ) → is_key bytes ≡ true → list_all is_key_byte bytes ≡ true
unfolding is_key
key_keys bytes h = (and_parts (nat_le 1 (length bytes)) (list_all is_key_byte bytes) h).1

pub bare_bares : (bytes : List ℕ) → is_bare bytes ≡ true → list_all is_bare_byte bytes ≡ true
unfolding is_bare
bare_bares bytes h =
    (and_parts (nat_le 1 (length bytes)) (list_all is_bare_byte bytes)
    (and_parts (is_bare_form bytes) (is_utf8 bytes) h).0).1

-- an option's parts
pub record IsPair (option : AttributeOption) : Type 0 where
  pub key : is_key option.key ≡ true
  pub value : is_bare option.value ≡ true

pub pair_of : (kind : Kind) (option : AttributeOption) → is_option kind option ≡ true
    → IsPair option
pair_of kind option h =
    let parts = and_parts (may_have kind option.key option.value)
    (is_key option.key && is_bare option.value) h in
    let two = and_parts (is_key option.key) (is_bare option.value) parts.1 in
    record { key = two.0; value = two.1 }

-- the bytes of attributes: those of bare values, colons and `=`
abbrev pub is_attribute_byte : ℕ → Bool
is_attribute_byte b = is_bare_byte b || (b == 58 || b == 61)

bare_attribute : (b : ℕ) → is_bare_byte b ≡ true → is_attribute_byte b ≡ true
bare_attribute b h = or_left (is_bare_byte b) (b == 58 || b == 61) h

key_attribute : (b : ℕ) → is_key_byte b ≡ true → is_attribute_byte b ≡ true
key_attribute b h = bare_attribute b (key_bare b h)

pair_bytes : (option : AttributeOption) → IsPair option
    → list_all is_attribute_byte (pair_text option) ≡ true
pair_bytes option h =
    all_append is_attribute_byte option.key (61 ∷ option.value)
    (all_more is_key_byte is_attribute_byte key_attribute option.key (key_keys option.key h.key))
    (all_more is_bare_byte is_attribute_byte bare_attribute option.value
    (bare_bares option.value h.value))

options_bytes : (kind : Kind) (options : List AttributeOption)
    → list_all (is_option kind) options ≡ true
    → list_all is_attribute_byte (options_text options) ≡ true
options_bytes kind [] h = refl
options_bytes kind (option ∷ options) h =
    let parts = and_parts (is_option kind option) (list_all (is_option kind) options) h in
    all_append is_attribute_byte (58 ∷ pair_text option) (options_text options)
    (pair_bytes option (pair_of kind option parts.0))
    (options_bytes kind options parts.1)

-- what an attribute is made of
pub record IsMade (a : Attribute) : Type 0 where
  pub name : is_name a.name ≡ true
  pub options : list_all (is_option a.kind) a.options ≡ true
  pub keys : are_distinct (option_keys a.options) ≡ true
  pub indexed : a.indexed ≡ is_indexed a.kind a.options
  pub high : a.high ≡ is_high a.options

same_from : (a b : Bool) → same_bool a b ≡ true → a ≡ b
same_from true b h = sym h
same_from false b h = sym (not-true b h)

pub made : (a : Attribute) → is_attribute a ≡ true → IsMade a
made a h =
    let parts = and_parts (is_described a.name a.kind a.options)
    (same_bool a.indexed (is_indexed a.kind a.options) && same_bool a.high (is_high a.options)) h in
    let told = and_parts (same_bool a.indexed (is_indexed a.kind a.options))
    (same_bool a.high (is_high a.options)) parts.1 in
    let named = and_parts (is_name a.name)
    (list_all (is_option a.kind) a.options && are_distinct (option_keys a.options)) parts.0 in
    let listed = and_parts (list_all (is_option a.kind) a.options)
    (are_distinct (option_keys a.options)) named.1 in
    record {
      name = named.0;
      options = listed.0;
      keys = listed.1;
      indexed = same_from a.indexed (is_indexed a.kind a.options) told.0;
      high = same_from a.high (is_high a.options) told.1;
    }

star_bytes : (star : Bool) → list_all is_attribute_byte (star_text star) ≡ true
star_bytes true = refl
star_bytes false = refl

pub starred_bytes : (star : Bool) (a : Attribute) → IsMade a
    → list_all is_attribute_byte (starred_text star a) ≡ true
starred_bytes star a m =
    all_append is_attribute_byte (star_text star) (attribute_text a) (star_bytes star)
    (all_append is_attribute_byte a.name ((58 ∷ kind_name a.kind) ++ options_text a.options)
    (all_more is_key_byte is_attribute_byte key_attribute a.name (name_keys a.name m.name))
    (all_append is_attribute_byte (58 ∷ kind_name a.kind) (options_text a.options)
    (all_more is_key_byte is_attribute_byte key_attribute (kind_name a.kind) (kind_keys a.kind))
    (options_bytes a.kind a.options m.options)))

-- the last of some bytes
pub record HasLast (test : ℕ → Bool) (bytes : List ℕ) : Type 0 where
  pub front : List ℕ
  pub last : ℕ
  pub is : bytes ≡ front ++ last ∷ []
  pub passes : test last ≡ true

pub last_of : (test : ℕ → Bool) (b : ℕ) (bytes : List ℕ) → list_all test (b ∷ bytes) ≡ true
    → HasLast test (b ∷ bytes)
last_of test b [] h =
    record { front = []; last = b; is = refl; passes = (and_parts (test b) true h).0 }
last_of test b (c ∷ bytes) h =
    let rest = last_of test c bytes (and_parts (test b) (list_all test (c ∷ bytes)) h).1 in
    record {
      front = b ∷ rest.front;
      last = rest.last;
      is = ap (λ t. b ∷ t) rest.is;
      passes = rest.passes;
    }

-- some bytes that are no blanks
pub tight_all : (test : ℕ → Bool) → test 32 ≡ false → test 9 ≡ false → (b : ℕ) (bytes : List ℕ)
    → list_all test (b ∷ bytes) ≡ true → IsTight (b ∷ bytes)
tight_all test space tab b bytes h =
    let last = last_of test b bytes h in
    record {
      first = b;
      rest = bytes;
      front = last.front;
      last = last.last;
      begins = refl;
      ends = last.is;
      first_kept = no_blank test space tab b (and_parts (test b) (list_all test bytes) h).0;
      last_kept = no_blank test space tab last.last last.passes;
    }
