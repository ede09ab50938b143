-- Whose a key is.
use Rattle.std.proofs.Common.{◌≡◌, ◌<◌, ℕ, zero, suc, ◌^◌, ℤ, pos, negsuc, Bool, true, true≢false}
use Rattle.std.proofs.Common.{T, List, [], ◌∷◌, ◌++◌, append_assoc, length, drop, get_or}
use Rattle.std.proofs.Common.{FitsSigned, Option, Some, None, option_map, refl}
use Rattle.std.proofs.Common.{sym, ap, subst, ◌∙◌, arith}
use Rattle.std.specs.Prelude.{slice_get}
use Rattle.std.specs.List.{AllByRecursion, list_all}
use Rattle.std.proofs.Math.Seq.{drop-append_seam}
use Rattle.std.proofs.lemmas.Grind.{common_steps}
use Rattle.std.proofs.lemmas.List.{length-map}
use Rattle.std.proofs.lemmas.List.Elements.{All-from_recursion}
use Rattle.std.proofs.lemmas.Str.{IsUtf8-from_is_utf8}
use Rattle.std.specs.Int.{w32, w64}
use lib.Signed.{mag}
use Rattle.byteorder.specs.Endian.{big_bytes}
use Rattle.std.proofs.lemmas.Bool.{and_parts}
use Rattle.gm_base.proofs.Lists.{within_list}
use Rattle.gm_base.proofs.Options.{then_some}
use Rattle.gm_calendar.specs.Instant.{IsInstant, is_instant}
use Rattle.gm_types.specs.declared.index.IndexKind.{IndexKind}
use Rattle.gm_types.specs.declared.index.IndexKind.TheVariants.{Id, Z2, Z3, Xz2, Xz3, Attr}
use Rattle.gm_types.specs.declared.attribute.Attribute.{Attribute}
use Rattle.gm_types.specs.declared.kind.GeoKind.{GeoKind}
use Rattle.gm_types.specs.declared.kind.Kind.{Kind}
use Rattle.gm_types.specs.declared.kind.Kind.TheVariants as kind
use Rattle.gm_types.specs.FeatureType.{IsType}
use Rattle.gm_types.specs.Index.{has_index, is_indexed_one}
use Rattle.gm_types.specs.Specification.{Specification, kinds_of, kind_at, period_of, z2_bits_of}
use Rattle.gm_types.specs.Specification.{z3_bits_of, precision_of}
use Rattle.gm_feature.specs.declared.feature.Feature.{Feature}
use Rattle.gm_feature.specs.declared.value.Value.{Value}
use Rattle.gm_feature.specs.declared.value.Value.TheVariants as value
use Rattle.gm_feature.specs.Feature.{Fits, values_fit, value_at}
use Rattle.gm_feature.specs.Value.{value_fits, is_no_zero, is_below}
use Rattle.gm_lexi.specs.Lexicode.{int_bytes, long_bytes, date_bytes, bool_bytes, text_bytes}
use Rattle.gm_lexi.specs.Lexicode.{HasNoZero}
use Rattle.gm_keys.specs.Key.{index_number, attribute_number, prefix_of, shard_of, code_front}
use Rattle.gm_keys.specs.Key.{bin_code_front, form_of, front_of, key_of}
use Rattle.gm_keys.specs.Cell.{z2_code, z3_code, xz2_code, xz3_code}
use Rattle.gm_keys.specs.Whereabouts.{point_in, box_in, bin_in}
use Rattle.gm_keys.specs.Layout.{IsForm, IsMiddle, IsLaidOut}

-- what is known of the forms: none is a front of another of its kind
pub record Forms : Type 0 where
  pub ints : (a b : ℤ) (s t : List ℕ) → FitsSigned w32 a → FitsSigned w32 b
      → int_bytes a ++ s ≡ int_bytes b ++ t → (a ≡ b) × (s ≡ t)
  pub longs : (a b : ℤ) (s t : List ℕ) → FitsSigned w64 a → FitsSigned w64 b
      → long_bytes a ++ s ≡ long_bytes b ++ t → (a ≡ b) × (s ≡ t)
  pub dates : (a b : ℤ) (s t : List ℕ) → IsInstant a → IsInstant b
      → date_bytes a ++ s ≡ date_bytes b ++ t → (a ≡ b) × (s ≡ t)
  pub truths : (a b : Bool) (s t : List ℕ) → bool_bytes a ++ s ≡ bool_bytes b ++ t
      → (a ≡ b) × (s ≡ t)
  pub texts : (a b s t : List ℕ) → HasNoZero a → HasNoZero b → text_bytes a ++ s ≡ text_bytes b ++ t
      → (a ≡ b) × (s ≡ t)

-- and of numbers
abbrev pub Numbers : Type 0
Numbers = (width a b : ℕ) (s t : List ℕ) → a < 256 ^ width → b < 256 ^ width
    → big_bytes width a ++ s ≡ big_bytes width b ++ t → (a ≡ b) × (s ≡ t)

-- ---- what follows a middle
as_one : (m m' n n' s r : List ℕ) → m ≡ m' → n ≡ n' → m ++ s ≡ n ++ r → m' ++ s ≡ n' ++ r
as_one m m' n n' s r is is' same = ap (λ x. x ++ s) (sym is) ∙ same ∙ ap (λ x. x ++ r) is'

after_form : Forms → (k : Option Kind) (m n s r : List ℕ) → IsForm k m → IsForm k n
    → m ++ s ≡ n ++ r → s ≡ r
after_form forms (Some kind.Text) m n s r is is' same =
    (forms.texts is.0 is'.0 s r is.1.no_zero is'.1.no_zero
    (as_one m (text_bytes is.0) n (text_bytes is'.0) s r is.2 is'.2 same)).1
after_form forms (Some kind.Integer) m n s r is is' same =
    (forms.ints is.0 is'.0 s r is.1 is'.1
    (as_one m (int_bytes is.0) n (int_bytes is'.0) s r is.2 is'.2 same)).1
after_form forms (Some kind.Long) m n s r is is' same =
    (forms.longs is.0 is'.0 s r is.1 is'.1
    (as_one m (long_bytes is.0) n (long_bytes is'.0) s r is.2 is'.2 same)).1
after_form forms (Some kind.Boolean) m n s r is is' same =
    (forms.truths is.0 is'.0 s r
    (as_one m (bool_bytes is.0) n (bool_bytes is'.0) s r is.1 is'.1 same)).1
after_form forms (Some kind.Date) m n s r is is' same =
    (forms.dates is.0 is'.0 s r is.1 is'.1
    (as_one m (date_bytes is.0) n (date_bytes is'.0) s r is.2 is'.2 same)).1
after_form forms (Some (kind.Geo shape)) m n s r is is' same = absurd is
after_form forms None m n s r is is' same = absurd is

after_length : (m n s r : List ℕ) (k : ℕ) → length m ≡ k → length n ≡ k → m ++ s ≡ n ++ r → s ≡ r
after_length m n s r k is is' same =
    sym (drop-append_seam m s) ∙ ap (drop (length m)) same
    ∙ ap (λ (j : ℕ). drop j (n ++ r)) (is ∙ sym is') ∙ drop-append_seam n r

after_middle : Forms → (t : Specification) (k : IndexKind) (m n s r : List ℕ) → IsMiddle t k m
    → IsMiddle t k n → m ++ s ≡ n ++ r → s ≡ r
after_middle forms t Id m n s r is is' same = as_one m [] n [] s r is is' same
after_middle forms t Z2 m n s r is is' same = after_length m n s r 9 is is' same
after_middle forms t Z3 m n s r is is' same = after_length m n s r 11 is is' same
after_middle forms t Xz2 m n s r is is' same = after_length m n s r 9 is is' same
after_middle forms t Xz3 m n s r is is' same = after_length m n s r 11 is is' same
after_middle forms t (Attr number) m n s r is is' same =
    after_form forms (kind_at t number) m n s r is is' same

-- ---- prefixes
abbrev IsSmall : IndexKind → Type 0
IsSmall (Attr number) = number < 256 ^ 2
IsSmall _ = Unit {0}

same_kind : Numbers → (j k : IndexKind) (x y : List ℕ) → IsSmall j → IsSmall k
    → index_number j ≡ index_number k → attribute_number j ++ x ≡ attribute_number k ++ y
    → (j ≡ k) × (x ≡ y)
same_kind numbers Id Id x y small small' is same = (refl, same)
same_kind numbers Z2 Z2 x y small small' is same = (refl, same)
same_kind numbers Z3 Z3 x y small small' is same = (refl, same)
same_kind numbers Xz2 Xz2 x y small small' is same = (refl, same)
same_kind numbers Xz3 Xz3 x y small small' is same = (refl, same)
same_kind numbers (Attr a) (Attr b) x y small small' is same = let parts =
    numbers 2 a b x y small small' same in (ap (λ (n : ℕ). Attr n) parts.0, parts.1)
same_kind numbers _ _ x y small small' is same = absurd (omega (arith, is))

pub same_prefix : Numbers → (s t : Specification) (j k : IndexKind) (x y : List ℕ)
    → s.number < 256 ^ 2 → t.number < 256 ^ 2 → IsSmall j → IsSmall k
    → prefix_of s j ++ x ≡ prefix_of t k ++ y → (s.number ≡ t.number) × (j ≡ k) × (x ≡ y)
unfolding prefix_of
same_prefix numbers s t j k x y fits fits' small small' same =
    let parts = numbers 2 s.number t.number ((index_number j ∷ attribute_number j) ++ x)
    ((index_number k ∷ attribute_number k) ++ y) fits fits'
    (sym (append_assoc (big_bytes 2 s.number) (index_number j ∷ attribute_number j) x) ∙ same
    ∙ append_assoc (big_bytes 2 t.number) (index_number k ∷ attribute_number k) y) in
    let behind : index_number j ∷ (attribute_number j ++ x)
    ≡ index_number k ∷ (attribute_number k ++ y) = parts.1 in
    let index : index_number j ≡ index_number k = cc in
    let rest : attribute_number j ++ x ≡ attribute_number k ++ y = cc in
    let kinds = same_kind numbers j k x y small small' index rest in
    (parts.0, kinds.0, kinds.1)

-- ---- what a feature has in a key
map_some : {A B : Type 0} (g : A → B) (o : Option A) (y : B) → option_map g o ≡ Some y
    → (x : A) × (o ≡ Some x) × (y ≡ g x)
map_some g None y is = cc
map_some {A = A} {B = B} g (Some x) y is = let same : y ≡ g x = cc in (x, refl, same)

some_bytes : (text : List ℕ) → list_all is_no_zero text ≡ true
    → AllByRecursion (λ byte. 0 < byte) text
some_bytes [] all = tt
some_bytes (zero ∷ text) all = cc
some_bytes (suc b ∷ text) all = (omega arith, some_bytes text (and_parts _ _ all).1)

int_fits : (w : ℕ) (z : ℤ) → is_below w z ≡ true → mag z < w
int_fits w (pos n) is = grind (arith, common_steps)
int_fits w (negsuc n) is = grind (arith, common_steps)

instant_is : (at : ℤ) → is_instant at ≡ true → IsInstant at
instant_is at is = let both = and_parts _ _ is in
    (record { le = subst T (sym both.0) tt }, record { le = subst T (sym both.1) tt })

same_list : (a b : List ℕ) → ◌≡◌ {A = Option (List ℕ)} (Some a) (Some b) → b ≡ a
same_list a b same = cc

geometry_form : (shape : GeoKind) (v : Value) (form : List ℕ) → value_fits (kind.Geo shape) v ≡ true
    → form_of v ≡ Some form → ⊥
geometry_form shape value.Null form fit is = cc
geometry_form shape (value.Geo g) form fit is = cc
geometry_form shape _ form fit is = cc

one_form : (k : Kind) (v : Value) (form : List ℕ) → value_fits k v ≡ true → form_of v ≡ Some form
    → IsForm (Some k) form
one_form kind.Text (value.Text text) form fit is =
    let sound = and_parts _ _ fit in (
      text,
      record {
        utf8 = IsUtf8-from_is_utf8 text sound.0;
        no_zero = All-from_recursion (λ byte. 0 < byte) text
            (some_bytes text (and_parts _ _ sound.1).1);
      },
      same_list (text_bytes text) form is,
    )
one_form kind.Integer (value.Integer z) form fit is =
    (z, record { sfits = int_fits (2 ^ 31) z fit }, same_list (int_bytes z) form is)
one_form kind.Long (value.Long z) form fit is =
    (z, record { sfits = int_fits (2 ^ 63) z fit }, same_list (long_bytes z) form is)
one_form kind.Boolean (value.Boolean b) form fit is = (b, same_list (bool_bytes b) form is)
one_form kind.Date (value.Date at) form fit is =
    (at, instant_is at fit, same_list (date_bytes at) form is)
one_form (kind.Geo shape) v form fit is = absurd (geometry_form shape v form fit is)
one_form _ _ form fit is = cc

form_fits : (kinds : List Kind) (values : List Value) (n : ℕ) (form : List ℕ)
    → values_fit kinds values ≡ true → form_of (get_or values n value.Null) ≡ Some form
    → IsForm (slice_get kinds n) form
form_fits kinds [] n form fit is = cc
form_fits [] (v ∷ values) n form fit is = cc
form_fits (k ∷ kinds) (v ∷ values) zero form fit is = one_form k v form (and_parts _ _ fit).0 is
form_fits (k ∷ kinds) (v ∷ values) (suc n) form fit is =
    form_fits kinds values n form (and_parts _ _ fit).1 is

code_parts : (t : Specification) (k : IndexKind) (id front key : List ℕ) (shard code : ℕ)
    → front ≡ code_front (prefix_of t k) shard code → key ≡ front ++ id
    → key ≡ prefix_of t k ++ ((shard ∷ big_bytes 8 code) ++ id)
unfolding code_front
code_parts t k id front key shard code is at =
    at ∙ ap (λ x. x ++ id) is ∙ append_assoc (prefix_of t k) (shard ∷ big_bytes 8 code) id

bin_parts : (t : Specification) (k : IndexKind) (id front key : List ℕ) (shard bin code : ℕ)
    → front ≡ bin_code_front (prefix_of t k) shard bin code → key ≡ front ++ id
    → key ≡ prefix_of t k ++ ((shard ∷ (big_bytes 2 bin ++ big_bytes 8 code)) ++ id)
unfolding bin_code_front
bin_parts t k id front key shard bin code is at =
    at ∙ ap (λ x. x ++ id) is
    ∙ append_assoc (prefix_of t k) (shard ∷ (big_bytes 2 bin ++ big_bytes 8 code)) id

pub laid_out : (t : Specification) (k : IndexKind) (f : Feature) (key : List ℕ) → Fits t f
    → key_of t k f ≡ Some key → (middle : List ℕ) × IsLaidOut t k key middle f.id
unfolding front_of
laid_out t Id f key fits at = (
  [],
  record {
    parts = same_list (prefix_of t Id ++ f.id) key at;
    middle_is = refl;
    identifier = fits.identifier;
  },
)
laid_out t Z2 f key fits at =
    let whole = map_some (λ front. front ++ f.id) (front_of t Z2 f) key at in
    let point = map_some
    (λ p. code_front (prefix_of t Z2) (shard_of t f.id) (z2_code (z2_bits_of t) p))
    (point_in t f) whole.0 whole.1 in (
      shard_of t f.id ∷ big_bytes 8 (z2_code (z2_bits_of t) point.0),
      record {
        parts =
            code_parts t Z2 f.id whole.0 key (shard_of t f.id) (z2_code (z2_bits_of t) point.0)
            point.2 whole.2;
        middle_is = refl {a = 9};
        identifier = fits.identifier;
      },
    )
laid_out t Z3 f key fits at =
    let whole = map_some (λ front. front ++ f.id) (front_of t Z3 f) key at in
    let point = then_some
    (λ p. option_map
    (λ bin. bin_code_front (prefix_of t Z3) (shard_of t f.id) bin.number
    (z3_code (period_of t) (z3_bits_of t) p bin.offset)) (bin_in t f)) (point_in t f)
    whole.0 whole.1 in
    let bin = map_some
    (λ bin. bin_code_front (prefix_of t Z3) (shard_of t f.id) bin.number
    (z3_code (period_of t) (z3_bits_of t) point.0 bin.offset)) (bin_in t f)
    whole.0 point.2 in
    let code = z3_code (period_of t) (z3_bits_of t) point.0 bin.0.offset in (
      shard_of t f.id ∷ (big_bytes 2 bin.0.number ++ big_bytes 8 code),
      record {
        parts =
            bin_parts t Z3 f.id whole.0 key (shard_of t f.id) bin.0.number code bin.2 whole.2;
        middle_is = refl {a = 11};
        identifier = fits.identifier;
      },
    )
laid_out t Xz2 f key fits at =
    let whole = map_some (λ front. front ++ f.id) (front_of t Xz2 f) key at in
    let extent = map_some
    (λ b. code_front (prefix_of t Xz2) (shard_of t f.id) (xz2_code (precision_of t) b))
    (box_in t f) whole.0 whole.1 in (
      shard_of t f.id ∷ big_bytes 8 (xz2_code (precision_of t) extent.0),
      record {
        parts =
            code_parts t Xz2 f.id whole.0 key (shard_of t f.id) (xz2_code (precision_of t) extent.0)
            extent.2 whole.2;
        middle_is = refl {a = 9};
        identifier = fits.identifier;
      },
    )
laid_out t Xz3 f key fits at =
    let whole = map_some (λ front. front ++ f.id) (front_of t Xz3 f) key at in
    let extent = then_some
    (λ b. option_map
    (λ bin. bin_code_front (prefix_of t Xz3) (shard_of t f.id) bin.number
    (xz3_code (period_of t) (precision_of t) b bin.offset)) (bin_in t f)) (box_in t f)
    whole.0 whole.1 in
    let bin = map_some
    (λ bin. bin_code_front (prefix_of t Xz3) (shard_of t f.id) bin.number
    (xz3_code (period_of t) (precision_of t) extent.0 bin.offset)) (bin_in t f)
    whole.0 extent.2 in
    let code = xz3_code (period_of t) (precision_of t) extent.0 bin.0.offset in (
      shard_of t f.id ∷ (big_bytes 2 bin.0.number ++ big_bytes 8 code),
      record {
        parts =
            bin_parts t Xz3 f.id whole.0 key (shard_of t f.id) bin.0.number code bin.2 whole.2;
        middle_is = refl {a = 11};
        identifier = fits.identifier;
      },
    )
laid_out t (Attr n) f key fits at =
    let whole = map_some (λ front. front ++ f.id) (front_of t (Attr n) f) key at in
    let form = map_some (λ form. prefix_of t (Attr n) ++ form) (form_of (value_at f n))
    whole.0 whole.1 in (
      form.0,
      record {
        parts = whole.2 ∙ ap (λ x. x ++ f.id) form.2
            ∙ append_assoc (prefix_of t (Attr n)) form.0 f.id;
        middle_is = form_fits (kinds_of t) f.values n form.0 fits.each form.1;
        identifier = fits.identifier;
      },
    )

-- the attribute of an index of which a feature has a key is one of the type
small_of_form : (k : Option Kind) (form : List ℕ) → IsForm k form → k ≡ None → ⊥
small_of_form None form is none = absurd is
small_of_form (Some k) form is none = cc

within_kinds : (kinds : List Kind) (n : ℕ) → (slice_get kinds n ≡ None → ⊥) → n < length kinds
within_kinds [] n some = absurd (some refl)
within_kinds (k ∷ kinds) zero some = omega arith
within_kinds (k ∷ kinds) (suc n) some = let rest = within_kinds kinds n some in omega arith

small_kind : (t : Specification) (k : IndexKind) (middle : List ℕ) → IsType t
    → IsMiddle t k middle → IsSmall k
small_kind t (Attr n) middle typed is =
    let within = within_kinds (kinds_of t) n (small_of_form (kind_at t n) middle is) in
    omega (arith, within, typed.few, length-map t.attributes (λ (a : Attribute). a.kind))
small_kind t _ middle typed is = tt

pub apart : Forms → Numbers → (s t : Specification) (j k : IndexKind) (f g : Feature) (key : List ℕ)
    → IsType s → IsType t → Fits s f → Fits t g
    → key_of s j f ≡ Some key → key_of t k g ≡ Some key
    → (s.number ≡ t.number) × (j ≡ k) × (s ≡ t → f.id ≡ g.id)
apart forms numbers s t j k f g key typed typed' fits fits' at at' =
    let one = laid_out s j f key fits at in
    let other = laid_out t k g key fits' at' in
    let parts = same_prefix numbers s t j k (one.0 ++ f.id) (other.0 ++ g.id) typed.numbered
    typed'.numbered
    (small_kind s j one.0 typed one.1.middle_is) (small_kind t k other.0 typed' other.1.middle_is)
    (sym one.1.parts ∙ other.1.parts) in (
      parts.0,
      parts.1,
      λ same. after_middle forms t k one.0 other.0 f.id g.id
          (subst (λ u. IsMiddle u k one.0) same
          (subst (λ i. IsMiddle s i one.0) parts.1 one.1.middle_is)) other.1.middle_is parts.2,
    )

pub indexed_within : (t : Specification) (n : ℕ) → has_index t (Attr n) ≡ true
    → n < length t.attributes
indexed_within t n has =
    within_list t.attributes n
    (λ none. true≢false (sym (and_parts _ _ has).0 ∙ ap is_indexed_one none))

small_index : (t : Specification) (k : IndexKind) → IsType t → has_index t k ≡ true → IsSmall k
small_index t (Attr n) typed has = let within = indexed_within t n has in
    omega (arith, within, typed.few)
small_index t _ typed has = tt

pub prefixes_apart : Numbers → (s t : Specification) (j k : IndexKind) (x y : List ℕ) → IsType s
    → IsType t → has_index s j ≡ true → has_index t k ≡ true
    → prefix_of s j ++ x ≡ prefix_of t k ++ y → (s.number ≡ t.number) × (j ≡ k) × (x ≡ y)
prefixes_apart numbers s t j k x y typed typed' has has' same =
    same_prefix numbers s t j k x y typed.numbered typed'.numbered (small_index s j typed has)
    (small_index t k typed' has') same
