-- Values: what is read of one is spelled so, and the spelling of one that fits is read.
use Rattle.std.proofs.Common.{◌≡◌, ℕ, zero, suc, ◌^◌, ◌<◌, ◌≤◌, ℤ, pos, negsuc, Bool, true, false}
use Rattle.std.proofs.Common.{◌&&◌, List, [], ◌∷◌, ◌++◌, length, Some, refl, sym, ap, subst, ◌∙◌}
use Rattle.std.proofs.Common.{append_assoc, arith}
use Rattle.std.specs.Prelude.{nat_le}
use Rattle.std.specs.Int.{w32, w64}
use Rattle.std.specs.Int.RustNames.{FitsSigned}
use Rattle.std.specs.List.{list_all}
use Rattle.std.specs.Str.{is_utf8}
use Rattle.std.proofs.lemmas.Bool.{leb-true, and_parts}
use Rattle.std.proofs.lemmas.Grind.{common_steps}
use Rattle.gm_calendar.specs.Instant.{is_instant}
use Rattle.gm_types.specs.declared.kind.Kind.{Kind}
use Rattle.gm_types.specs.declared.kind.Kind.TheVariants as kind
use Rattle.gm_feature.specs.declared.value.Value.{Value}
use Rattle.gm_feature.specs.declared.value.Value.TheVariants as value
use Rattle.gm_feature.specs.Feature.{values_fit}
use Rattle.gm_feature.specs.Reader.{◌>>=◌, only_if, string_from, signed_from, text_from}
use Rattle.gm_feature.specs.Reader.{truth_from, instant_from, geometry_from, content_from}
use Rattle.gm_feature.specs.Reader.{value_from, values_from}
use Rattle.gm_feature.specs.Writer.{signed_bytes, string_bytes, truth_byte, presence_byte}
use Rattle.gm_feature.specs.Writer.{content_bytes, value_bytes, values_bytes}
use Rattle.gm_feature.specs.Value.{is_below, is_no_zero, has_text_form, value_fits}
use Rattle.gm_feature.proofs.Fields.{IsBytes, IsBytes-rest, bind_some, only_some, made_some}
use Rattle.gm_feature.proofs.Fields.{some_is, Takes, Takes-then, Takes-behind, wide32, wide64}
use Rattle.gm_feature.proofs.Fields.{signed_takes, signed_again, string_takes, string_again}
use Rattle.gm_feature.proofs.Shapes.{geometry_takes, geometry_again}

-- ---- numbers and instants

below_32 : (z : ℤ) → FitsSigned w32 z → is_below (2 ^ 31) z ≡ true
below_32 (pos n) fits = grind (arith, common_steps)
below_32 (negsuc n) fits = grind (arith, common_steps)

fits_32 : (z : ℤ) → is_below (2 ^ 31) z ≡ true → FitsSigned w32 z
fits_32 (pos n) below = grind (arith, common_steps)
fits_32 (negsuc n) below = grind (arith, common_steps)

below_64 : (z : ℤ) → FitsSigned w64 z → is_below (2 ^ 63) z ≡ true
below_64 (pos n) fits = grind (arith, common_steps)
below_64 (negsuc n) fits = grind (arith, common_steps)

fits_64 : (z : ℤ) → is_below (2 ^ 63) z ≡ true → FitsSigned w64 z
fits_64 (pos n) below = grind (arith, common_steps)
fits_64 (negsuc n) below = grind (arith, common_steps)

pub instant_fits : (at : ℤ) → is_instant at ≡ true → FitsSigned w64 at
instant_fits (pos n) is = grind (arith, common_steps)
instant_fits (negsuc n) is = grind (arith, common_steps)

instant_takes : (bytes : List ℕ) (x : ℤ × List ℕ) → IsBytes bytes → instant_from bytes ≡ Some x
    → Takes bytes (signed_bytes w64 x.0) x.1 × (is_instant x.0 ≡ true)
unfolding instant_from
instant_takes bytes x fits e =
    let a = bind_some (signed_from w64 bytes) (λ n. only_if (is_instant n.0) n) x e in
    let o = only_some (is_instant a.0.0) a.0 x a.2 in
    let t = signed_takes w64 wide64 bytes a.0 fits a.1 in
    subst (λ (y : ℤ × List ℕ). Takes bytes (signed_bytes w64 y.0) y.1 × (is_instant y.0 ≡ true))
    o.1 (t.0, o.0)

instant_again : (at : ℤ) (rest : List ℕ) → is_instant at ≡ true
    → instant_from (signed_bytes w64 at ++ rest) ≡ Some (at, rest)
unfolding instant_from
instant_again at rest is = rw (signed_again w64 wide64 at rest (instant_fits at is), is) refl

-- ---- texts and truths

short_text : (text : List ℕ) → has_text_form text ≡ true → length text < 2 ^ 32
short_text text form =
    let parts = and_parts (nat_le 1 (length text) && nat_le (length text) 1048576)
    (list_all is_no_zero text) form in
    let few : length text ≤ 1048576 =
    leb-true _ _ (and_parts (nat_le 1 (length text)) (nat_le (length text) 1048576) parts.0).1 in
    omega arith

text_takes : (bytes : List ℕ) (x : List ℕ × List ℕ) → IsBytes bytes → text_from bytes ≡ Some x
    → Takes bytes (string_bytes w32 x.0) x.1 × ((is_utf8 x.0 && has_text_form x.0) ≡ true)
unfolding text_from
text_takes bytes x fits e =
    let a = bind_some (string_from w32 bytes)
    (λ t. only_if (is_utf8 t.0 && has_text_form t.0) t) x e in
    let o = only_some (is_utf8 a.0.0 && has_text_form a.0.0) a.0 x a.2 in
    let t = string_takes w32 wide32 bytes a.0 fits a.1 in
    subst (λ (y : List ℕ × List ℕ). Takes bytes (string_bytes w32 y.0) y.1
    × ((is_utf8 y.0 && has_text_form y.0) ≡ true)) o.1 (t, o.0)

text_again : (text rest : List ℕ) → (is_utf8 text && has_text_form text) ≡ true
    → text_from (string_bytes w32 text ++ rest) ≡ Some (text, rest)
unfolding text_from
text_again text rest is =
    rw (
      string_again w32 wide32 text rest
          (short_text text (and_parts (is_utf8 text) (has_text_form text) is).1),
      is,
    ) refl

truth_takes : (bytes : List ℕ) (x : Bool × List ℕ) → IsBytes bytes → truth_from bytes ≡ Some x
    → Takes bytes (truth_byte x.0 ∷ []) x.1
unfolding truth_from
truth_takes [] x fits e = absurd cc
truth_takes (zero ∷ bytes) x fits e =
    subst (λ (y : Bool × List ℕ). Takes (0 ∷ bytes) (truth_byte y.0 ∷ []) y.1)
    (some_is (false, bytes) x e)
    (record { parts = refl; rest_fits = IsBytes-rest 0 bytes fits })
truth_takes (suc zero ∷ bytes) x fits e =
    subst (λ (y : Bool × List ℕ). Takes (1 ∷ bytes) (truth_byte y.0 ∷ []) y.1)
    (some_is (true, bytes) x e) (record { parts = refl; rest_fits = IsBytes-rest 1 bytes fits })
truth_takes (suc (suc b) ∷ bytes) x fits e = absurd cc

truth_again : (b : Bool) (rest : List ℕ) → truth_from (truth_byte b ∷ rest) ≡ Some (b, rest)
unfolding truth_from
truth_again true rest = refl
truth_again false rest = refl

-- ---- values that are not null

-- the value that was read
record IsContent (k : Kind) (bytes : List ℕ) (x : Value × List ℕ) : Type 0 where
  taken : Takes bytes (content_bytes x.0) x.1
  fits : value_fits k x.0 ≡ true
  present : presence_byte x.0 ≡ 1

content_takes : (k : Kind) (bytes : List ℕ) (x : Value × List ℕ) → IsBytes bytes
    → content_from k bytes ≡ Some x → IsContent k bytes x
content_takes kind.Text bytes x fits e =
    let m = made_some (λ (t : List ℕ). value.Text t) (text_from bytes) x e in
    let t = text_takes bytes m.0 fits m.1 in
    subst (IsContent kind.Text bytes) m.2 (record { taken = t.0; fits = t.1; present = refl })
content_takes kind.Integer bytes x fits e =
    let m = made_some (λ (z : ℤ). value.Integer z) (signed_from w32 bytes) x e in
    let t = signed_takes w32 wide32 bytes m.0 fits m.1 in
    subst (IsContent kind.Integer bytes) m.2
    (record { taken = t.0; fits = below_32 m.0.0 t.1; present = refl })
content_takes kind.Long bytes x fits e =
    let m = made_some (λ (z : ℤ). value.Long z) (signed_from w64 bytes) x e in
    let t = signed_takes w64 wide64 bytes m.0 fits m.1 in
    subst (IsContent kind.Long bytes) m.2
    (record { taken = t.0; fits = below_64 m.0.0 t.1; present = refl })
content_takes kind.Boolean bytes x fits e =
    let m = made_some (λ (b : Bool). value.Boolean b) (truth_from bytes) x e in
    let t = truth_takes bytes m.0 fits m.1 in
    subst (IsContent kind.Boolean bytes) m.2 (record { taken = t; fits = refl; present = refl })
content_takes kind.Date bytes x fits e =
    let m = made_some (λ (at : ℤ). value.Date at) (instant_from bytes) x e in
    let t = instant_takes bytes m.0 fits m.1 in
    subst (IsContent kind.Date bytes) m.2 (record { taken = t.0; fits = t.1; present = refl })
content_takes (kind.Geo shape) bytes x fits e =
    let m = made_some (λ g. value.Geo g) (geometry_from shape bytes) x e in
    let t = geometry_takes shape bytes m.0 fits m.1 in
    subst (IsContent (kind.Geo shape) bytes) m.2
    (record { taken = t.0; fits = t.1; present = refl })

-- ---- values

null_fits : (k : Kind) → value_fits k value.Null ≡ true
null_fits k = refl

pub value_takes : (k : Kind) (bytes : List ℕ) (x : Value × List ℕ) → IsBytes bytes
    → value_from k bytes ≡ Some x → Takes bytes (value_bytes x.0) x.1 × (value_fits k x.0 ≡ true)
unfolding value_from
value_takes k [] x fits e = absurd cc
value_takes k (zero ∷ bytes) x fits e =
    subst (λ (y : Value × List ℕ). Takes (0 ∷ bytes) (value_bytes y.0) y.1
    × (value_fits k y.0 ≡ true)) (some_is (value.Null, bytes) x e)
    (record { parts = refl; rest_fits = IsBytes-rest 0 bytes fits }, null_fits k)
value_takes k (suc zero ∷ bytes) x fits e =
    let c = content_takes k bytes x (IsBytes-rest 1 bytes fits) e in
    let t = Takes-behind 1 bytes (content_bytes x.0) x.1 c.taken in (
      subst (λ (byte : ℕ). Takes (1 ∷ bytes) (byte ∷ content_bytes x.0) x.1) (sym c.present) t,
      c.fits,
    )
value_takes k (suc (suc b) ∷ bytes) x fits e = absurd cc

pub value_again : (k : Kind) (v : Value) (rest : List ℕ) → value_fits k v ≡ true
    → value_from k (value_bytes v ++ rest) ≡ Some (v, rest)
unfolding value_from
value_again k value.Null rest fits = refl
value_again kind.Text (value.Text text) rest fits = rw (text_again text rest fits) refl
value_again kind.Integer (value.Integer z) rest fits =
    rw (signed_again w32 wide32 z rest (fits_32 z fits)) refl
value_again kind.Long (value.Long z) rest fits =
    rw (signed_again w64 wide64 z rest (fits_64 z fits)) refl
value_again kind.Boolean (value.Boolean b) rest fits = rw (truth_again b rest) refl
value_again kind.Date (value.Date at) rest fits = rw (instant_again at rest fits) refl
value_again (kind.Geo shape) (value.Geo g) rest fits = rw (geometry_again shape g rest fits) refl
value_again _ _ rest fits = absurd cc

pub values_take : (kinds : List Kind) (bytes : List ℕ) (x : List Value × List ℕ) → IsBytes bytes
    → values_from kinds bytes ≡ Some x
    → Takes bytes (values_bytes x.0) x.1 × (values_fit kinds x.0 ≡ true)
unfolding values_from
values_take [] bytes x fits e =
    subst (λ (y : List Value × List ℕ). Takes bytes (values_bytes y.0) y.1
    × (values_fit [] y.0 ≡ true)) (some_is ([], bytes) x e)
    (record { parts = refl; rest_fits = fits }, refl)
values_take (k ∷ kinds) bytes x fits e =
    let a = bind_some (value_from k bytes)
    (λ first. values_from kinds first.1 >>= λ others. Some (first.0 ∷ others.0, others.1)) x
    e in
    let b = bind_some (values_from kinds a.0.1)
    (λ others. Some (a.0.0 ∷ others.0, others.1)) x a.2 in
    let first = value_takes k bytes a.0 fits a.1 in
    let second = values_take kinds a.0.1 b.0 first.0.rest_fits b.1 in
    let taken = Takes-then bytes (value_bytes a.0.0) a.0.1 (values_bytes b.0.0) b.0.1
    first.0 second.0 in
    let fit : values_fit (k ∷ kinds) (a.0.0 ∷ b.0.0) ≡ true =
    ap (λ t. t && values_fit kinds b.0.0) first.1 ∙ second.1 in
    let all : List Value × List ℕ = (a.0.0 ∷ b.0.0, b.0.1) in
    subst (λ (y : List Value × List ℕ). Takes bytes (values_bytes y.0) y.1
    × (values_fit (k ∷ kinds) y.0 ≡ true)) (some_is all x b.2) (taken, fit)

pub values_again : (kinds : List Kind) (values : List Value) (rest : List ℕ)
    → values_fit kinds values ≡ true
    → values_from kinds (values_bytes values ++ rest) ≡ Some (values, rest)
unfolding values_from
values_again [] [] rest fits = refl
values_again [] (v ∷ values) rest fits = absurd cc
values_again (k ∷ kinds) [] rest fits = absurd cc
values_again (k ∷ kinds) (v ∷ values) rest fits =
    let parts = and_parts (value_fits k v) (values_fit kinds values) fits in
    rw (
      append_assoc (value_bytes v) (values_bytes values) rest,
      value_again k v (values_bytes values ++ rest) parts.0,
      values_again kinds values rest parts.1,
    ) refl
