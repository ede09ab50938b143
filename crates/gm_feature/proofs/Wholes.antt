-- Features: what is read fits and is spelled so, and the spelling of one that fits is read.
use Rattle.std.proofs.Common.{◌≡◌, ℕ, ◌≤◌, true, ◌&&◌, eqb, List, [], ◌++◌, length, Option, Some}
use Rattle.std.proofs.Common.{refl, sym, ap, subst, ◌∙◌, arith}
use Rattle.std.specs.Prelude.{nat_le}
use Rattle.std.specs.Int.{w16}
use Rattle.std.specs.List.{list_all}
use Rattle.std.proofs.lemmas.Bool.{eqb-true, leb-true, and_parts}
use Rattle.std.proofs.lemmas.List.{append-nil, nil_from_length}
use Rattle.std.specs.Str.{is_utf8}
use Rattle.gm_base.specs.Identifier.{is_identifier, has_identifier_form, is_printable}
use Rattle.gm_types.specs.Specification.{Specification, kinds_of}
use Rattle.gm_feature.specs.declared.feature.Feature.{Feature}
use Rattle.gm_feature.specs.Feature.{Fits, dates_fit}
use Rattle.gm_feature.specs.Reader.{◌>>=◌, only_if, string_from, identifier_from, values_from}
use Rattle.gm_feature.specs.Reader.{feature_from}
use Rattle.gm_feature.specs.Writer.{string_bytes, values_bytes, feature_bytes}
use Rattle.gm_feature.proofs.Contents.{values_take, values_again}
use Rattle.gm_feature.proofs.Fields.{IsBytes, bind_some, only_some, Takes, Takes-then, wide16}
use Rattle.gm_feature.proofs.Fields.{string_takes, string_again}

pub short_identifier : (id : List ℕ) → is_identifier id ≡ true → length id ≤ 128
short_identifier id is =
    let form = (and_parts (is_utf8 id) (has_identifier_form id) is).1 in
    let long = (and_parts (nat_le 1 (length id) && nat_le (length id) 128)
    (list_all is_printable id) form).0 in
    leb-true _ _ (and_parts (nat_le 1 (length id)) (nat_le (length id) 128) long).1

identifier_takes : (bytes : List ℕ) (x : List ℕ × List ℕ) → IsBytes bytes
    → identifier_from bytes ≡ Some x
    → Takes bytes (string_bytes w16 x.0) x.1 × (is_identifier x.0 ≡ true)
unfolding identifier_from
identifier_takes bytes x fits e =
    let a = bind_some (string_from w16 bytes) (λ id. only_if (is_identifier id.0) id) x e in
    let o = only_some (is_identifier a.0.0) a.0 x a.2 in
    subst (λ (y : List ℕ × List ℕ). Takes bytes (string_bytes w16 y.0) y.1
    × (is_identifier y.0 ≡ true)) o.1 (string_takes w16 wide16 bytes a.0 fits a.1, o.0)

pub identifier_again : (id rest : List ℕ) → is_identifier id ≡ true
    → identifier_from (string_bytes w16 id ++ rest) ≡ Some (id, rest)
unfolding identifier_from
identifier_again id rest is =
    let short = short_identifier id is in
    rw (string_again w16 wide16 id rest (omega arith), is) refl

-- what is read fits, and is spelled so
pub feature_takes : (t : Specification) (bytes : List ℕ) (f : Feature) → IsBytes bytes
    → feature_from t bytes ≡ Some f → Fits t f × (bytes ≡ feature_bytes f)
unfolding feature_from
feature_takes t bytes f fits e =
    let a = bind_some (identifier_from bytes)
    (λ id. values_from (kinds_of t) id.1
    >>= λ values. only_if ((eqb (length values.1) 0) && dates_fit t values.0)
    (record { id = id.0; values = values.0 })) f e in
    let b = bind_some (values_from (kinds_of t) a.0.1)
    (λ values. only_if ((eqb (length values.1) 0) && dates_fit t values.0)
    (record { id = a.0.0; values = values.0 })) f a.2 in
    let made : Feature = record { id = a.0.0; values = b.0.0 } in
    let o = only_some ((eqb (length b.0.1) 0) && dates_fit t b.0.0) made f b.2 in
    let tests = and_parts (eqb (length b.0.1) 0) (dates_fit t b.0.0) o.0 in
    let first = identifier_takes bytes a.0 fits a.1 in
    let second = values_take (kinds_of t) a.0.1 b.0 first.0.rest_fits b.1 in
    let nothing : b.0.1 ≡ [] = nil_from_length b.0.1 (eqb-true _ _ tests.0) in
    let both = (Takes-then bytes (string_bytes w16 a.0.0) a.0.1 (values_bytes b.0.0) b.0.1 first.0
    second.0).parts in
    let whole : bytes ≡ feature_bytes made =
    both ∙ ap (λ (r : List ℕ). feature_bytes made ++ r) nothing
    ∙ append-nil (feature_bytes made) in
    let fit : Fits t made = record { identifier = first.1; each = second.1; date = tests.1 } in
    subst (λ (g : Feature). Fits t g × (bytes ≡ feature_bytes g)) o.1 (fit, whole)

-- what fits is read of its spelling
pub feature_again : (t : Specification) (f : Feature) → Fits t f
    → feature_from t (feature_bytes f) ≡ Some f
unfolding feature_from
feature_again t f fit =
    let values : values_from (kinds_of t) (values_bytes f.values) ≡ Some (f.values, []) =
    ap (values_from (kinds_of t)) (sym (append-nil (values_bytes f.values)))
    ∙ values_again (kinds_of t) f.values [] fit.each in
    rw (identifier_again f.id (values_bytes f.values) fit.identifier, values, fit.date) refl

abbrev some : Feature → Option Feature
some f = Some f

-- two features that fit and have the same bytes are one
pub one_feature : (t : Specification) (f g : Feature) → Fits t f → Fits t g
    → feature_bytes f ≡ feature_bytes g → f ≡ g
one_feature t f g fit fit' same =
    let both : some f ≡ some g =
    sym (feature_again t f fit) ∙ ap (feature_from t) same ∙ feature_again t g fit' in
    cc
