-- What is read of a row fits the type.
use Rattle.std.proofs.Common.{◌≡◌, ℕ, Bool, true, false, ◌&&◌, List, [], ◌∷◌, length, take, drop}
use Rattle.std.proofs.Common.{Option, Some, None, Result, Ok, Err, refl, sym, ◌∙◌, ap, subst}
use Rattle.std.specs.Prelude.{ℤ, pos, negsuc, if◌then◌else◌, ◌^◌, ◌==◌, is_none}
use Rattle.std.specs.Str.Parse.{without_leading_sign, signed_digits_value}
use Rattle.std.proofs.lemmas.Bool.{and_from}
use Rattle.gm_base.specs.Identifier.{is_identifier}
use Rattle.gm_calendar.specs.Instant.{is_instant}
use Rattle.gm_calendar.specs.Spelling.{instant_of, instant_from, sum_of, date_of, behind_date}
use Rattle.gm_feature.specs.declared.feature.Feature.{Feature}
use Rattle.gm_feature.specs.declared.value.Value.{Value}
use Rattle.gm_feature.specs.declared.value.Value.TheVariants as value
use Rattle.gm_feature.specs.Feature.{values_fit, dates_fit, Fits}
use Rattle.gm_feature.specs.Shape.{has_shape}
use Rattle.gm_feature.specs.Value.{value_fits, is_below}
use Rattle.gm_geom.specs.declared.geometry.Geometry.{Geometry}
use Rattle.gm_geom.specs.declared.validity.GeomFault.{GeomFault}
use Rattle.gm_geom.specs.Validity.{fault_of}
use Rattle.gm_types.specs.declared.kind.GeoKind.{GeoKind}
use Rattle.gm_types.specs.declared.kind.Kind.{Kind}
use Rattle.gm_types.specs.declared.kind.Kind.TheVariants as kind
use Rattle.gm_types.specs.Specification.{Specification, kinds_of}
use Rattle.gm_wkt.specs.declared.fault.WktFault.{WktFault}
use Rattle.gm_wkt.specs.Answer.{answer_of, judged, kept_or}
use Rattle.gm_wkt.specs.Value.{geometry_of}
use Rattle.gm_rows.specs.declared.fault.RowFault.{RowFault}
use Rattle.gm_rows.specs.declared.fault.RowFault.TheVariants as fault
use Rattle.gm_rows.specs.Reader as spec

not_ok : {A : Type 0} {x : A} {P : Type 0} {why : RowFault} → Err why ≡ Ok x → P
not_ok e = absurd (cc)

not_some : {A : Type 0} {x : A} {P : Type 0} → None ≡ Some x → P
not_some e = absurd (cc)

same_ok : {A : Type 0} (x y : A) → (let r : Result A RowFault = Ok x in r) ≡ Ok y → x ≡ y
same_ok x y e = cc

-- what a reader of a kind gives
fits_as : {A : Type 0} (k : Kind) (make : A → Value) (o : Option A) (v : Value)
    → spec.read_as make o ≡ Ok v
    → ((x : A) → o ≡ Some x → value_fits k (make x) ≡ true) → value_fits k v ≡ true
fits_as k make None v e sound = not_ok e
fits_as k make (Some x) v e sound = ap (value_fits k) (sym (same_ok (make x) v e)) ∙ sound x refl

kept_if : {A : Type 0} (test : A → Bool) (x y : A) → (if test x then Some x else None) ≡ Some y
    → test y ≡ true
kept_if test x y e = go (test x) refl e
  where
    go : (b : Bool) → test x ≡ b → (if b then Some x else None) ≡ Some y → test y ≡ true
    go true h e2 = let same : x ≡ y = cc in ap test (sym same) ∙ h
    go false h e2 = not_some e2

number_fits : (bits : ℕ) (field : List ℕ) (n : ℤ) → spec.integer_of bits field ≡ Some n
    → is_below (2 ^ bits) n ≡ true
number_fits bits field n e =
    within n (kept (spec.is_numeral (without_leading_sign field)) (signed_digits_value 10 field) e)
  where
    kept : (numeral : Bool) (m : ℤ)
        → (if numeral && spec.is_within bits m then Some m else None) ≡ Some n
        → spec.is_within bits n ≡ true
    kept true m h = kept_if (spec.is_within bits) m n h
    kept false m h = not_some h

    within : (m : ℤ) → spec.is_within bits m ≡ true → is_below (2 ^ bits) m ≡ true
    within (pos k) h = h
    within (negsuc k) h = h

instant_fits : (o : Option ℤ) (at : ℤ) → instant_from o ≡ Some at → is_instant at ≡ true
instant_fits None at e = not_some e
instant_fits (Some ms) at e = kept_if is_instant ms at e

geometry_kept : (o : Option Geometry) (g : Geometry) → judged o ≡ Ok g → is_none (fault_of g) ≡ true
geometry_kept None g e = absurd (cc)
geometry_kept (Some h) g e = go (fault_of h) refl e
  where
    go : (f : Option GeomFault) → fault_of h ≡ f → kept_or h f ≡ Ok g → is_none (fault_of g) ≡ true
    go None ef e2 = let same : h ≡ g = cc in
        ap (λ x. is_none (fault_of x)) (sym same) ∙ ap is_none ef
    go (Some f) ef e2 = absurd (cc)

geometry_fits : (shape : GeoKind) (r : Result Geometry WktFault) (v : Value)
    → spec.shaped shape r ≡ Ok v
    → ((g : Geometry) → r ≡ Ok g → is_none (fault_of g) ≡ true)
    → value_fits (kind.Geo shape) v ≡ true
geometry_fits shape (Err why) v e kept = not_ok e
geometry_fits shape (Ok g) v e kept = go (has_shape shape g) refl e
  where
    go : (b : Bool) → has_shape shape g ≡ b
        → (if b then Ok (value.Geo g) else Err fault.Geometry) ≡ Ok v
        → value_fits (kind.Geo shape) v ≡ true
    go true h e2 =
        ap (value_fits (kind.Geo shape)) (sym (same_ok (value.Geo g) v e2))
        ∙ and_from (has_shape shape g) (is_none (fault_of g)) h (kept g refl)
    go false h e2 = not_ok e2

some_fits : (k : Kind) (field : List ℕ) (v : Value) → spec.value_of_some k field ≡ Ok v
    → value_fits k v ≡ true
some_fits kind.Text field v e =
    fits_as kind.Text value.Text (spec.text_of field) v e
    (λ text h. kept_if spec.is_text field text h)
some_fits kind.Integer field v e =
    fits_as kind.Integer value.Integer (spec.integer_of 31 field) v e (number_fits 31 field)
some_fits kind.Long field v e =
    fits_as kind.Long value.Long (spec.integer_of 63 field) v e (number_fits 63 field)
some_fits kind.Boolean field v e =
    fits_as kind.Boolean value.Boolean (spec.truth_of field) v e (λ truth h. refl)
some_fits kind.Date field v e =
    fits_as kind.Date value.Date (instant_of field) v e
    (instant_fits (sum_of (date_of (take 10 field)) (behind_date (drop 10 field))))
some_fits (kind.Geo shape) field v e =
    geometry_fits shape (answer_of field) v e (geometry_kept (geometry_of field))

field_fits : (k : Kind) (field : List ℕ) (v : Value) → spec.value_of k field ≡ Ok v
    → value_fits k v ≡ true
field_fits k [] v e = ap (value_fits k) (sym (same_ok value.Null v e))
field_fits k (byte ∷ rest) v e = some_fits k (byte ∷ rest) v e

-- the values of all fields
fields_fit : (kinds : List Kind) (fields : List (List ℕ)) (values : List Value)
    → spec.values_of kinds fields ≡ Ok values
    → values_fit kinds values ≡ true
unfolding spec.values_of
fields_fit [] fields values e = let same : [] ≡ values = cc in ap (values_fit []) (sym same)
fields_fit (k ∷ kinds) [] values e = not_ok e
fields_fit (k ∷ kinds) (field ∷ fields) values e =
    go (spec.value_of k field) refl (spec.values_of kinds fields) refl e (fields_fit kinds fields)
  where
    none_of : (r : Result (List Value) RowFault) → spec.unless_other r ≡ Ok values
        → values_fit (k ∷ kinds) values ≡ true
    none_of (Ok vs) h = not_ok h
    none_of (Err why) h = not_ok h

    go : (one : Result Value RowFault) → spec.value_of k field ≡ one
        → (rest : Result (List Value) RowFault) → spec.values_of kinds fields ≡ rest
        → spec.joined one rest ≡ Ok values
        → ((vs : List Value) → spec.values_of kinds fields ≡ Ok vs → values_fit kinds vs ≡ true)
        → values_fit (k ∷ kinds) values ≡ true
    go (Ok v) eo (Ok vs) er h others =
        ap (values_fit (k ∷ kinds)) (sym (same_ok (v ∷ vs) values h))
        ∙ and_from (value_fits k v) (values_fit kinds vs) (field_fits k field v eo) (others vs er)
    go (Ok v) eo (Err why) er h others = not_ok h
    go (Err fault.Geometry) eo rest er h others = none_of rest h
    go (Err fault.Count) eo rest er h others = not_ok h
    go (Err fault.Value) eo rest er h others = not_ok h
    go (Err fault.Date) eo rest er h others = not_ok h
    go (Err fault.Id) eo rest er h others = not_ok h
    go (Err fault.NoMemory) eo rest er h others = not_ok h

-- the whole feature
abbrev made : List ℕ → List Value → Feature
made id values = record { id = id; values = values }

if_named : (id : List ℕ) (values : List Value) (f : Feature) (named : Bool)
    → (if named then (let r : Result Feature RowFault = Ok (made id values) in r) else Err fault.Id)
    ≡ Ok f → (named ≡ true) × (made id values ≡ f)
if_named id values f true e = (refl, same_ok (made id values) f e)
if_named id values f false e = not_ok e

made_fits : (t : Specification) (id : List ℕ) (values : List Value) (f : Feature)
    → values_fit (kinds_of t) values ≡ true
    → (date : Bool) → dates_fit t values ≡ date → spec.feature_if date id values ≡ Ok f → Fits t f
made_fits t id values f each true date e =
    let whole : (is_identifier id ≡ true) × (made id values ≡ f) =
    if_named id values f (is_identifier id) e in
    subst (Fits t) whole.1 (record { identifier = whole.0; each = each; date = date })
made_fits t id values f each false date e = not_ok e

from_fits : (t : Specification) (id : List ℕ) (fields : List (List ℕ))
    (r : Result (List Value) RowFault) (f : Feature)
    → spec.values_of (kinds_of t) fields ≡ r → spec.feature_from t id r ≡ Ok f → Fits t f
from_fits t id fields (Err why) f er e = not_ok e
from_fits t id fields (Ok values) f er e =
    made_fits t id values f (fields_fit (kinds_of t) fields values er) (dates_fit t values) refl e

record_fits : (t : Specification) (o : Option (List (List ℕ))) (f : Feature)
    → spec.feature_of_record t o ≡ Ok f → Fits t f
record_fits t None f e = not_ok e
record_fits t (Some []) f e = not_ok e
record_fits t (Some (id ∷ fields)) f e = go (length fields == length (kinds_of t)) e
  where
    go : (b : Bool)
        → (if b then spec.feature_from t id (spec.values_of (kinds_of t) fields)
        else Err fault.Count) ≡ Ok f → Fits t f
    go true h = from_fits t id fields (spec.values_of (kinds_of t) fields) f refl h
    go false h = not_ok h

pub row_fits : (t : Specification) (row : List ℕ) (f : Feature)
    → spec.row_of t row ≡ Ok f → Fits t f
row_fits t row f e = record_fits t (spec.record_of row) f e
