-- Values printed one after the other.
use Rattle.std.proofs.Common.{◌≡◌, ◌<◌, ◌≤◌, ◌+◌, ◌++◌, ◌∷◌, ◌∙◌, [], ℕ, List, length, get_or, drop}
use Rattle.std.proofs.Common.{drop-cons, add-one, refl, sym, ap, zero, suc, append_assoc, map}
use Rattle.std.proofs.Common.{arith}
use Rattle.std.specs.Prelude.{Result, OnOk}
use Rattle.std.proofs.lemmas.Result.{on_ok_weaker}
use Rattle.std.proofs.lemmas.List.{append-nil, drop_all, length-map}
use Rattle.gm_feature.specs.declared.cursor.StoredValues.{StoredValues}
use Rattle.gm_feature.specs.declared.value.Value.{Value}
use Rattle.gm_feature.specs.declared.value.Value.TheVariants.{Null}
use Rattle.gm_feature.specs.Stored.{AreStored}
use Rattle.gm_types.specs.declared.attribute.Attribute.{Attribute}
use Rattle.gm_types.specs.Specification.{Specification, kinds_of}
use Rattle.gm_rows.specs.Printer.{field_of, further, printed}

further-step : (value : Value) (values : List Value)
    → further (map field_of (value ∷ values))
    ≡ 44 ∷ (printed (field_of value) ++ further (map field_of values))
unfolding further
further-step value values = refl

further-none : further (map field_of []) ≡ []
unfolding further
further-none = refl

-- a comma and a value pushed
pub pushed_value : (values : List Value) (value : Value) (i : ℕ) (row first second : List ℕ)
    → i < length values → value ≡ get_or values i value
    → first ≡ row ++ 44 ∷ [] → second ≡ first ++ printed (field_of value)
    → second ++ further (map field_of (drop (i + 1) values))
    ≡ row ++ further (map field_of (drop i values))
pushed_value values value i row first second low at one two =
    let here : drop i values ≡ value ∷ drop (i + 1) values =
    rw add-one (drop-cons values i value low
    ∙ ap (λ (v : Value). v ∷ drop (suc i) values) (sym at)) in
    rw (here, further-step, two, one)
    (append_assoc (row ++ 44 ∷ []) (printed (field_of value)) _ ∙ append_assoc row (44 ∷ []) _)

-- all values pushed
pub pushed_all : (values : List Value) (i : ℕ) (row : List ℕ) → length values ≤ i
    → row ++ further (map field_of (drop i values)) ≡ row
pushed_all values i row high = rw (drop_all i values high, further-none) (append-nil row)

-- the values that are left, and what the row is with them
pub record ArePushed (s : StoredValues) (row whole : List ℕ) (left : List Value) : Type 0 where
  pub stored : AreStored s left
  pub same : row ++ further (map field_of left) ≡ whole

-- as many values as attributes
pub as_many : (t : Specification) (attributes : List Attribute) (values : List Value)
    → attributes ≡ t.attributes → length values ≡ length (kinds_of t)
    → length values ≡ length attributes
as_many t attributes values list count =
    count ∙ length-map t.attributes (λ (a : Attribute). a.kind)
    ∙ ap (λ (all : List Attribute). length all) (sym list)

-- the values from a place on begin with that in it
pub from_place : (values : List Value) (i : ℕ) → i < length values
    → drop i values ≡ get_or values i Null ∷ drop (i + 1) values
from_place values i low = rw add-one (drop-cons values i Null low)

any_default : (values : List Value) (i : ℕ) (a b : Value) → i < length values
    → get_or values i a ≡ get_or values i b
any_default [] i a b low = absurd (omega (arith, low))
any_default (v ∷ values) zero a b low = refl
any_default (v ∷ values) (suc i) a b low = any_default values i a b (omega (arith, low))

pub still_pushed : (s after : StoredValues) (values : List Value) (i : ℕ)
    (row first second whole : List ℕ) → i < length values
    → ArePushed s row whole (drop i values) → AreStored after (drop (i + 1) values)
    → first ≡ row ++ 44 ∷ [] → second ≡ first ++ printed (field_of (get_or values i Null))
    → ArePushed after second whole (drop (i + 1) values)
still_pushed s after values i row first second whole low before left one two = record {
  stored = left;
  same = pushed_value values (get_or values i Null) i row first second low
      (any_default values i Null (get_or values i Null) low) one two ∙ before.same;
}

-- a field pushed as that of a value
pub pushed_as : {T E : Type 0} (r : Result T E) (row after field : List ℕ) (v w : Value) → v ≡ w
    → field ≡ printed (field_of w)
    → OnOk r (after ≡ row ++ field) → OnOk r (after ≡ row ++ printed (field_of v))
pushed_as r row after field v w is same pushed =
    on_ok_weaker r
    (λ e. e ∙ ap (λ (t : List ℕ). row ++ t)
    (same ∙ ap (λ (u : Value). printed (field_of u)) (sym is))) pushed
