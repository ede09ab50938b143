-- Values so far, and a fault so far.
use Rattle.std.proofs.Common.{◌≡◌, ◌<◌, ◌≤◌, ◌+◌, ◌++◌, ◌∷◌, ◌∙◌, [], ℕ, List, Bool, true, false}
use Rattle.std.proofs.Common.{Ok, Err, Result, length, drop, get_or, refl, sym, ap, add-one}
use Rattle.std.proofs.Common.{drop-cons, append_assoc}
use Rattle.std.specs.Borrow.{Bor}
use Rattle.std.proofs.lemmas.List.{append-nil, drop_all, length-map, get_or-map}
use Rattle.gm_feature.specs.declared.value.Value.{Value}
use Rattle.gm_types.specs.declared.attribute.Attribute.{Attribute}
use Rattle.gm_types.specs.declared.kind.Kind.{Kind}
use Rattle.gm_types.specs.declared.kind.Kind.TheVariants as kind
use Rattle.gm_rows.specs.declared.fault.RowFault.{RowFault}
use Rattle.gm_rows.specs.declared.fault.RowFault.TheVariants as fault
use Rattle.gm_rows.specs.Reader.{value_of, values_of, before, unless_other, joined, attribute_kinds}
use Rattle.gm_rows.proofs.Slices.{seen}

-- the values so far before others, if these are values
abbrev pub behind : List Value → Result (List Value) RowFault → Result (List Value) RowFault
behind values (Ok more) = Ok (values ++ more)
behind values (Err why) = Err why

-- the answer, from the values so far, whether a fault of a geometry was met, and the answer of what
-- is left
abbrev pub carried : Bool → List Value → Result (List Value) RowFault → Result (List Value) RowFault
carried false values rest = behind values rest
carried true values rest = unless_other rest

values-step : (kind : Kind) (kinds : List Kind) (field : List ℕ) (fields : List (List ℕ))
    → values_of (kind ∷ kinds) (field ∷ fields)
    ≡ joined (value_of kind field) (values_of kinds fields)
unfolding values_of
values-step kind kinds field fields = refl

values-short : (kind : Kind) (kinds : List Kind) → values_of (kind ∷ kinds) [] ≡ Err fault.Value
unfolding values_of
values-short kind kinds = refl

values-none : (fields : List (List ℕ)) → values_of [] fields ≡ Ok []
unfolding values_of
values-none fields = refl

here : (kinds : List Kind) (kind : Kind) (fields : List (List ℕ)) (field : List ℕ) (i : ℕ)
    → i < length kinds → i < length fields
    → values_of (drop i kinds) (drop i fields)
    ≡ joined (value_of (get_or kinds i kind) (get_or fields i field))
    (values_of (drop (i + 1) kinds) (drop (i + 1) fields))
here kinds kind fields field i low within =
    rw (drop-cons kinds i kind low, drop-cons fields i field within, add-one) (values-step _ _ _ _)

good : (faulty : Bool) (values : List Value) (value : Value) (rest : Result (List Value) RowFault)
    → carried faulty values (before value rest) ≡ carried faulty (values ++ value ∷ []) rest
good false values value (Ok more) = ap Ok (sym (append_assoc values (value ∷ []) more))
good false values value (Err why) = refl
good true values value (Ok more) = refl
good true values value (Err why) = refl

faulted : (faulty : Bool) (values : List Value) (rest : Result (List Value) RowFault)
    → carried faulty values (unless_other rest) ≡ carried true values rest
faulted false values (Ok more) = refl
faulted false values (Err why) = refl
faulted true values (Ok more) = refl
faulted true values (Err why) = refl

refused : (faulty : Bool) (values : List Value) (why : RowFault)
    → carried faulty values (Err why) ≡ Err why
refused false values why = refl
refused true values why = refl

-- the answer, from the values so far and the answer of the fields from one on
abbrev pub told : List Attribute → List (Bor (List ℕ)) → Bool → List Value → ℕ
    → Result (List Value) RowFault
told attributes fields faulty values i =
    carried faulty values (values_of (drop i (attribute_kinds attributes)) (drop i (seen fields)))

module _ (attributes : List Attribute) (fields : List (Bor (List ℕ))) (i : ℕ) (faulty : Bool)
    (values : List Value) (low : i < length attributes) where
  below : i < length (attribute_kinds attributes)
  below = rw (length-map attributes (λ (a : Attribute). a.kind)) low

  -- a field that is there, and its attribute
  module _ (a : Attribute) (d : Bor (List ℕ)) (within : i < length fields)
      (is : a ≡ get_or attributes i a) where
    here_too : (answer : Result Value RowFault) → value_of a.kind (get_or fields i d).now ≡ answer
        → values_of (drop i (attribute_kinds attributes)) (drop i (seen fields))
        ≡ joined answer
        (values_of (drop (i + 1) (attribute_kinds attributes)) (drop (i + 1) (seen fields)))
    here_too answer e =
        let kind : get_or (attribute_kinds attributes) i a.kind ≡ a.kind =
        get_or-map (λ (b : Attribute). b.kind) attributes i a a.kind low
        ∙ ap (λ (b : Attribute). b.kind) (sym is) in
        let field : get_or (seen fields) i d.now ≡ (get_or fields i d).now =
        get_or-map (λ (f : Bor (List ℕ)). f.now) fields i d d.now within in
        let inside : i < length (seen fields) =
        rw (length-map fields (λ (f : Bor (List ℕ)). f.now)) within in
        here (attribute_kinds attributes) a.kind (seen fields) d.now i below inside
        ∙ ap (λ k. joined (value_of k (get_or (seen fields) i d.now))
        (values_of (drop (i + 1) (attribute_kinds attributes)) (drop (i + 1) (seen fields)))) kind
        ∙ ap (λ f. joined (value_of a.kind f)
        (values_of (drop (i + 1) (attribute_kinds attributes)) (drop (i + 1) (seen fields))))
        field
        ∙ ap (λ x. joined x
        (values_of (drop (i + 1) (attribute_kinds attributes)) (drop (i + 1) (seen fields)))) e

    pub more : (value : Value) → value_of a.kind (get_or fields i d).now ≡ Ok value
        → told attributes fields faulty values i
        ≡ told attributes fields faulty (values ++ value ∷ []) (i + 1)
    more value e = ap (carried faulty values) (here_too (Ok value) e) ∙ good faulty values value _

    pub second : value_of a.kind (get_or fields i d).now ≡ Err fault.Geometry
        → told attributes fields faulty values i ≡ told attributes fields true values (i + 1)
    second e = ap (carried faulty values) (here_too (Err fault.Geometry) e)
        ∙ faulted faulty values _

    pub first : (why : RowFault)
        → ((rest : Result (List Value) RowFault) → joined (Err why) rest ≡ Err why)
        → value_of a.kind (get_or fields i d).now ≡ Err why
        → told attributes fields faulty values i ≡ Err why
    first why ends e =
        ap (carried faulty values) (here_too (Err why) e ∙ ends _) ∙ refused faulty values why

  pub short : length fields ≤ i → told attributes fields faulty values i ≡ Err fault.Value
  short past =
      let gone : drop i (seen fields) ≡ [] =
      drop_all i (seen fields) (rw (length-map fields (λ (f : Bor (List ℕ)). f.now)) past) in
      ap (λ f. carried faulty values (values_of (drop i (attribute_kinds attributes)) f)) gone
      ∙ ap (λ k. carried faulty values (values_of k []))
      (drop-cons (attribute_kinds attributes) i kind.Text below)
      ∙ ap (carried faulty values) (values-short _ _)
      ∙ refused faulty values fault.Value

pub done : (attributes : List Attribute) (fields : List (Bor (List ℕ))) (i : ℕ)
    (values : List Value) → length attributes ≤ i
    → (told attributes fields false values i ≡ Ok values)
    × (told attributes fields true values i ≡ Err fault.Geometry)
done attributes fields i values past =
    rw (
      drop_all i (attribute_kinds attributes)
          (rw (length-map attributes (λ (a : Attribute). a.kind)) past),
      values-none _,
    )
    (ap Ok (append-nil values), refl)
