-- The steps of reading a specification.
use Rattle.std.proofs.Common.{◌≡◌, ℕ, Bool, true, false, ◌&&◌, List, [], Option, Some, None, Result}
use Rattle.std.proofs.Common.{Ok, Err, refl, sym, ◌∙◌, ap, subst}
use Rattle.std.specs.Prelude.{IfOk}
use Rattle.std.proofs.lemmas.Bool.{and_parts}
use Rattle.gm_base.proofs.Options.{same_some}
use Rattle.gm_types.specs.declared.attribute.Attribute.{Attribute}
use Rattle.gm_types.specs.declared.datum.Datum.{Datum}
use Rattle.gm_types.specs.declared.fault.SpecFault.{SpecFault}
use Rattle.gm_types.specs.declared.halt.Halt.{Halt}
use Rattle.gm_types.specs.declared.halt.Halt.TheVariants as halt
use Rattle.gm_types.specs.declared.outline.Outline.{Outline}
use Rattle.gm_types.specs.Answer.{OutlineReads}
use Rattle.gm_types.specs.Datum.{datum_keys}
use Rattle.gm_types.specs.FeatureType.{IsReadType, has_settings}
use Rattle.gm_types.specs.Halt.{Reads}
use Rattle.gm_types.specs.Parts.{cut_once}
use Rattle.gm_types.specs.Reader.{value_if, attributes_of, stars_of, data_of, front_of, behind_of}
use Rattle.gm_types.specs.Reader.{geometry_place, stars_fit, specification_from, specification_if}
use Rattle.gm_types.specs.Reader.{outline_with, outline_of, is_consistent, consistent_only}
use Rattle.gm_types.specs.Reader.{specification_of}
use Rattle.gm_types.specs.Specification.{Specification, names_of}
use Rattle.gm_types.specs.Words.{is_name, are_distinct}
use Rattle.gm_types.proofs.Cuts.{some_none}
use Rattle.gm_types.proofs.ReadParts.{value_refused, value_taken}
use Rattle.gm_types.proofs.Validity.{IsOutlineOf, outline_valid, valid_from}

pub starred : (name : List ℕ) (number : ℕ) (stars : List Bool) (attributes : List Attribute)
    (given : List Datum) (named : List ℕ) (place : Option ℕ)
    → true ≡ stars_fit stars attributes → place ≡ geometry_place stars attributes
    → value_if (is_name name) name ≡ Some named
    → outline_with name number stars (Some attributes) (Some given)
    ≡ Some (let t : Specification =
    record {
      name = named;
      number = number;
      attributes = attributes;
      «data» = given;
      geometry = place;
    } in t)
starred name number stars attributes given named place fit placed e =
    ap (λ b. specification_if b (specification_from name number stars attributes given)) (sym fit)
    ∙ ap (λ n. Some
    (let t : Specification =
    record {
      name = n;
      number = number;
      attributes = attributes;
      «data» = given;
      geometry = geometry_place stars attributes;
    } in t))
    (value_taken (is_name name) name named e).1
    ∙ ap (λ g. Some
    (let t : Specification =
    record {
      name = named;
      number = number;
      attributes = attributes;
      «data» = given;
      geometry = g;
    } in t)) (sym placed)

pub unstarred : (name : List ℕ) (number : ℕ) (stars : List Bool) (attributes : List Attribute)
    (given : List Datum)
    → false ≡ stars_fit stars attributes
    → outline_with name number stars (Some attributes) (Some given) ≡ None
unstarred name number stars attributes given e =
    ap (λ b. specification_if b (specification_from name number stars attributes given)) (sym e)

pub outline_stopped : {B : Type 0} (wanted : Option Specification) (part : Option B) (h : Halt)
    → Reads part (Err h) → (part ≡ None → wanted ≡ None)
    → OutlineReads wanted (Err h)
outline_stopped wanted part halt.Broken r f = f r
outline_stopped wanted part halt.NoMemory r f = tt

-- a name that is one is refused for memory alone
pub named_memory : (name : List ℕ) (wanted : Option Specification) (h : Halt)
    → is_name name ≡ true → Reads (value_if (is_name name) name) (Err h)
    → OutlineReads wanted (Err h)
named_memory name wanted halt.Broken named e =
    let refused : is_name name ≡ false = value_refused (is_name name) name e in
    absurd (cc)
named_memory name wanted halt.NoMemory named e = tt

pub outline_moved : (wanted other : Option Specification) (r : Result Outline Halt) → wanted ≡ other
    → OutlineReads wanted r → OutlineReads other r
outline_moved wanted other r e h = subst (λ (w : Option Specification). OutlineReads w r) e h

pub no_attributes : (name : List ℕ) (number : ℕ) (stars : List Bool) (given : Option (List Datum))
    (o : Option (List Attribute)) → o ≡ None
    → outline_with name number stars o given ≡ None
no_attributes name number stars given o e = ap (λ a. outline_with name number stars a given) e

pub no_data : (name : List ℕ) (number : ℕ) (stars : List Bool)
    (attributes : Option (List Attribute)) → outline_with name number stars attributes None ≡ None
no_data name number stars None = refl
no_data name number stars (Some attributes) = refl

pub outline_uncut : (name : List ℕ) (number : ℕ) (text : List ℕ) → cut_once 59 text ≡ None
    → outline_with name number (stars_of text) (attributes_of text) (Some [])
    ≡ outline_of name number text
unfolding outline_of
outline_uncut name number text e =
    ap (λ c. outline_with name number (stars_of (front_of text c)) (attributes_of (front_of text c))
    (data_of (behind_of c))) (sym e)

pub outline_cut : (name : List ℕ) (number : ℕ) (text front rest : List ℕ)
    → cut_once 59 text ≡ Some (front, rest)
    → outline_with name number (stars_of front) (attributes_of front) (data_of (Some rest))
    ≡ outline_of name number text
unfolding outline_of
outline_cut name number text front rest e =
    ap (λ c. outline_with name number (stars_of (front_of text c)) (attributes_of (front_of text c))
    (data_of (behind_of c))) (sym e)

-- what is read has the name and the number, and breaks no rule
pub read_valid : (name : List ℕ) (number : ℕ) (text : List ℕ) (t : Specification)
    → specification_of name number text ≡ Some t → IsReadType name number t
read_valid name number text t e = go (outline_of name number text) refl e
  where
    kept : (o : Specification) → IsOutlineOf name number o → (b : Bool) → is_consistent o ≡ b
        → specification_if b o ≡ Some t → IsReadType name number t
    kept o outline true h k =
        let first = and_parts (are_distinct (names_of o))
        (are_distinct (datum_keys o.data) && has_settings o) h in
        let second = and_parts (are_distinct (datum_keys o.data)) (has_settings o) first.1 in
        subst (IsReadType name number) (same_some o t k) record {
          name_is = outline.name_is;
          number_is = outline.number_is;
          valid = valid_from o outline.outline first.0 second.0 second.1;
        }
    kept o outline false h k = absurd (some_none t (sym k))

    go : (o : Option Specification) → outline_of name number text ≡ o → consistent_only o ≡ Some t
        → IsReadType name number t
    go None eo h = absurd (some_none t (sym h))
    go (Some o) eo h = kept o (outline_valid name number text o eo) (is_consistent o) refl h

-- what is as the outline is named and numbered so
pub named_as : (name : List ℕ) (number : ℕ) (t : Specification) (r : Result Specification SpecFault)
    → IfOk r (λ u. u ≡ t) → t.name ≡ name → t.number ≡ number
    → IfOk r (λ u. (u.name ≡ name) × (u.number ≡ number))
named_as name number t (Ok u) same n m =
    (ap (λ (s : Specification). s.name) same ∙ n, ap (λ (s : Specification). s.number) same ∙ m)
named_as name number t (Err why) same n m = tt
