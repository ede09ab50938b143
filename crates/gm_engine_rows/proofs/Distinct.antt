-- The keys of a feature, and of a change, are distinct.
use Rattle.std.proofs.Common.{◌≡◌, ◌≤◌, ℕ, zero, suc, ◌+◌, Bool, true, false, true≢false, cond, not}
use Rattle.std.proofs.Common.{◌⊎◌, inl, inr, ⊎_elim, List, [], ◌∷◌, ◌++◌, map, filter, filter_map}
use Rattle.std.proofs.Common.{length, Option, Some, None, refl, sym, ap, subst, ◌∙◌, arith}
use Rattle.std.specs.Option.{ForSome}
use Rattle.std.specs.List.{cons_option}
use Rattle.std.proofs.lemmas.Bool.{and_parts, and_from}
use Rattle.gm_base.proofs.Booleans.{false_of_never, false_of_not}
use Rattle.gm_table.specs.declared.row.Row.{Row}
use Rattle.gm_table.specs.Batch.{has_key, are_distinct}
use Rattle.gm_table.specs.Row.{key_of as key_of_row}
use Rattle.gm_types.specs.declared.index.IndexKind.{IndexKind}
use Rattle.gm_types.specs.declared.index.IndexKind.TheVariants.{Id, Z2, Z3, Xz2, Xz3, Attr}
use Rattle.gm_types.specs.FeatureType.{IsType}
use Rattle.gm_types.specs.Index.{has_index, attribute_indexes, all_indexes, enabled_indexes}
use Rattle.gm_types.specs.Specification.{Specification}
use Rattle.gm_feature.specs.declared.feature.Feature.{Feature}
use Rattle.gm_feature.specs.Feature.{Fits}
use Rattle.gm_keys.specs.Key.{index_number, key_of, keys_of}
use Rattle.gm_engine_rows.specs.Change.{keys_at, rows_with, removes_of, puts_of}
use Rattle.gm_engine_rows.proofs.Members.{In, in_keys, has_in, kept_out}
use Rattle.gm_engine_rows.proofs.RowLaws.{Keys}

in_append : {A : Type 0} (x : A) (xs ys : List A) → In x (xs ++ ys) → In x xs ⊎ In x ys
in_append x [] ys member = inr member
in_append x (y ∷ xs) ys (inl same) = inl (inl same)
in_append x (y ∷ xs) ys (inr later) =
    ⊎_elim (λ h. inl (inr h)) (λ h. inr h) (in_append x xs ys later)

pub distinct_append : (xs ys : List (List ℕ)) → are_distinct xs ≡ true → are_distinct ys ≡ true
    → ((k : List ℕ) → In k xs → has_key k ys ≡ false) → are_distinct (xs ++ ys) ≡ true
distinct_append [] ys one other apart = other
distinct_append (x ∷ xs) ys one other apart =
    let parts = and_parts _ _ one in
    and_from (not (has_key x (xs ++ ys))) (are_distinct (xs ++ ys))
    (ap not (false_of_never (has_key x (xs ++ ys)) (λ has. ⊎_elim
    (λ here. true≢false (sym (has_in x xs here) ∙ false_of_not _ parts.0))
    (λ there. true≢false (sym (has_in x ys there) ∙ apart x (inl refl)))
    (in_append x xs ys (in_keys x (xs ++ ys) has)))))
    (distinct_append xs ys parts.1 other (λ k member. apart k (inr member)))

pub in_filter : (p : List ℕ → Bool) (xs : List (List ℕ)) (k : List ℕ) → In k (filter p xs)
    → (p k ≡ true) × In k xs
in_filter p [] k member = absurd member
in_filter p (x ∷ xs) k member =
    elim (p x) as (λ t. p x ≡ t → In k (cond t (x ∷ filter p xs) (filter p xs))
    → (p k ≡ true) × In k (x ∷ xs)) [
      | true ↦ λ passes either. ⊎_elim (λ same. (ap p same ∙ passes, inl same))
          (λ later. let rest = in_filter p xs k later in (rest.0, inr rest.1)) either
      | false ↦ λ _ later. let rest = in_filter p xs k later in (rest.0, inr rest.1)
    ] refl member

pub distinct_filter : (p : List ℕ → Bool) (xs : List (List ℕ)) → are_distinct xs ≡ true
    → are_distinct (filter p xs) ≡ true
distinct_filter p [] one = refl
distinct_filter p (x ∷ xs) one =
    let parts = and_parts _ _ one in
    let rest = distinct_filter p xs parts.1 in
    elim (p x) as (λ t. are_distinct (cond t (x ∷ filter p xs) (filter p xs)) ≡ true) [
      | true ↦ and_from (not (has_key x (filter p xs))) (are_distinct (filter p xs))
          (ap not (false_of_never (has_key x (filter p xs))
          (λ has. true≢false
          (sym (has_in x xs (in_filter p xs x (in_keys x (filter p xs) has)).1)
          ∙ false_of_not _ parts.0)))) rest
      | false ↦ rest
    ]

-- ---- the indexes of a type
abbrev NoneTwice : {A : Type 0} → List A → Type 0
NoneTwice [] = Unit {0}
NoneTwice (x ∷ xs) = (In x xs → ⊥) × NoneTwice xs

from_on : (from count : ℕ) (k : IndexKind) → In k (attribute_indexes from count)
    → (m : ℕ) × (k ≡ Attr m) × (from ≤ m)
from_on from zero k member = absurd member
from_on from (suc count) k (inl same) = (from, same, omega arith)
from_on from (suc count) k (inr later) = let rest = from_on (from + 1) count k later in
    (rest.0, rest.1, omega (arith, rest.2))

same_number : (a b : ℕ) → ◌≡◌ {A = IndexKind} (Attr a) (Attr b) → a ≡ b
same_number a b same = cc

attributes_once : (from count : ℕ) → NoneTwice (attribute_indexes from count)
attributes_once from zero = tt
attributes_once from (suc count) = (
  λ member. let at = from_on (from + 1) count (Attr from) member in let same : from ≡ at.0 =
      same_number from at.0 at.1 in absurd (omega (arith, same, at.2)),
  attributes_once (from + 1) count,
)

no_attribute : (k : IndexKind) (from count : ℕ) → (index_number k ≡ 5 → ⊥)
    → In k (attribute_indexes from count) → ⊥
no_attribute k from count apart member = apart (ap index_number (from_on from count k member).1)

apart_numbers : (a b : IndexKind) → (index_number a ≡ index_number b → ⊥) → a ≡ b → ⊥
apart_numbers a b apart same = apart (ap index_number same)

all_once : (t : Specification) → NoneTwice (all_indexes t)
all_once t =
    let n = length t.attributes in
    let z01 : ◌≡◌ {A = ℕ} 0 1 → ⊥ = λ h. absurd (omega (arith, h)) in
    let z02 : ◌≡◌ {A = ℕ} 0 2 → ⊥ = λ h. absurd (omega (arith, h)) in
    let z03 : ◌≡◌ {A = ℕ} 0 3 → ⊥ = λ h. absurd (omega (arith, h)) in
    let z04 : ◌≡◌ {A = ℕ} 0 4 → ⊥ = λ h. absurd (omega (arith, h)) in
    let z05 : ◌≡◌ {A = ℕ} 0 5 → ⊥ = λ h. absurd (omega (arith, h)) in
    let z12 : ◌≡◌ {A = ℕ} 1 2 → ⊥ = λ h. absurd (omega (arith, h)) in
    let z13 : ◌≡◌ {A = ℕ} 1 3 → ⊥ = λ h. absurd (omega (arith, h)) in
    let z14 : ◌≡◌ {A = ℕ} 1 4 → ⊥ = λ h. absurd (omega (arith, h)) in
    let z15 : ◌≡◌ {A = ℕ} 1 5 → ⊥ = λ h. absurd (omega (arith, h)) in
    let z23 : ◌≡◌ {A = ℕ} 2 3 → ⊥ = λ h. absurd (omega (arith, h)) in
    let z24 : ◌≡◌ {A = ℕ} 2 4 → ⊥ = λ h. absurd (omega (arith, h)) in
    let z25 : ◌≡◌ {A = ℕ} 2 5 → ⊥ = λ h. absurd (omega (arith, h)) in
    let z34 : ◌≡◌ {A = ℕ} 3 4 → ⊥ = λ h. absurd (omega (arith, h)) in
    let z35 : ◌≡◌ {A = ℕ} 3 5 → ⊥ = λ h. absurd (omega (arith, h)) in
    let z45 : ◌≡◌ {A = ℕ} 4 5 → ⊥ = λ h. absurd (omega (arith, h)) in (
      ⊎_elim (apart_numbers Id Z2 z01)
          (⊎_elim (apart_numbers Id Z3 z02)
          (⊎_elim (apart_numbers Id Xz2 z03)
          (⊎_elim (apart_numbers Id Xz3 z04) (no_attribute Id 0 n z05)))),
      (
        ⊎_elim (apart_numbers Z2 Z3 z12)
            (⊎_elim (apart_numbers Z2 Xz2 z13)
            (⊎_elim (apart_numbers Z2 Xz3 z14) (no_attribute Z2 0 n z15))),
        (
          ⊎_elim (apart_numbers Z3 Xz2 z23)
              (⊎_elim (apart_numbers Z3 Xz3 z24) (no_attribute Z3 0 n z25)),
          (
            ⊎_elim (apart_numbers Xz2 Xz3 z34) (no_attribute Xz2 0 n z35),
            (no_attribute Xz3 0 n z45, attributes_once 0 n),
          ),
        ),
      ),
    )

-- ---- keys
kept_once : (f : IndexKind → Option (List ℕ)) (test : IndexKind → Bool) (kinds : List IndexKind)
    → ((j k : IndexKind) (key : List ℕ) → f j ≡ Some key → f k ≡ Some key → j ≡ k) → NoneTwice kinds
    → are_distinct (filter_map f (filter test kinds)) ≡ true
kept_once f test [] apart once = refl
kept_once f test (k ∷ kinds) apart once =
    let rest = kept_once f test kinds apart once.1 in
    let others = filter_map f (filter test kinds) in
    elim (test k) as
    (λ t. are_distinct (filter_map f (cond t (k ∷ filter test kinds) (filter test kinds)))
    ≡ true) [
      | true ↦ elim (f k) as (λ o. f k ≡ o → are_distinct (cons_option o others) ≡ true) [
        | None ↦ λ _. rest
        | Some key ↦ λ is. and_from (not (has_key key others)) (are_distinct others)
            (ap not (false_of_never (has_key key others) (λ has.
            let at = kept_out f test kinds key (in_keys key others has) in
            once.0 (subst (λ j. In j kinds) (apart at.0 k key at.2 is) at.3)))) rest
      ] refl
      | false ↦ rest
    ]

pub keys_distinct : Keys → (t : Specification) (f : Feature) → IsType t → Fits t f
    → are_distinct (keys_of t f) ≡ true
unfolding enabled_indexes
keys_distinct keys t f typed fits =
    kept_once (λ k. key_of t k f) (has_index t) (all_indexes t)
    (λ j k key is is'. (keys t t j k f f key typed typed fits fits is is').1) (all_once t)

keys_of_rows : (keys : List (List ℕ)) (bytes : List ℕ)
    → map key_of_row (rows_with keys bytes) ≡ keys
keys_of_rows [] bytes = refl
keys_of_rows (k ∷ keys) bytes = ap (λ rest. k ∷ rest) (keys_of_rows keys bytes)

pub some_keys_distinct : Keys → (t : Specification) (o : Option Feature) → IsType t
    → ForSome o (Fits t) → are_distinct (keys_at t o) ≡ true
some_keys_distinct keys t None typed fits = refl
some_keys_distinct keys t (Some f) typed fits = keys_distinct keys t f typed (fits f refl)

pub put_keys : (t : Specification) (new : Option Feature)
    → map key_of_row (puts_of t new) ≡ keys_at t new
put_keys t None = refl
put_keys t (Some f) = keys_of_rows (keys_of t f) _

pub batch_distinct : Keys → (t : Specification) (old new : Option Feature) → IsType t
    → ForSome old (Fits t) → ForSome new (Fits t)
    → are_distinct (removes_of t old new ++ map key_of_row (puts_of t new)) ≡ true
batch_distinct keys t old new typed fits fits' =
    let test = λ (k : List ℕ). not (has_key k (keys_at t new)) in
    ap (λ x. are_distinct (removes_of t old new ++ x)) (put_keys t new)
    ∙ distinct_append (removes_of t old new) (keys_at t new)
    (distinct_filter test (keys_at t old) (some_keys_distinct keys t old typed fits))
    (some_keys_distinct keys t new typed fits')
    (λ k member. false_of_not _ (in_filter test (keys_at t old) k member).0)

-- ---- the parts of a change
pub distinct_as : Keys
    → (t : Specification) (old new : Option Feature) (removes : List (List ℕ)) (puts : List Row)
    → IsType t → ForSome old (Fits t) → ForSome new (Fits t)
    → removes ≡ removes_of t old new → puts ≡ puts_of t new
    → are_distinct (removes ++ map key_of_row puts) ≡ true
distinct_as keys t old new removes puts typed fits fits' is is' =
    (λ i. are_distinct (is i ++ map key_of_row (is' i)))
    ∙ batch_distinct keys t old new typed fits fits'

-- without a new feature all old keys go
pub all_go : (olds : List (List ℕ)) → filter (λ key. not (has_key key [])) olds ≡ olds
all_go [] = refl
all_go (k ∷ olds) = ap (λ rest. k ∷ rest) (all_go olds)
