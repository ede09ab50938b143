-- The keys of a feature, one index after the other.
use Rattle.std.proofs.Common.{◌≡◌, ℕ, zero, suc, ◌+◌, Bool, true, false, cond, List, [], ◌∷◌, ◌++◌}
use Rattle.std.proofs.Common.{append_assoc, append-nil, filter, filter_map, flat_map}
use Rattle.std.proofs.Common.{option_to_list, Option, Some, None, refl, ap, ◌∙◌, arith}
use Rattle.std.specs.Prelude.{if◌then◌else◌}
use Rattle.std.specs.List.{cons_option}
use Rattle.std.proofs.lemmas.List.Concat.{flat_map-append}
use Rattle.gm_types.specs.declared.index.IndexKind.{IndexKind}
use Rattle.gm_types.specs.declared.index.IndexKind.TheVariants.{Attr}
use Rattle.gm_types.specs.Index.{has_index, attribute_indexes, all_indexes, enabled_indexes}
use Rattle.gm_types.specs.Specification.{Specification}
use Rattle.gm_feature.specs.declared.feature.Feature.{Feature}
use Rattle.gm_keys.specs.Key.{key_of, keys_in, keys_of}

-- one attribute more
attribute_indexes-more : (from n : ℕ)
    → attribute_indexes from (suc n) ≡ attribute_indexes from n ++ Attr (from + n) ∷ []
attribute_indexes-more from zero = let same : from ≡ from + 0 = omega arith in
    ap (λ (k : ℕ). Attr k ∷ []) same
attribute_indexes-more from (suc n) =
    let same : from + 1 + n ≡ from + suc n = omega arith in
    ap (λ rest. Attr from ∷ rest)
    (attribute_indexes-more (from + 1) n
    ∙ ap (λ (k : ℕ). attribute_indexes (from + 1) n ++ Attr k ∷ []) same)

pub keys_more : (f : IndexKind → List (List ℕ)) (n : ℕ)
    → flat_map f (attribute_indexes 0 (n + 1)) ≡ flat_map f (attribute_indexes 0 n) ++ f (Attr n)
keys_more f n =
    let next : n + 1 ≡ suc n = omega arith in
    let same : 0 + n ≡ n = omega arith in
    ap (λ (k : ℕ). flat_map f (attribute_indexes 0 k)) next
    ∙ ap (flat_map f) (attribute_indexes-more 0 n)
    ∙ flat_map-append f (attribute_indexes 0 n) (Attr (0 + n) ∷ [])
    ∙ ap (λ (k : ℕ). flat_map f (attribute_indexes 0 n) ++ (f (Attr k) ++ [])) same
    ∙ ap (λ x. flat_map f (attribute_indexes 0 n) ++ x) (append-nil (f (Attr n)))

-- those of the kinds that pass a test
pub of_kept : {K V : Type 0} (f : K → Option V) (test : K → Bool) (kinds : List K)
    → filter_map f (filter test kinds)
    ≡ flat_map (λ kind. if test kind then option_to_list (f kind) else []) kinds
of_kept f test [] = refl
of_kept f test (k ∷ kinds) =
    elim (test k) as (λ t. filter_map f (cond t (k ∷ filter test kinds) (filter test kinds))
    ≡ (if t then option_to_list (f k) else [])
    ++ flat_map (λ kind. if test kind then option_to_list (f kind) else []) kinds) [
      | true ↦ by (f k) (of_kept f test kinds)
      | false ↦ of_kept f test kinds
    ]
  where
    by : {V : Type 0} {xs ys : List V} (o : Option V) → xs ≡ ys
        → cons_option o xs ≡ option_to_list o ++ ys
    by None same = same
    by (Some v) same = ap (λ rest. v ∷ rest) same

pub keys_as_parts : (t : Specification) (f : Feature)
    → keys_of t f ≡ flat_map (λ kind. keys_in t kind f) (all_indexes t)
unfolding enabled_indexes
keys_as_parts t f = of_kept (λ kind. key_of t kind f) (has_index t) (all_indexes t)

-- appended one after the other
pub all_keys : (a b c d e g : List (List ℕ))
    → ((((([] ++ a) ++ b) ++ c) ++ d) ++ e) ++ g ≡ a ++ (b ++ (c ++ (d ++ (e ++ g))))
all_keys a b c d e g = simp append_assoc
