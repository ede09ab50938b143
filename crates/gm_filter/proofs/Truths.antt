-- When filters are true.
use Rattle.std.proofs.Common.{◌≡◌, ℕ, Bool, false, ◌&&◌, ◌||◌, List, [], ◌∷◌, refl, ap, Some}
use Rattle.std.specs.List.{list_all, list_any}
use Rattle.gm_feature.specs.declared.feature.Feature.{Feature}
use Rattle.gm_feature.specs.declared.value.Value.{Value}
use Rattle.gm_feature.specs.declared.value.Value.TheVariants as value
use Rattle.gm_feature.specs.Feature.{value_at}
use Rattle.gm_filter.specs.declared.filter.Op.TheVariants.{Eq, Lt, Gt}
use Rattle.gm_filter.specs.declared.filter.Literal.{Literal}
use Rattle.gm_filter.specs.declared.filter.Literal.TheVariants as literal
use Rattle.gm_shapes.specs.Meeting.{box_area}
use Rattle.gm_filter.specs.Comparison.{compares}
use Rattle.gm_filter.specs.Tested.{tested_of}
use Rattle.gm_filter.specs.Tree.{Tree, Trees, include, exclude, negated, all, any, compare, between}
use Rattle.gm_filter.specs.Tree.{like, one_of, is_null, ids, bbox, intersects, disjoint, within}
use Rattle.gm_filter.specs.Tree.{during, before, after, tequals, no_trees, tree_and, members_of}
use Rattle.gm_filter.specs.Truth.{is_true, are_all_true, is_any_true, is_one_of, lies_between}
use Rattle.gm_filter.specs.Truth.{lies_during, is_text_like, meets, is_apart, is_within}

pub all_members : (f : Feature) (ts : Trees)
    → are_all_true f ts ≡ list_all (is_true f) (members_of ts)
all_members f no_trees = refl
all_members f (tree_and t ts) = ap (λ b. is_true f t && b) (all_members f ts)

pub any_member : (f : Feature) (ts : Trees)
    → is_any_true f ts ≡ list_any (is_true f) (members_of ts)
any_member f no_trees = refl
any_member f (tree_and t ts) = ap (λ b. is_true f t || b) (any_member f ts)

null_one_of : (literals : List Literal) → is_one_of value.Null literals ≡ false
null_one_of [] = refl
null_one_of (l ∷ literals) = null_one_of literals

-- what is false of null is false where the value is null
at_null : (f : Feature) (a b : ℕ) (test : Value → Bool) → test value.Null ≡ false → Some b ≡ Some a
    → value_at f a ≡ value.Null → test (value_at f b) ≡ false
at_null f a b test none same null = let place : b ≡ a = cc in rw (place, null) none

pub null_fails : (f : Feature) (t : Tree) (a : ℕ) → tested_of t ≡ Some a → value_at f a ≡ value.Null
    → is_true f t ≡ false
null_fails f include a h null = cc
null_fails f exclude a h null = cc
null_fails f (negated t) a h null = cc
null_fails f (all ts) a h null = cc
null_fails f (any ts) a h null = cc
null_fails f (compare b op l) a h null = at_null f a b (λ v. compares op v l) refl h null
null_fails f (between b low high) a h null =
    at_null f a b (λ v. lies_between v low high) refl h null
null_fails f (like b pattern) a h null = at_null f a b (is_text_like pattern) refl h null
null_fails f (one_of b literals) a h null =
    at_null f a b (λ v. is_one_of v literals) (null_one_of literals) h null
null_fails f (is_null b) a h null = cc
null_fails f (ids texts) a h null = cc
null_fails f (bbox b box) a h null = at_null f a b (λ v. meets v (box_area box)) refl h null
null_fails f (intersects b g) a h null = at_null f a b (λ v. meets v g) refl h null
null_fails f (disjoint b g) a h null = at_null f a b (λ v. is_apart v g) refl h null
null_fails f (within b g) a h null = at_null f a b (λ v. is_within v g) refl h null
null_fails f (during b low high) a h null =
    at_null f a b (λ v. lies_during v (literal.Date low) (literal.Date high)) refl h null
null_fails f (before b at) a h null =
    at_null f a b (λ v. compares Lt v (literal.Date at)) refl h null
null_fails f (after b at) a h null =
    at_null f a b (λ v. compares Gt v (literal.Date at)) refl h null
null_fails f (tequals b at) a h null =
    at_null f a b (λ v. compares Eq v (literal.Date at)) refl h null
