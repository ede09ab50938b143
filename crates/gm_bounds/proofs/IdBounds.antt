-- The identifiers of a filter are in order, and that of a feature of which it is true is among
-- them.
use Rattle.std.proofs.Common.{◌≡◌, Bool, true, false, List, [], ◌∷◌, sym, ap, ◌∙◌, true≢false, inl}
use Rattle.std.proofs.Common.{inr, cond, subst}
use Rattle.std.proofs.lemmas.Bool.{or_cases, or_left, or_right}
use Rattle.std.specs.Prelude.{filter}
use Rattle.std.specs.List.{list_any}
use Rattle.std.specs.Cmp.Lexicographic.{bytes_decides}
use Rattle.std.specs.Str.{bytes_eq}
use Rattle.gm_base.specs.Identifier.{is_identifier}
use Rattle.gm_types.specs.Specification.{Specification}
use Rattle.gm_feature.specs.declared.feature.Feature.{Feature}
use Rattle.gm_filter.specs.Suitability.{Suits}
use Rattle.gm_filter.specs.Tree.{Tree, Trees, include, exclude, negated, all, any, compare, between}
use Rattle.gm_filter.specs.Tree.{like, one_of, is_null, ids, bbox, intersects, disjoint, within}
use Rattle.gm_filter.specs.Tree.{during, before, after, tequals, no_trees, tree_and}
use Rattle.gm_filter.specs.Truth.{is_true}
use Rattle.gm_bounds.specs.declared.bound.Bound.{Bound}
use Rattle.gm_bounds.specs.declared.bound.Bound.TheVariants.{World, Listed}
use Rattle.gm_bounds.specs.Bound.{bound_of, all_of, any_of}
use Rattle.gm_bounds.specs.Found.{IsFound}
use Rattle.gm_bounds.specs.Identifiers.{is_among, common, id_test, id_rules, ids_of, sorted_bound}
use Rattle.gm_bounds.specs.Identifiers.{IsRisingBound}
use Rattle.gm_bounds.specs.Lists.{both}
use Rattle.gm_bounds.proofs.InOrder.{Bytes}
use Rattle.gm_bounds.proofs.Risings.{rising_none, rising_sorted, rising_common, among_sorted}
use Rattle.gm_bounds.proofs.Sound.{IsSoundFor, found}

pub rising_both : (b c : Bound Bytes) → IsRisingBound b → IsRisingBound c
    → IsRisingBound (both common b c)
rising_both World c h g = g
rising_both (Listed xs) World h g = h
rising_both (Listed xs) (Listed ys) h g = rising_common xs ys h

rising_counted : (b : Bound Bytes) → IsRisingBound (sorted_bound b)
rising_counted World = tt
rising_counted (Listed xs) = rising_sorted xs

mutual
  pub rising_of : (t : Tree) → IsRisingBound (bound_of id_rules t)
  rising_of include = tt
  rising_of exclude = rising_none
  rising_of (negated t) = tt
  rising_of (all ts) = rising_all ts World tt
  rising_of (any ts) = rising_counted (any_of id_rules (Listed []) ts)
  rising_of (compare a op l) = tt
  rising_of (between a low high) = tt
  rising_of (like a pattern) = tt
  rising_of (one_of a literals) = tt
  rising_of (is_null a) = tt
  rising_of (ids texts) = rising_sorted (filter is_identifier texts)
  rising_of (bbox a b) = tt
  rising_of (intersects a g) = tt
  rising_of (disjoint a g) = tt
  rising_of (within a g) = tt
  rising_of (during a low high) = tt
  rising_of (before a at) = tt
  rising_of (after a at) = tt
  rising_of (tequals a at) = tt

  rising_all : (ts : Trees) (b : Bound Bytes) → IsRisingBound b
      → IsRisingBound (all_of id_rules b ts)
  rising_all no_trees b h = h
  rising_all (tree_and t ts) b h =
      rising_all ts (both common b (bound_of id_rules t))
      (rising_both b (bound_of id_rules t) h (rising_of t))

pub rising_next : (b : Bound Bytes) (t : Tree) → b ≡ bound_of id_rules t → IsRisingBound b
rising_next b t is = subst IsRisingBound (sym is) (rising_of t)

pub rising_now : (b next now : Bound Bytes) (t : Tree) → IsRisingBound b
    → next ≡ bound_of id_rules t → now ≡ both common b next → IsRisingBound now
rising_now b next now t h is step =
    subst IsRisingBound (sym step) (rising_both b next h (rising_next next t is))

-- ---- found

kept_among : (p : Bytes → Bool) (id : Bytes) (xs : List Bytes) → p id ≡ true
    → list_any (bytes_eq id) xs ≡ true → list_any (bytes_eq id) (filter p xs) ≡ true
kept_among p id [] passes h = absurd (true≢false (sym h))
kept_among p id (x ∷ xs) passes h = elim (or_cases (bytes_eq id x) (list_any (bytes_eq id) xs) h) [
  | inl here ↦ kept_first (p x) (ap p (sym ((bytes_decides id x).0 here)) ∙ passes) here
  | inr there ↦ kept_later (p x) (kept_among p id xs passes there)
]
  where
    kept_first : (b : Bool) → b ≡ true → bytes_eq id x ≡ true
        → list_any (bytes_eq id) (cond b (x ∷ filter p xs) (filter p xs)) ≡ true
    kept_first true e same = or_left _ _ same
    kept_first false e same = absurd (true≢false (sym e))

    kept_later : (b : Bool) → list_any (bytes_eq id) (filter p xs) ≡ true
        → list_any (bytes_eq id) (cond b (x ∷ filter p xs) (filter p xs)) ≡ true
    kept_later true e = or_right (bytes_eq id x) _ e
    kept_later false e = e

module _ (s : Specification) (f : Feature) (is : is_identifier f.id ≡ true) where
  tests_found : (t : Tree) → Suits s t → is_true f t ≡ true → IsFound (bytes_eq f.id) (id_test t)
  tests_found (ids texts) h e =
      among_sorted (filter is_identifier texts) f.id ∙ kept_among is_identifier f.id texts is e
  tests_found _ h e = tt

  rules_sound : IsSoundFor s f (bytes_eq f.id) id_rules
  rules_sound = record {
    tests = tests_found;
    meets = λ xs ys h g. kept_among (is_among ys) f.id xs g h;
    counts = λ xs h. among_sorted xs f.id ∙ h;
  }

  pub found_in_ids : (t : Tree) → Suits s t → is_true f t ≡ true
      → IsFound (bytes_eq f.id) (ids_of t)
  found_in_ids t suit e = found s f (bytes_eq f.id) id_rules rules_sound t suit e
