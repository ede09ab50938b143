-- What suits a type may be tried on what fits the type.
use Rattle.std.proofs.Common.{◌≡◌, ℕ, zero, suc, ◌<◌, Bool, true, ◌&&◌, List, [], ◌∷◌, length}
use Rattle.std.proofs.Common.{get_or, refl, sym, ap, arith, true≢false}
use Rattle.std.proofs.lemmas.Bool.{and_parts}
use Rattle.std.specs.Prelude.{int_le}
use Rattle.std.specs.List.{slice_get}
use Rattle.gm_base.proofs.Numbers.{le_from}
use Rattle.gm_base.proofs.Options.{none_is}
use Rattle.gm_geom.specs.declared.point.Box2.{Box2}
use Rattle.gm_geom.specs.Validity.{fault_of, is_in_world}
use Rattle.gm_types.specs.declared.kind.Kind.{Kind}
use Rattle.gm_types.specs.Specification.{Specification, kinds_of, kind_at}
use Rattle.gm_feature.specs.declared.value.Value.{Value}
use Rattle.gm_feature.specs.declared.value.Value.TheVariants as value
use Rattle.gm_feature.specs.declared.feature.Feature.{Feature}
use Rattle.gm_feature.specs.Feature.{Fits, values_fit, value_at}
use Rattle.gm_feature.specs.Value.{value_fits, is_of_kind, is_sound}
use Rattle.gm_filter.specs.Suitability.{suits, all_suit, Suits, passes_kind, is_box, is_kept}
use Rattle.gm_filter.specs.Suitability.{has_area}
use Rattle.gm_filter.specs.Tree.{Tree, Trees, include, exclude, negated, all, any, compare, between}
use Rattle.gm_filter.specs.Tree.{like, one_of, is_null, ids, bbox, intersects, disjoint, within}
use Rattle.gm_filter.specs.Tree.{during, before, after, tequals, no_trees, tree_and}
use Rattle.gm_filter.specs.Trial.{MayTry, MayTryAll, IsKeptValue, IsRisingBox, HasPlace}

pub kind_there : (test : Kind → Bool) (ks : List Kind) (a : ℕ)
    → passes_kind test (slice_get ks a) ≡ true → a < length ks
kind_there test [] a h = absurd (true≢false (sym h))
kind_there test (k ∷ ks) zero h = omega arith
kind_there test (k ∷ ks) (suc a) h = let there = kind_there test ks a h in omega arith

pub as_many : (ks : List Kind) (vs : List Value) → values_fit ks vs ≡ true → length ks ≡ length vs
as_many [] [] h = refl
as_many [] (v ∷ vs) h = absurd (true≢false (sym h))
as_many (k ∷ ks) [] h = absurd (true≢false (sym h))
as_many (k ∷ ks) (v ∷ vs) h = ap (λ n. suc n) (as_many ks vs (and_parts (value_fits k v) _ h).1)

pub kept_where_sound : (v : Value) → is_sound v ≡ true → IsKeptValue v
kept_where_sound value.Null h = tt
kept_where_sound (value.Text t) h = tt
kept_where_sound (value.Integer z) h = tt
kept_where_sound (value.Long z) h = tt
kept_where_sound (value.Boolean b) h = tt
kept_where_sound (value.Date at) h = tt
kept_where_sound (value.Geo g) h = none_is (fault_of g) h

pub sound_at : (ks : List Kind) (vs : List Value) (a : ℕ) → values_fit ks vs ≡ true
    → is_sound (get_or vs a value.Null) ≡ true
sound_at [] [] a h = refl
sound_at [] (v ∷ vs) a h = absurd (true≢false (sym h))
sound_at (k ∷ ks) [] a h = absurd (true≢false (sym h))
sound_at (k ∷ ks) (v ∷ vs) zero h =
    (and_parts (is_of_kind k v) _ (and_parts (value_fits k v) _ h).0).1
sound_at (k ∷ ks) (v ∷ vs) (suc a) h = sound_at ks vs a (and_parts (value_fits k v) _ h).1

pub rising : (b : Box2) → is_box b ≡ true → IsRisingBox b
rising b h = let parts =
    and_parts (int_le b.low.x b.high.x) _
    (and_parts (is_in_world b.low && is_in_world b.high) _ h).1 in
    (le_from b.low.x b.high.x parts.0, le_from b.low.y b.high.y parts.1)

module _ (s : Specification) (f : Feature) (fits : Fits s f) where
  there : (test : Kind → Bool) (a : ℕ) → passes_kind test (kind_at s a) ≡ true → HasPlace f a
  there test a h =
      omega (arith, kind_there test (kinds_of s) a h, as_many (kinds_of s) f.values fits.each)

  kept_at : (a : ℕ) → IsKeptValue (value_at f a)
  kept_at a = kept_where_sound (value_at f a) (sound_at (kinds_of s) f.values a fits.each)

  mutual
    pub may_try : (t : Tree) → Suits s t → MayTry f t
    may_try include h = tt
    may_try exclude h = tt
    may_try (negated t) h = may_try t h
    may_try (all ts) h = may_try_all ts (and_parts _ (all_suit s ts) h).1
    may_try (any ts) h = may_try_all ts (and_parts _ (all_suit s ts) h).1
    may_try (compare a op l) h = there _ a h
    may_try (between a low high) h = there _ a h
    may_try (like a pattern) h = there _ a (and_parts _ (passes_kind _ (kind_at s a)) h).1
    may_try (one_of a literals) h = there _ a (and_parts _ (passes_kind _ (kind_at s a)) h).1
    may_try (is_null a) h = there _ a h
    may_try (ids texts) h = tt
    may_try (bbox a b) h =
        (there _ a (and_parts (is_box b) _ h).1, (kept_at a, rising b (and_parts (is_box b) _ h).0))
    may_try (intersects a g) h = (
      there _ a (and_parts (is_kept g) _ h).1,
      (kept_at a, none_is (fault_of g) (and_parts (is_kept g) _ h).0),
    )
    may_try (disjoint a g) h = (
      there _ a (and_parts (is_kept g) _ h).1,
      (kept_at a, none_is (fault_of g) (and_parts (is_kept g) _ h).0),
    )
    may_try (within a g) h = there _ a (and_parts (has_area g && is_kept g) _ h).1
    may_try (during a low high) h = there _ a (and_parts _ (passes_kind _ (kind_at s a)) h).1
    may_try (before a at) h = there _ a (and_parts _ (passes_kind _ (kind_at s a)) h).1
    may_try (after a at) h = there _ a (and_parts _ (passes_kind _ (kind_at s a)) h).1
    may_try (tequals a at) h = there _ a (and_parts _ (passes_kind _ (kind_at s a)) h).1

    pub may_try_all : (ts : Trees) → all_suit s ts ≡ true → MayTryAll f ts
    may_try_all no_trees h = tt
    may_try_all (tree_and t ts) h = let parts = and_parts (suits s t) _ h in
        (may_try t parts.0, may_try_all ts parts.1)
