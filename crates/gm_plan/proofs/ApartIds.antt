-- The spans of identifiers that are listed in order, each once.
use Rattle.std.proofs.Common.{◌≡◌, ℕ, Bool, true, false, List, [], ◌∷◌, ◌++◌, map, filter, cond}
use Rattle.std.proofs.Common.{refl, sym, ap, ◌∙◌, Some, subst, append-nil}
use Rattle.std.specs.Prelude.{nat_eq}
use Rattle.std.specs.List.{AllByRecursion, flat_map, range_with_len}
use Rattle.std.proofs.lemmas.Cmp.{nat_list_cmp_total}
use Rattle.std.proofs.lemmas.Map.Text.{is_eq-slice_cmp}
use Rattle.std.specs.Ordering.{nat_cmp, is_eq}
use Rattle.std.specs.declared.cmp.Ordering.{Ordering}
use Rattle.std.specs.declared.cmp.Ordering.TheVariants.{Less, Equal, Greater}
use Rattle.std.specs.Cmp.Lexicographic.{slice_cmp, pointwise}
use Rattle.gm_base.specs.Spans.{Span}
use Rattle.gm_lexi.specs.Ends.{is_from_to}
use Rattle.gm_table.specs.Sorted.{is_within}
use Rattle.gm_filter.specs.Tree.{Tree, include, exclude, negated, all, any, compare, between, like}
use Rattle.gm_filter.specs.Tree.{one_of, is_null, ids, bbox, intersects, disjoint, within, during}
use Rattle.gm_filter.specs.Tree.{before, after, tequals}
use Rattle.gm_base.specs.Identifier.{is_identifier}
use Rattle.gm_bounds.specs.declared.bound.Bound.{Bound}
use Rattle.gm_bounds.specs.declared.bound.Bound.TheVariants.{World, Listed}
use Rattle.gm_bounds.specs.declared.ranges.Range.{Range}
use Rattle.gm_bounds.specs.declared.ranges.Range.TheVariants as range
use Rattle.gm_bounds.specs.Identifiers.{is_among, put, put_by, sorted_once, id_test}
use Rattle.gm_bounds.specs.Identifiers.{id_rules, ids_of}
use Rattle.gm_plan.specs.KeyRanges.{id_ranges}
use Rattle.gm_plan.specs.Spans.{span_behind, spans_in}
use Rattle.gm_plan.proofs.ApartBounds.{IsOf, of_tree}
use Rattle.gm_plan.proofs.ApartSpans.{C, turned, Excludes, lows, AreExclusive}

-- each is below all that follow it
abbrev pub Rises : List (List ℕ) → Type 0
Rises [] = Unit {0}
Rises (x ∷ xs) = AllByRecursion (λ y. C x y ≡ Less) xs × Rises xs

below_all : (x y : List ℕ) (ys : List (List ℕ)) → C x y ≡ Less
    → AllByRecursion (λ z. C y z ≡ Less) ys → AllByRecursion (λ z. C x z ≡ Less) ys
below_all x y [] h g = tt
below_all x y (z ∷ ys) h g = (nat_list_cmp_total.trans x y z h g.0, below_all x y ys h g.1)

behind_by : (o : Ordering) (w x y : List ℕ) (ys more : List (List ℕ)) → C w x ≡ Less → C w y ≡ Less
    → AllByRecursion (λ z. C w z ≡ Less) ys → AllByRecursion (λ z. C w z ≡ Less) more
    → AllByRecursion (λ z. C w z ≡ Less) (put_by o x y ys more)
behind_by Less w x y ys more h g every rest = (h, (g, every))
behind_by Equal w x y ys more h g every rest = (g, every)
behind_by Greater w x y ys more h g every rest = (g, rest)

behind : (w x : List ℕ) (ys : List (List ℕ)) → C w x ≡ Less → AllByRecursion (λ z. C w z ≡ Less) ys
    → AllByRecursion (λ z. C w z ≡ Less) (put x ys)
behind w x [] h every = (h, tt)
behind w x (y ∷ ys) h every =
    behind_by (C x y) w x y ys (put x ys) h every.0 every.1 (behind w x ys h every.1)

put_rises_by : (o : Ordering) (x y : List ℕ) (ys : List (List ℕ)) → C x y ≡ o → Rises (y ∷ ys)
    → Rises (put x ys) → Rises (put_by o x y ys (put x ys))
put_rises_by Less x y ys e h rest = ((e, below_all x y ys e h.0), h)
put_rises_by Equal x y ys e h rest = h
put_rises_by Greater x y ys e h rest = (behind y x ys (turned x y Greater e) h.0, rest)

put_rises : (x : List ℕ) (ys : List (List ℕ)) → Rises ys → Rises (put x ys)
put_rises x [] h = (tt, tt)
put_rises x (y ∷ ys) h = put_rises_by (C x y) x y ys refl h (put_rises x ys h.1)

sorted_rises : (xs : List (List ℕ)) → Rises (sorted_once xs)
sorted_rises [] = tt
sorted_rises (x ∷ xs) = put_rises x (sorted_once xs) (sorted_rises xs)

cond_all : (P : List ℕ → Type 0) (b : Bool) (x : List ℕ) (xs : List (List ℕ)) → P x
    → AllByRecursion P xs → AllByRecursion P (cond b (x ∷ xs) xs)
cond_all P true x xs h g = (h, g)
cond_all P false x xs h g = g

filter_all : (P : List ℕ → Type 0) (test : List ℕ → Bool) (xs : List (List ℕ)) → AllByRecursion P xs
    → AllByRecursion P (filter test xs)
filter_all P test [] h = tt
filter_all P test (x ∷ xs) h = cond_all P (test x) x (filter test xs) h.0 (filter_all P test xs h.1)

cond_rises : (b : Bool) (x : List ℕ) (xs : List (List ℕ)) → AllByRecursion (λ y. C x y ≡ Less) xs
    → Rises xs → Rises (cond b (x ∷ xs) xs)
cond_rises true x xs h g = (h, g)
cond_rises false x xs h g = g

filter_rises : (test : List ℕ → Bool) (xs : List (List ℕ)) → Rises xs → Rises (filter test xs)
filter_rises test [] h = tt
filter_rises test (x ∷ xs) h =
    cond_rises (test x) x (filter test xs) (filter_all (λ y. C x y ≡ Less) test xs h.0)
    (filter_rises test xs h.1)

test_rises : (t : Tree) → IsOf Rises (id_test t)
test_rises include = tt
test_rises exclude = tt
test_rises (negated t) = tt
test_rises (all ts) = tt
test_rises (any ts) = tt
test_rises (compare a op l) = tt
test_rises (between a low high) = tt
test_rises (like a pattern) = tt
test_rises (one_of a literals) = tt
test_rises (is_null a) = tt
test_rises (ids texts) = sorted_rises (filter is_identifier texts)
test_rises (bbox a b) = tt
test_rises (intersects a g) = tt
test_rises (disjoint a g) = tt
test_rises (within a g) = tt
test_rises (during a low high) = tt
test_rises (before a at) = tt
test_rises (after a at) = tt
test_rises (tequals a at) = tt

ids_rise : (t : Tree) → IsOf Rises (ids_of t)
ids_rise t = of_tree id_rules Rises (λ xs. Unit {0}) (record {
  test = test_rises;
  none = tt;
  met = λ xs ys h g. filter_rises (is_among ys) xs h;
  weaker = λ xs h. tt;
  joined = λ xs ys h g. tt;
  counted = λ xs h. sorted_rises xs;
}) t

-- ---- their spans
pub record OneLaws : Type 0 where
  pub one : (key other : List ℕ)
      → is_from_to key (Some (key ++ 0 ∷ [])) other ≡ pointwise nat_eq key other
  pub shared : (front a b : List ℕ)
      → slice_cmp nat_cmp (front ++ a) (front ++ b) ≡ slice_cmp nat_cmp a b

module _ (laws : OneLaws) (prefix : List ℕ) (shard : ℕ) where
  not_in : (x y : List ℕ) (o : Ordering) → C x y ≡ o → is_eq o ≡ false
      → is_within (prefix ++ x) ((prefix ++ x) ++ 0 ∷ []) (prefix ++ y) ≡ false
  not_in x y o e h =
      laws.one (prefix ++ x) (prefix ++ y) ∙ sym (is_eq-slice_cmp (prefix ++ x) (prefix ++ y))
      ∙ ap is_eq (laws.shared prefix x y ∙ e) ∙ h

  ids_apart : (x y : List ℕ) → C x y ≡ Less
      → Excludes (span_behind prefix shard (range.OneId x))
      (span_behind prefix shard (range.OneId y))
  ids_apart x y h =
      lows (span_behind prefix shard (range.OneId x)) (span_behind prefix shard (range.OneId y))
      (not_in x y Less h refl) (not_in y x Greater (turned x y Less h) refl)

  id_and_more : (x : List ℕ) (xs : List (List ℕ)) → AllByRecursion (λ y. C x y ≡ Less) xs
      → AllByRecursion (λ s. Excludes (span_behind prefix shard (range.OneId x)) s)
      (spans_in prefix (map (λ id. range.OneId id) xs) shard)
  id_and_more x [] h = tt
  id_and_more x (y ∷ xs) h = (ids_apart x y h.0, id_and_more x xs h.1)

  listed_exclusive : (xs : List (List ℕ)) → Rises xs
      → AreExclusive (spans_in prefix (map (λ id. range.OneId id) xs) shard)
  listed_exclusive [] h = tt
  listed_exclusive (x ∷ xs) h = (id_and_more x xs h.0, listed_exclusive xs h.1)

  bound_exclusive : (b : Bound (List ℕ)) → IsOf Rises b
      → AreExclusive (spans_in prefix (id_ranges b) shard)
  bound_exclusive World h = (tt, tt)
  bound_exclusive (Listed xs) h = listed_exclusive xs h

-- of the one shard
pub one_shard : (f : ℕ → List Span) → AreExclusive (f 0)
    → AreExclusive (flat_map f (range_with_len 0 1))
one_shard f h = subst (λ (spans : List Span). AreExclusive spans) (sym (append-nil (f 0))) h

pub all_ids : OneLaws → (prefix : List ℕ) (t : Tree)
    → AreExclusive (flat_map (spans_in prefix (id_ranges (ids_of t))) (range_with_len 0 1))
all_ids laws prefix t =
    one_shard (spans_in prefix (id_ranges (ids_of t)))
    (bound_exclusive laws prefix 0 (ids_of t) (ids_rise t))
