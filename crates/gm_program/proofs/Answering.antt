-- That what is collected is the answer.
use Rattle.std.proofs.Common.{◌≡◌, ℕ, Bool, true, false, cond, T, ⊎_elim, List, [], ◌∷◌, filter}
use Rattle.std.proofs.Common.{map, length, Option, Some, None, refl, sym, ap, subst, ◌∙◌, arith}
use Rattle.std.specs.Prelude.{if◌then◌else◌}
use Rattle.std.specs.List.{AllByRecursion, list_any}
use Rattle.std.specs.Ordering.{nat_cmp, is_eq, is_lt}
use Rattle.std.specs.declared.cmp.Ordering.{Ordering}
use Rattle.std.specs.declared.cmp.Ordering.TheVariants.{Less, Equal, Greater}
use Rattle.std.specs.Cmp.{tied_itself}
use Rattle.std.specs.Cmp.Lexicographic.{slice_cmp, nat_list_cmp_total}
use Rattle.std.specs.FinMap as map_of
use Rattle.std.specs.FinMap.{find, is_sorted, entries_sorted, get-entries}
use Rattle.std.specs.FinMap.{slice_cmp-IsAntisymmetric, nat_cmp-IsAntisymmetric}
use Rattle.std.specs.FinMap.Entries.{below_all, same_entries}
use Rattle.gm_base.proofs.Booleans.{true_or_false}
use Rattle.gm_base.proofs.Lists.{each_as}
use Rattle.gm_base.proofs.Booleans.{both_from-T, both_of-T}
use Rattle.gm_feature.specs.declared.feature.Feature.{Feature}
use Rattle.gm_feature.specs.declared.value.Value.{Value}
use Rattle.gm_filter.specs.Tree.{Tree}
use Rattle.gm_filter.specs.Truth.{is_true}
use Rattle.gm_engine_rows.specs.State.{State, features_of, feature_at}
use Rattle.gm_program.specs.Collecting.{Collected, feature_of, values_if, Collects}
use Rattle.gm_program.specs.Question.{answer}
use Rattle.gm_program.proofs.Collected.{is_key, same_key, key_itself, AreNamed}

abbrev pub Entry : Type 0
Entry = List ℕ × Feature

-- ---- the entries of which a test is true, with their values
abbrev pub passing : (Feature → Bool) → List Entry → Collected
passing test [] = []
passing test (e ∷ es) = cond (test e.1) ((e.0, e.1.values) ∷ passing test es) (passing test es)

abbrev values_where : (Feature → Bool) → Option Feature → Option (List Value)
values_where test None = None
values_where test (Some f) = if test f then Some f.values else None

below_passing : (test : Feature → Bool) (key : List ℕ) (es : List Entry)
    → T (below_all (slice_cmp nat_cmp) key es)
    → T (below_all (slice_cmp nat_cmp) key (passing test es))
below_passing test key [] below = tt
below_passing test key (e ∷ es) below =
    let h = both_of-T _ _ below in
    let rest = below_passing test key es h.1 in
    elim (test e.1) as
    (λ t. T (below_all (slice_cmp nat_cmp) key
    (cond t ((e.0, e.1.values) ∷ passing test es) (passing test es))))
    [ true ↦ both_from-T _ _ h.0 rest | false ↦ rest ]

pub sorted_passing : (test : Feature → Bool) (es : List Entry)
    → T (is_sorted (slice_cmp nat_cmp) es) → T (is_sorted (slice_cmp nat_cmp) (passing test es))
sorted_passing test [] sorted = tt
sorted_passing test (e ∷ es) sorted =
    let h = both_of-T _ _ sorted in
    let rest = sorted_passing test es h.1 in
    elim (test e.1) as
    (λ t. T (is_sorted (slice_cmp nat_cmp)
    (cond t ((e.0, e.1.values) ∷ passing test es) (passing test es))))
    [ true ↦ both_from-T _ _ (below_passing test e.0 es h.0) rest | false ↦ rest ]

pub less_not_key : (a b : List ℕ) → T (is_lt (slice_cmp nat_cmp a b)) → is_key a b ≡ false
less_not_key a b = by (slice_cmp nat_cmp a b)
  where
    by : (r : Ordering) → T (is_lt r) → is_eq r ≡ false
    by Less h = refl
    by Equal h = absurd h
    by Greater h = absurd h

not_same : (a b : List ℕ) → (a ≡ b → ⊥) → is_key a b ≡ false
not_same a b apart =
    ⊎_elim (λ is. absurd (apart (same_key a b is))) (λ isnt. isnt) (true_or_false (is_key a b))

absent : (key : List ℕ) (es : List Entry) → T (below_all (slice_cmp nat_cmp) key es)
    → find (slice_cmp nat_cmp) key es ≡ None
absent key [] below = refl
absent key (e ∷ es) below =
    let h = both_of-T _ _ below in
    ap (λ t. cond t (Some e.1) (find (slice_cmp nat_cmp) key es)) (less_not_key key e.0 h.0)
    ∙ absent key es h.1

find_passing : (test : Feature → Bool) (key : List ℕ) (es : List Entry)
    → T (is_sorted (slice_cmp nat_cmp) es)
    → find (slice_cmp nat_cmp) key (passing test es)
    ≡ values_where test (find (slice_cmp nat_cmp) key es)
find_passing test key [] sorted = refl
find_passing test key (e ∷ es) sorted =
    let h = both_of-T (below_all (slice_cmp nat_cmp) e.0 es)
    (is_sorted (slice_cmp nat_cmp) es) sorted in
    let rest = find_passing test key es h.1 in
    ⊎_elim
    (λ same.
    let none : find (slice_cmp nat_cmp) key es ≡ None =
    subst (λ k. find (slice_cmp nat_cmp) k es ≡ None) (sym (same_key key e.0 same))
    (absent e.0 es h.0) in
    let left : find (slice_cmp nat_cmp) key (passing test (e ∷ es)) ≡ values_where test (Some e.1) =
    elim (test e.1) as
    (λ t. find (slice_cmp nat_cmp) key
    (cond t ((e.0, e.1.values) ∷ passing test es) (passing test es))
    ≡ cond t (Some e.1.values) None) [
      | true ↦ ap (λ t. cond t (Some e.1.values) (find (slice_cmp nat_cmp) key (passing test es)))
          same
      | false ↦ rest ∙ ap (values_where test) none
    ] in
    let right : find (slice_cmp nat_cmp) key (e ∷ es) ≡ Some e.1 =
    ap (λ t. cond t (Some e.1) (find (slice_cmp nat_cmp) key es)) same in
    let last : values_where test (Some e.1)
    ≡ values_where test (find (slice_cmp nat_cmp) key (e ∷ es)) =
    λ i. values_where test (sym right i) in
    left ∙ last)
    (λ apart.
    let past : find (slice_cmp nat_cmp) key ((e.0, e.1.values) ∷ passing test es)
    ≡ find (slice_cmp nat_cmp) key (passing test es) =
    ap (λ t. cond t (Some e.1.values) (find (slice_cmp nat_cmp) key (passing test es)))
    apart in
    let left : find (slice_cmp nat_cmp) key (passing test (e ∷ es))
    ≡ values_where test (find (slice_cmp nat_cmp) key es) =
    elim (test e.1) as
    (λ t. find (slice_cmp nat_cmp) key
    (cond t ((e.0, e.1.values) ∷ passing test es) (passing test es))
    ≡ values_where test (find (slice_cmp nat_cmp) key es)) [
      | true ↦ past ∙ rest
      | false ↦ rest
    ] in
    let right : find (slice_cmp nat_cmp) key (e ∷ es) ≡ find (slice_cmp nat_cmp) key es =
    ap (λ t. cond t (Some e.1) (find (slice_cmp nat_cmp) key es)) apart in
    let last : values_where test (find (slice_cmp nat_cmp) key es)
    ≡ values_where test (find (slice_cmp nat_cmp) key (e ∷ es)) =
    λ i. values_where test (sym right i) in
    left ∙ last)
    (true_or_false (is_key key e.0))

-- ---- as features again
pub features_passing : (test : Feature → Bool) (es : List Entry)
    → AllByRecursion (λ e. e.1.id ≡ e.0) es
    → map feature_of (passing test es) ≡ filter test (map (λ e. e.1) es)
features_passing test [] named = refl
features_passing test (e ∷ es) named =
    let rest = features_passing test es named.1 in
    let here : feature_of (e.0, e.1.values) ≡ e.1 =
    λ i. record { id = sym named.0 i; values = e.1.values } in
    elim (test e.1) as
    (λ t. map feature_of (cond t ((e.0, e.1.values) ∷ passing test es) (passing test es))
    ≡ cond t (e.1 ∷ filter test (map (λ x. x.1) es)) (filter test (map (λ x. x.1) es))) [
      | true ↦ λ i. here i ∷ rest i
      | false ↦ rest
    ]

-- each entry is found at its key
below_itself : (a : List ℕ) → T (is_lt (slice_cmp nat_cmp a a)) → ⊥
below_itself a below = subst (λ r. T (is_lt r)) (tied_itself nat_list_cmp_total a) below

found_past : {V : Type 0} (e : List ℕ × V) (all es : List (List ℕ × V))
    → T (below_all (slice_cmp nat_cmp) e.0 es)
    → AllByRecursion (λ x. find (slice_cmp nat_cmp) x.0 all ≡ Some x.1) es
    → AllByRecursion (λ x. find (slice_cmp nat_cmp) x.0 (e ∷ all) ≡ Some x.1) es
found_past e all [] below each = tt
found_past e all (x ∷ es) below each =
    let h = both_of-T _ _ below in
    let apart : is_key x.0 e.0 ≡ false =
    not_same x.0 e.0
    (λ same. below_itself e.0
    (subst (λ k. T (is_lt (slice_cmp nat_cmp e.0 k))) same h.0)) in (
      ap (λ t. cond t (Some e.1) (find (slice_cmp nat_cmp) x.0 all)) apart
          ∙ each.0,
      found_past e all es h.1 each.1,
    )

pub each_found : {V : Type 0} (es : List (List ℕ × V)) → T (is_sorted (slice_cmp nat_cmp) es)
    → AllByRecursion (λ x. find (slice_cmp nat_cmp) x.0 es ≡ Some x.1) es
each_found [] sorted = tt
each_found (e ∷ es) sorted =
    let h = both_of-T _ _ sorted in (
      ap (λ t. cond t (Some e.1) (find (slice_cmp nat_cmp) e.0 es)) (key_itself e.0),
      found_past e es es h.0 (each_found es h.1),
    )

pub entries_named : (s : State) (n : ℕ) → AreNamed s n
    → AllByRecursion (λ e. e.1.id ≡ e.0) (map_of.entries (features_of n s))
entries_named s n are_named =
    each_as (map_of.entries (features_of n s))
    (λ e at. are_named e.0 e.1 (get-entries (features_of n s) e.0 ∙ at))
    (each_found (map_of.entries (features_of n s)) (entries_sorted (features_of n s)))

-- one test in the place of several
as_one : (tests : List Tree) (test : Feature → Bool)
    → ((f : Feature) → test f ≡ list_any (λ t. is_true f t) tests) → (o : Option Feature)
    → values_if tests o ≡ values_where test o
as_one tests test same None = refl
as_one tests test same (Some f) = ap (λ b. if b then Some f.values else None) (sym (same f))

pub answer_is : (s : State) (n : ℕ) (tests : List Tree) (wanted : Tree) (es : Collected)
    → AreNamed s n → Collects s n tests es
    → ((f : Feature) → is_true f wanted ≡ list_any (λ t. is_true f t) tests)
    → map feature_of es ≡ answer n wanted s
answer_is s n tests wanted es are_named collects same =
    let test = λ (f : Feature). is_true f wanted in
    let held = map_of.entries (features_of n s) in
    let is : map_of.entries collects.values ≡ passing test held =
    same_entries (slice_cmp nat_cmp) nat_list_cmp_total
    (slice_cmp-IsAntisymmetric nat_cmp-IsAntisymmetric) (map_of.entries collects.values)
    (passing test held)
    (entries_sorted collects.values) (sorted_passing test held (entries_sorted (features_of n s)))
    (λ id. sym (get-entries collects.values id) ∙ collects.at id
    ∙ as_one tests test same (feature_at n id s)
    ∙ ap (values_where test) (get-entries (features_of n s) id)
    ∙ sym (find_passing test id held (entries_sorted (features_of n s)))) in
    ap (map feature_of) (collects.entries ∙ is)
    ∙ features_passing test held (entries_named s n are_named)

pub length-map : {A B : Type 0} (f : A → B) (xs : List A) → length (map f xs) ≡ length xs
length-map f [] = refl
length-map f (x ∷ xs) = let rest = length-map f xs in omega (arith, rest)

-- and how many features it has
pub answer_length : (s : State) (n : ℕ) (tests : List Tree) (wanted : Tree) (es : Collected)
    → AreNamed s n → Collects s n tests es
    → ((f : Feature) → is_true f wanted ≡ list_any (λ t. is_true f t) tests)
    → length es ≡ length (answer n wanted s)
answer_length s n tests wanted es are_named collects same =
    sym (length-map feature_of es)
    ∙ ap length (answer_is s n tests wanted es are_named collects same)
