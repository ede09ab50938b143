-- What is collected of features, by their identifiers.
use Rattle.std.proofs.Common.{◌≡◌, ℕ, Bool, true, false, true≢false, cond, ◌||◌, inl, inr, ⊎_elim}
use Rattle.std.proofs.Common.{List, [], ◌∷◌, ◌++◌, Option, Some, None, refl, sym, ap, subst, ◌∙◌}
use Rattle.std.specs.Prelude.{if◌then◌else◌}
use Rattle.std.specs.List.{AllByRecursion, list_any}
use Rattle.std.specs.Ordering.{nat_cmp, match_ordering, eq_by_cmp, is_eq}
use Rattle.std.specs.Cmp.{Equal-is, tied_itself}
use Rattle.std.specs.Cmp.Lexicographic.{slice_cmp, nat_list_cmp_total}
use Rattle.std.specs.declared.cmp.Ordering.{Ordering}
use Rattle.std.specs.declared.cmp.Ordering.TheVariants.{Less, Equal, Greater}
use Rattle.std.specs.BTreeMap.{insert_entry}
use Rattle.std.specs.FinMap as map_of
use Rattle.std.proofs.lemmas.List.{nil_from_length}
use Rattle.std.specs.FinMap.{len-empty, len-entries, find, put, get-entries, get-insert}
use Rattle.std.specs.FinMap.{entries-insert, slice_cmp-IsAntisymmetric, nat_cmp-IsAntisymmetric}
use Rattle.std.specs.FinMap.Entries.{by_order}
use Rattle.gm_base.proofs.Options.{same_some, none_some}
use Rattle.gm_base.proofs.Lists.{each_as}
use Rattle.gm_base.proofs.Booleans.{true_or_false, or_true}
use Rattle.gm_feature.specs.declared.feature.Feature.{Feature}
use Rattle.gm_feature.specs.declared.value.Value.{Value}
use Rattle.gm_filter.specs.Tree.{Tree}
use Rattle.gm_filter.specs.Truth.{is_true}
use Rattle.gm_engine_rows.specs.State.{State, feature_at}
use Rattle.gm_program.specs.Collecting.{Collected, collected, values_if, Collects}
use Rattle.gm_program.specs.Found.{IsAmong, IsTrueOf, Finds}

abbrev pub is_key : List ℕ → List ℕ → Bool
is_key = eq_by_cmp (slice_cmp nat_cmp)

pub same_key : (a b : List ℕ) → is_key a b ≡ true → a ≡ b
same_key a b is = slice_cmp-IsAntisymmetric nat_cmp-IsAntisymmetric a b ((Equal-is _).0 is)

pub key_itself : (a : List ℕ) → is_key a a ≡ true
key_itself a = ap is_eq (tied_itself nat_list_cmp_total a)

-- values by identifiers
abbrev pub Held : Type 0
Held = map_of.FinMap (slice_cmp nat_cmp) (List Value)

-- ---- features put one after the other
same_order : {A : Type 0} (r : Ordering) (a b c : A) → match_ordering r a b c ≡ by_order r a b c
same_order Less a b c = refl
same_order Equal a b c = refl
same_order Greater a b c = refl

pub insert_put : {V : Type 0} (es : List (List ℕ × V)) (id : List ℕ) (v : V)
    → insert_entry (slice_cmp nat_cmp) es id v ≡ put (slice_cmp nat_cmp) id v es
insert_put [] id v = refl
insert_put (e ∷ es) id v =
    ap (λ rest. match_ordering (slice_cmp nat_cmp id e.0) ((id, v) ∷ e ∷ es) ((e.0, v) ∷ es)
    (e ∷ rest)) (insert_put es id v)
    ∙ same_order (slice_cmp nat_cmp id e.0) ((id, v) ∷ e ∷ es) ((e.0, v) ∷ es)
    (e ∷ put (slice_cmp nat_cmp) id v es)

abbrev pub all_in : Held → List Feature → Held
all_in held [] = held
all_in held (f ∷ fs) = all_in (map_of.insert held f.id f.values) fs

pub collected-more : (es : Collected) (fs : List Feature) (f : Feature)
    → collected es (fs ++ f ∷ []) ≡ insert_entry (slice_cmp nat_cmp) (collected es fs) f.id f.values
collected-more es [] f = refl
collected-more es (g ∷ fs) f =
    collected-more (insert_entry (slice_cmp nat_cmp) es g.id g.values) fs f

pub collected_is : (held : Held) (fs : List Feature)
    → collected (map_of.entries held) fs ≡ map_of.entries (all_in held fs)
collected_is held [] = refl
collected_is held (f ∷ fs) =
    ap (λ es. collected es fs)
    (insert_put (map_of.entries held) f.id f.values
    ∙ sym (entries-insert nat_list_cmp_total held f.id f.values))
    ∙ collected_is (map_of.insert held f.id f.values) fs

at_insert : (held : Held) (id q : List ℕ) (v : List Value) (t : Bool) → is_key q id ≡ t
    → map_of.get (map_of.insert held id v) q ≡ cond t (Some v) (map_of.get held q)
at_insert held id q v t is =
    get-insert nat_list_cmp_total held id v q ∙ ap (λ b. cond b (Some v) (map_of.get held q)) is

-- each of these with that identifier has these values
abbrev Agree : List ℕ → List Value → List Feature → Type 0
Agree id v fs = AllByRecursion (λ f. f.id ≡ id → f.values ≡ v) fs

-- what is there stays there
stays : (id : List ℕ) (v : List Value) (held : Held) (fs : List Feature) → Agree id v fs
    → map_of.get held id ≡ Some v → map_of.get (all_in held fs) id ≡ Some v
stays id v held [] agree at = at
stays id v held (f ∷ fs) agree at = stays id v (map_of.insert held f.id f.values) fs agree.1 (⊎_elim
    (λ same. at_insert held f.id id f.values true same
    ∙ ap (λ w. Some w) (agree.0 (sym (same_key id f.id same))))
    (λ apart. at_insert held f.id id f.values false apart ∙ at)
    (true_or_false (is_key id f.id)))

-- what is put is there
is_put : (f : Feature) (held : Held) (fs : List Feature) → Agree f.id f.values fs → IsAmong f fs
    → map_of.get (all_in held fs) f.id ≡ Some f.values
is_put f held [] agree among = absurd among
is_put f held (g ∷ fs) agree (inl same) =
    stays f.id f.values (map_of.insert held g.id g.values) fs agree.1
    (subst (λ (h : Feature). map_of.get (map_of.insert held h.id h.values) f.id ≡ Some f.values)
    same (at_insert held f.id f.id f.values true (key_itself f.id)))
is_put f held (g ∷ fs) agree (inr later) =
    is_put f (map_of.insert held g.id g.values) fs agree.1 later

-- and where none has the identifier nothing changes
not_put : (id : List ℕ) (held : Held) (fs : List Feature) → AllByRecursion (λ f. f.id ≡ id → ⊥) fs
    → map_of.get (all_in held fs) id ≡ map_of.get held id
not_put id held [] none = refl
not_put id held (f ∷ fs) none =
    not_put id (map_of.insert held f.id f.values) fs none.1
    ∙ ⊎_elim
    (λ same. absurd (none.0 (sym (same_key id f.id same))))
    (λ apart. at_insert held f.id id f.values false apart)
    (true_or_false (is_key id f.id))

-- ---- what a part adds
any_more : (f : Feature) (tests : List Tree) (test : Tree)
    → list_any (λ t. is_true f t) (tests ++ test ∷ [])
    ≡ (list_any (λ t. is_true f t) tests || is_true f test)
any_more f [] test = elim (is_true f test) as (λ b. (b || false) ≡ b) [ true ↦ refl | false ↦ refl ]
any_more f (t ∷ tests) test =
    elim (is_true f t) as
    (λ b. (b || list_any (λ u. is_true f u) (tests ++ test ∷ []))
    ≡ ((b || list_any (λ u. is_true f u) tests) || is_true f test)) [
      | true ↦ refl
      | false ↦ any_more f tests test
    ]

either_false : (a : Bool) → (a || false) ≡ a
either_false true = refl
either_false false = refl

-- each feature stands at its own identifier
abbrev pub AreNamed : State → ℕ → Type 0
AreNamed s n = (id : List ℕ) (f : Feature) → feature_at n id s ≡ Some f → f.id ≡ id

next_at : (s : State) (n : ℕ) (tests : List Tree) (test : Tree) (fs : List Feature) (held : Held)
    → AreNamed s n → Finds s n test fs
    → ((id : List ℕ) → map_of.get held id ≡ values_if tests (feature_at n id s)) → (id : List ℕ)
    → map_of.get (all_in held fs) id ≡ values_if (tests ++ test ∷ []) (feature_at n id s)
next_at s n tests test fs held are_named finds at id =
    elim (feature_at n id s) as
    (λ o. feature_at n id s ≡ o
    → map_of.get (all_in held fs) id ≡ values_if (tests ++ test ∷ []) o) [
      | None ↦ λ none.
          not_put id held fs
          (each_as fs (λ f true_of same. none_some f
          (sym none ∙ ap (λ (i : List ℕ). feature_at n i s) (sym same) ∙ true_of.held))
          finds.sound)
          ∙ at id ∙ ap (values_if tests) none
      | Some f ↦ λ bound.
          let named : f.id ≡ id = are_named id f bound in
          let alone : (g : Feature) → IsTrueOf s n test g → g.id ≡ id → g ≡ f =
          λ g true_of same. same_some g f
          (sym true_of.held ∙ ap (λ (i : List ℕ). feature_at n i s) same ∙ bound) in
          ⊎_elim
          (λ passes.
          let here : map_of.get (all_in held fs) f.id ≡ Some f.values =
          is_put f held fs
          (each_as fs (λ g true_of same. ap (λ (h : Feature). h.values)
          (alone g true_of (same ∙ named))) finds.sound)
          (finds.whole f
          (record {
            held = ap (λ (i : List ℕ). feature_at n i s) named ∙ bound;
            passes = passes;
          })) in
          ap (map_of.get (all_in held fs)) (sym named) ∙ here
          ∙ ap (λ b. if b then Some f.values else None)
          (sym (any_more f tests test ∙ ap (λ b. list_any (λ t. is_true f t) tests || b) passes
          ∙ or_true _)))
          (λ fails.
          not_put id held fs
          (each_as fs (λ g true_of same. true≢false
          (sym true_of.passes ∙ ap (λ (h : Feature). is_true h test) (alone g true_of same)
          ∙ fails)) finds.sound)
          ∙ at id ∙ ap (values_if tests) bound
          ∙ ap (λ b. if b then Some f.values else None)
          (sym (any_more f tests test ∙ ap (λ b. list_any (λ t. is_true f t) tests || b) fails
          ∙ either_false _)))
          (true_or_false (is_true f test))
    ] refl

-- before the first part nothing is collected
nothing_at : (o : Option Feature) → None ≡ values_if [] o
nothing_at None = refl
nothing_at (Some f) = refl

no_entries : (held : Held) → map_of.entries held ≡ [] → (id : List ℕ) → map_of.get held id ≡ None
no_entries held none id = get-entries held id ∙ ap (find (slice_cmp nat_cmp) id) none

pub collects_none : (s : State) (n : ℕ) (es : Collected) → es ≡ [] → Collects s n [] es
collects_none s n es none =
    let held : Held = map_of.empty {R = slice_cmp nat_cmp} in
    let empty : map_of.entries held ≡ [] =
    nil_from_length (map_of.entries held)
    (sym (len-entries held) ∙ len-empty (slice_cmp nat_cmp) (List Value)) in
    record {
      values = held;
      entries = none ∙ sym empty;
      at = λ id. no_entries held empty id ∙ nothing_at (feature_at n id s);
    }

-- and after a part what it finds is
pub collects_more : (s : State) (n : ℕ) (tests : List Tree) (test : Tree) (fs : List Feature)
    (es after : Collected) → AreNamed s n → Finds s n test fs
    → Collects s n tests es → after ≡ collected es fs → Collects s n (tests ++ test ∷ []) after
collects_more s n tests test fs es after are_named finds before is = record {
  values = all_in before.values fs;
  entries = is ∙ ap (λ held. collected held fs) before.entries ∙ collected_is before.values fs;
  at = next_at s n tests test fs before.values are_named finds before.at;
}
