-- What a change makes of a state and of its rows.
use Rattle.std.proofs.Common.{◌≡◌, ℕ, zero, suc, Bool, true, false, true≢false, cond, not}
use Rattle.std.proofs.Common.{◌&&◌, ◌||◌, ◌⊎◌, inl, inr, ⊎_elim, List, [], ◌∷◌, ◌++◌}
use Rattle.std.proofs.Common.{map, filter, length, Option, Some, None, refl, sym, ap, subst, ◌∙◌}
use Rattle.std.specs.Prelude.{slice_get, if◌then◌else◌}
use Rattle.std.specs.Option.{ForSome}
use Rattle.std.specs.List.{flat_map}
use Rattle.std.specs.Ordering.{nat_cmp}
use Rattle.std.specs.Cmp.Lexicographic.{slice_cmp, nat_list_cmp_total}
use Rattle.std.proofs.lemmas.Bool.{cases_eq}
use Rattle.std.specs.FinMap as features
use Rattle.std.specs.FinMap.{get-insert, get-remove, get-empty, len-empty, len-entries}
use Rattle.gm_base.proofs.Options.{same_some, none_some}
use Rattle.gm_base.proofs.Booleans.{and_false, and_true, no_length}
use Rattle.gm_table.specs.Batch.{has_key, put_at, applied_at}
use Rattle.gm_table.specs.Sorted.{at_key}
use Rattle.gm_types.specs.FeatureType.{IsType}
use Rattle.gm_types.specs.Specification.{Specification}
use Rattle.gm_types.specs.Words.{are_distinct as are_apart}
use Rattle.gm_feature.specs.declared.feature.Feature.{Feature}
use Rattle.gm_feature.specs.Writer.{feature_bytes}
use Rattle.gm_keys.specs.Key.{keys_of}
use Rattle.gm_engine_rows.specs.State.{Features, State, IsState, IsPlaced, IsHeld}
use Rattle.gm_engine_rows.specs.State.{types_of, type_at, features_of, feature_at, set_at}
use Rattle.gm_engine_rows.specs.State.{changed_in, with_type}
use Rattle.gm_engine_rows.specs.Rows.{IsRow, rows_of_feature, rows_of_type, all_rows, row_map}
use Rattle.gm_engine_rows.specs.Rows.{rows_of}
use Rattle.gm_engine_rows.specs.Change.{keys_at, rows_with, removes_of, puts_of}
use Rattle.gm_engine_rows.proofs.Members.{In, is_key, same_key, key_itself, not_key}
use Rattle.gm_engine_rows.proofs.Members.{same_or_not, in_keys, has_in}
use Rattle.gm_engine_rows.proofs.RowLaws.{Keys, Entries, key_out, key_in, same_owner}
use Rattle.gm_engine_rows.proofs.RowLaws.{stands_out, stands_in}

-- ---- the state after a change
pub same_types : (n : ℕ) (id : List ℕ) (new : Option Feature) (s : State)
    → types_of (changed_in n id new s) ≡ types_of s
same_types n id new [] = refl
same_types zero id new (c ∷ s) = refl
same_types (suc n) id new (c ∷ s) = ap (λ types. c.specification ∷ types) (same_types n id new s)

pub set_here : (held : Features) (id : List ℕ) (new : Option Feature)
    → features.get (set_at held id new) id ≡ new
set_here held id None =
    get-remove nat_list_cmp_total held id id
    ∙ ap (λ t. cond t None (features.get held id)) (key_itself id)
set_here held id (Some f) =
    get-insert nat_list_cmp_total held id f id
    ∙ ap (λ t. cond t (Some f) (features.get held id)) (key_itself id)

pub set_elsewhere : (held : Features) (id i : List ℕ) (new : Option Feature) → (i ≡ id → ⊥)
    → features.get (set_at held id new) i ≡ features.get held i
set_elsewhere held id i None apart =
    get-remove nat_list_cmp_total held id i
    ∙ ap (λ t. cond t None (features.get held i)) (not_key i id apart)
set_elsewhere held id i (Some f) apart =
    get-insert nat_list_cmp_total held id f i
    ∙ ap (λ t. cond t (Some f) (features.get held i)) (not_key i id apart)

pub here : (n : ℕ) (id : List ℕ) (new : Option Feature) (s : State) (t : Specification)
    → type_at n s ≡ Some t → feature_at n id (changed_in n id new s) ≡ new
here n id new [] t at = cc
here zero id new (c ∷ s) t at = set_here c.features id new
here (suc n) id new (c ∷ s) t at = here n id new s t at

pub elsewhere : (m n : ℕ) (i id : List ℕ) (new : Option Feature) (s : State)
    → ((m ≡ n) × (i ≡ id) → ⊥) → feature_at m i (changed_in n id new s) ≡ feature_at m i s
elsewhere m n i id new [] apart = refl
elsewhere zero zero i id new (c ∷ s) apart =
    set_elsewhere c.features id i new (λ same. apart (refl, same))
elsewhere zero (suc n) i id new (c ∷ s) apart = refl
elsewhere (suc m) zero i id new (c ∷ s) apart = refl
elsewhere (suc m) (suc n) i id new (c ∷ s) apart =
    elsewhere m n i id new s (λ both. apart (ap suc both.0, both.1))

pub both_or_not : (m n : ℕ) (i id : List ℕ) → ((m ≡ n) × (i ≡ id)) ⊎ ((m ≡ n) × (i ≡ id) → ⊥)
both_or_not m n i id = ⊎_elim
    (λ same. ⊎_elim (λ same_id. inl (same, same_id)) (λ apart. inr (λ both. apart both.1))
    (same_or_not i id))
    (λ apart. inr (λ both. apart both.0))
    (cases_eq m n)

pub keeps_state : (s : State) (n : ℕ) (t : Specification) (id : List ℕ) (new : Option Feature)
    → IsState s → type_at n s ≡ Some t → ForSome new (IsHeld t id)
    → IsState (changed_in n id new s)
keeps_state s n t id new state typed fits =
    let types = same_types n id new s in
    record {
      placed = λ m u at. state.placed m u (sym (ap (λ x. slice_get x m) types) ∙ at);
      distinct = ap (λ x. are_apart (map (λ (u : Specification). u.name) x)) types ∙ state.distinct;
      held = λ m u i f at bound.
          let at' = sym (ap (λ x. slice_get x m) types) ∙ at in
          ⊎_elim
          (λ both.
          let type_is : t ≡ u =
          same_some t u (sym typed ∙ sym (ap (λ (k : ℕ). type_at k s) both.0) ∙ at') in
          let is_new : new ≡ Some f =
          sym (here n id new s t typed)
          ∙ sym (λ k. feature_at (both.0 k) (both.1 k) (changed_in n id new s)) ∙ bound in
          subst (λ v. IsHeld v i f) type_is
          (subst (λ k. IsHeld t k f) (sym both.1) (fits f is_new)))
          (λ apart. state.held m u i f at' (sym (elsewhere m n i id new s apart) ∙ bound))
          (both_or_not m n i id);
    }

-- ---- a change of keys
has_key-removes : (key : List ℕ) (olds news : List (List ℕ))
    → has_key key (filter (λ k. not (has_key k news)) olds)
    ≡ (has_key key olds && not (has_key key news))
has_key-removes key [] news = refl
has_key-removes key (k ∷ olds) news =
    elim (has_key k news) as
    (λ t. has_key k news ≡ t
    → has_key key (cond (not t) (k ∷ filter (λ k. not (has_key k news)) olds)
    (filter (λ k. not (has_key k news)) olds))
    ≡ ((is_key key k || has_key key olds) && not (has_key key news))) [
      | true ↦ λ e. elim (is_key key k) as
          (λ b. is_key key k ≡ b
          → has_key key (filter (λ k. not (has_key k news)) olds)
          ≡ ((b || has_key key olds) && not (has_key key news))) [
            | true ↦ λ is. has_key-removes key olds news
                ∙ ap (λ t. has_key key olds && not t)
                (ap (λ q. has_key q news) (same_key key k is) ∙ e)
                ∙ and_false (has_key key olds)
                ∙ sym (ap not (ap (λ q. has_key q news) (same_key key k is) ∙ e))
            | false ↦ λ _. has_key-removes key olds news
          ] refl
      | false ↦ λ e. elim (is_key key k) as
          (λ b. is_key key k ≡ b
          → (b || has_key key (filter (λ k. not (has_key k news)) olds))
          ≡ ((b || has_key key olds) && not (has_key key news))) [
            | true ↦ λ is. sym (ap not (ap (λ q. has_key q news) (same_key key k is) ∙ e))
            | false ↦ λ _. has_key-removes key olds news
          ] refl
    ] refl

put_at-puts : (key : List ℕ) (news : List (List ℕ)) (bytes : List ℕ) (before : Option (List ℕ))
    → put_at key (rows_with news bytes) before ≡ (if has_key key news then Some bytes else before)
put_at-puts key [] bytes before = refl
put_at-puts key (k ∷ news) bytes before =
    put_at-puts key news bytes (if is_key key k then Some bytes else before)
    ∙ either (is_key key k) (has_key key news)
  where
    either : (a b : Bool)
        → (if b then Some bytes else (if a then Some bytes else before))
        ≡ (if a || b then Some bytes else before)
    either true true = refl
    either true false = refl
    either false b = refl

-- what a change makes of a key that had `before`
abbrev pub made_at : Specification → Option Feature → Option Feature → List ℕ → Option (List ℕ)
    → Option (List ℕ)
made_at t old None key before = if has_key key (keys_at t old) then None else before
made_at t old (Some f) key before =
    if has_key key (keys_of t f) then Some (feature_bytes f)
    else (if has_key key (keys_at t old) then None else before)

pub made_is : (t : Specification) (old new : Option Feature) (key : List ℕ)
    (before : Option (List ℕ))
    → applied_at key (removes_of t old new) (puts_of t new) before ≡ made_at t old new key before
made_is t old None key before =
    ap (λ b. if b then None else before)
    (has_key-removes key (keys_at t old) [] ∙ and_true (has_key key (keys_at t old)))
made_is t old (Some f) key before =
    (λ i. if has_key-removes key (keys_at t old) (keys_of t f) i then None
    else put_at-puts key (keys_of t f) (feature_bytes f) before i)
    ∙ four (has_key key (keys_at t old)) (has_key key (keys_of t f))
  where
    four : (a b : Bool)
        → (if a && not b then None else (if b then Some (feature_bytes f) else before))
        ≡ (if b then Some (feature_bytes f) else (if a then None else before))
    four true true = refl
    four true false = refl
    four false true = refl
    four false false = refl

-- ---- the rows after a change
none_if : {A : Type 0} (o : Option A) → ((x : A) → o ≡ Some x → ⊥) → None ≡ o
none_if None never = refl
none_if (Some x) never = absurd (never x refl)

same_if : {A : Type 0} (o p : Option A) → ((x : A) → o ≡ Some x → p ≡ Some x)
    → ((x : A) → p ≡ Some x → o ≡ Some x) → o ≡ p
same_if None p there back = none_if p (λ x is. none_some x (back x is))
same_if (Some x) p there back = sym (there x refl)

-- the row that a feature has at one of its keys
pub its_row : (s : State) (n : ℕ) (t : Specification) (id : List ℕ) (f : Feature) (key : List ℕ)
    → type_at n s ≡ Some t → feature_at n id s ≡ Some f → In key (keys_of t f)
    → IsRow s key (feature_bytes f)
its_row s n t id f key typed held member =
    let at = key_out t f key member in
    record {
      number = n;
      specification = t;
      id = id;
      feature = f;
      index = at.0;
      typed = typed;
      held = held;
      enabled = at.1;
      keyed = at.2;
      same = refl;
    }

-- a row of the one owner is at one of the keys of the feature there
its_key : (s : State) (n : ℕ) (t : Specification) (id : List ℕ) (key bytes : List ℕ)
    → type_at n s ≡ Some t → (r : IsRow s key bytes) → r.number ≡ n → r.id ≡ id
    → has_key key (keys_at t (feature_at n id s)) ≡ true
its_key s n t id key bytes typed r number identifier =
    let type_is : r.specification ≡ t =
    same_some r.specification t (sym r.typed ∙ ap (λ (k : ℕ). type_at k s) number ∙ typed) in
    let held : feature_at n id s ≡ Some r.feature =
    sym (λ i. feature_at (number i) (identifier i) s) ∙ r.held in
    ap (λ o. has_key key (keys_at t o)) held
    ∙ ap (λ u. has_key key (keys_of u r.feature)) (sym type_is)
    ∙ has_in key (keys_of r.specification r.feature)
    (key_in r.specification r.feature r.index key r.enabled r.keyed)

-- a row of another owner is one of the other state too
other_row : (s s' : State) (n : ℕ) (id : List ℕ) (key bytes : List ℕ) → types_of s' ≡ types_of s
    → ((m : ℕ) (i : List ℕ) → ((m ≡ n) × (i ≡ id) → ⊥) → feature_at m i s' ≡ feature_at m i s)
    → (r : IsRow s key bytes) → ((r.number ≡ n) × (r.id ≡ id) → ⊥) → IsRow s' key bytes
other_row s s' n id key bytes types unchanged r apart = record {
  number = r.number;
  specification = r.specification;
  id = r.id;
  feature = r.feature;
  index = r.index;
  typed = ap (λ x. slice_get x r.number) types ∙ r.typed;
  held = unchanged r.number r.id apart ∙ r.held;
  enabled = r.enabled;
  keyed = r.keyed;
  same = r.same;
}

-- both states, and what is between them
pub record Step (s s' : State) (n : ℕ) (t : Specification) (id : List ℕ)
    (new : Option Feature) : Type 0 where
  pub state : IsState s
  pub state' : IsState s'
  pub types : types_of s' ≡ types_of s
  pub typed : type_at n s ≡ Some t
  pub typed' : type_at n s' ≡ Some t
  pub now : feature_at n id s' ≡ new
  pub unchanged : (m : ℕ) (i : List ℕ) → ((m ≡ n) × (i ≡ id) → ⊥)
      → feature_at m i s' ≡ feature_at m i s

-- a key of the old feature alone has no row afterwards
pub gone : Keys → Entries
    → (s s' : State) (n : ℕ) (t : Specification) (id : List ℕ) (new : Option Feature) (key : List ℕ)
    → Step s s' n t id new
    → has_key key (keys_at t (feature_at n id s)) ≡ true → has_key key (keys_at t new) ≡ false
    → None ≡ at_key key (rows_of s')
unfolding its_row
gone keys entries s s' n t id new key step old isnt = by (feature_at n id s) refl old
  where
    by : (o : Option Feature) → feature_at n id s ≡ o → has_key key (keys_at t o) ≡ true
        → None ≡ at_key key (rows_of s')
    by None held has = cc
    by (Some f) held has =
        let r = its_row s n t id f key step.typed held (in_keys key (keys_of t f) has) in
        none_if (at_key key (rows_of s')) (λ bytes at.
        let r' = stands_out entries s' key bytes at in
        let owner = same_owner keys s s' key (feature_bytes f) bytes step.types step.state
        step.state' r r' in
        true≢false (sym
        (its_key s' n t id key bytes step.typed' r' (sym owner.number) (sym owner.identifier))
        ∙ ap (λ o. has_key key (keys_at t o)) step.now ∙ isnt))

-- a key of neither has what it had
kept : Keys → Entries
    → (s s' : State) (n : ℕ) (t : Specification) (id : List ℕ) (new : Option Feature) (key : List ℕ)
    → Step s s' n t id new
    → has_key key (keys_at t (feature_at n id s)) ≡ false → has_key key (keys_at t new) ≡ false
    → at_key key (rows_of s) ≡ at_key key (rows_of s')
kept keys entries s s' n t id new key step old isnt =
    same_if (at_key key (rows_of s)) (at_key key (rows_of s'))
    (λ bytes at.
    let r = stands_out entries s key bytes at in
    stands_in keys entries s' key bytes step.state'
    (other_row s s' n id key bytes step.types step.unchanged r
    (λ both. true≢false (sym (its_key s n t id key bytes step.typed r both.0 both.1) ∙ old))))
    (λ bytes at.
    let r = stands_out entries s' key bytes at in
    stands_in keys entries s key bytes step.state
    (other_row s' s n id key bytes (sym step.types) (λ m i apart. sym (step.unchanged m i apart)) r
    (λ both. true≢false
    (sym (its_key s' n t id key bytes step.typed' r both.0 both.1)
    ∙ ap (λ o. has_key key (keys_at t o)) step.now ∙ isnt))))

pub follows : Keys → Entries
    → (s : State) (n : ℕ) (t : Specification) (id : List ℕ) (new : Option Feature) → IsState s
    → type_at n s ≡ Some t → ForSome new (IsHeld t id)
    → (key : List ℕ)
    → applied_at key (removes_of t (feature_at n id s) new) (puts_of t new) (at_key key (rows_of s))
    ≡ at_key key (rows_of (changed_in n id new s))
follows keys entries s n t id new state typed fits key =
    let s' = changed_in n id new s in
    let types = same_types n id new s in
    let step : Step s s' n t id new = record {
      state = state;
      state' = keeps_state s n t id new state typed fits;
      types = types;
      typed = typed;
      typed' = ap (λ x. slice_get x n) types ∙ typed;
      now = here n id new s t typed;
      unchanged = λ m i apart. elsewhere m n i id new s apart;
    } in
    made_is t (feature_at n id s) new key (at_key key (rows_of s)) ∙ by new step
  where
    by_old : (new' : Option Feature) → Step s (changed_in n id new s) n t id new'
        → has_key key (keys_at t new') ≡ false
        → (if has_key key (keys_at t (feature_at n id s)) then None else at_key key (rows_of s))
        ≡ at_key key (rows_of (changed_in n id new s))
    by_old new' step isnt =
        elim (has_key key (keys_at t (feature_at n id s))) as
        (λ b. has_key key (keys_at t (feature_at n id s)) ≡ b
        → (if b then None else at_key key (rows_of s))
        ≡ at_key key (rows_of (changed_in n id new s))) [
          | true ↦ λ is. gone keys entries s (changed_in n id new s) n t id new' key step is isnt
          | false ↦ λ is. kept keys entries s (changed_in n id new s) n t id new' key step is isnt
        ] refl

    by : (new' : Option Feature) → Step s (changed_in n id new s) n t id new'
        → made_at t (feature_at n id s) new' key (at_key key (rows_of s))
        ≡ at_key key (rows_of (changed_in n id new s))
    by None step = by_old None step refl
    by (Some f) step =
        elim (has_key key (keys_of t f)) as (λ b. has_key key (keys_of t f) ≡ b
        → (if b then Some (feature_bytes f)
        else (if has_key key (keys_at t (feature_at n id s)) then None
        else at_key key (rows_of s))) ≡ at_key key (rows_of (changed_in n id new s))) [
          | true ↦ λ is. sym
              (stands_in keys entries (changed_in n id new s) key (feature_bytes f) step.state'
              (its_row (changed_in n id new s) n t id f key step.typed' step.now
              (in_keys key (keys_of t f) is)))
          | false ↦ λ isnt. by_old (Some f) step isnt
        ] refl

same_features : (s : State) (t : Specification) (n : ℕ)
    → features_of n (with_type t s) ≡ features_of n s
same_features [] t zero = refl
same_features [] t (suc n) = refl
same_features (c ∷ s) t zero = refl
same_features (c ∷ s) t (suc n) = same_features s t n

type_of_more : (s : State) (t : Specification) (n : ℕ) (u : Specification)
    → type_at n (with_type t s) ≡ Some u → (type_at n s ≡ Some u) ⊎ ((n ≡ length s) × (t ≡ u))
type_of_more [] t zero u at = inr (refl, same_some t u at)
type_of_more [] t (suc n) u at = cc
type_of_more (c ∷ s) t zero u at = inl at
type_of_more (c ∷ s) t (suc n) u at =
    ⊎_elim (λ h. inl h) (λ h. inr (ap suc h.0, h.1)) (type_of_more s t n u at)

past_the_end : (s : State) → features_of (length s) s ≡ features.empty
past_the_end [] = refl
past_the_end (c ∷ s) = past_the_end s

no_entries : features.entries (features.empty {X = Feature} {R = slice_cmp nat_cmp}) ≡ []
no_entries = no_length (features.entries features.empty)
    (sym (len-entries (features.empty {X = Feature} {R = slice_cmp nat_cmp}))
    ∙ len-empty (slice_cmp nat_cmp) Feature)

same_all_rows : (s : State) (t : Specification) → all_rows (with_type t s) ≡ all_rows s
same_all_rows [] t = ap (λ es. flat_map (λ e. rows_of_feature t e.1) es ++ []) no_entries
same_all_rows (c ∷ s) t =
    ap (λ rows. rows_of_type c.specification c.features ++ rows) (same_all_rows s t)

pub no_new_rows : (s : State) (t : Specification) → rows_of (with_type t s) ≡ rows_of s
unfolding rows_of row_map
no_new_rows s t =
    ap (λ rows. features.entries {R = slice_cmp nat_cmp}
    (features.from_entries {R = slice_cmp nat_cmp} rows)) (same_all_rows s t)

pub with_type_is_state : (s : State) (t : Specification) → IsState s → IsType t
    → t.number ≡ length s
    → are_apart (map (λ (u : Specification). u.name) (types_of (with_type t s))) ≡ true
    → IsState (with_type t s)
with_type_is_state s t state typed numbered apart = record {
  placed = λ n u at. ⊎_elim (λ h. state.placed n u h)
      (λ h. subst (λ v. IsPlaced n v) h.1 (record { typed = typed; numbered = numbered ∙ sym h.0 }))
      (type_of_more s t n u at);
  distinct = apart;
  held = λ n u i f at bound.
      let bound' = sym (ap (λ (held : Features). features.get held i) (same_features s t n))
      ∙ bound in
      ⊎_elim (λ h. state.held n u i f h bound')
      (λ h. absurd (none_some f
      (sym (get-empty (slice_cmp nat_cmp) i)
      ∙ sym (ap (λ (held : Features). features.get held i)
      (ap (λ (k : ℕ). features_of k s) h.0 ∙ past_the_end s)) ∙ bound')))
      (type_of_more s t n u at);
}
