-- How many rows a state has after a change.
use Rattle.std.proofs.Common.{◌≡◌, ℕ, ◌+◌, Bool, true, false, true≢false, cond}
use Rattle.std.proofs.Common.{◌||◌, inl, inr, List, [], ◌∷◌, length, Option, Some, None, refl, sym}
use Rattle.std.proofs.Common.{ap, subst, ◌∙◌, arith}
use Rattle.std.specs.Prelude.{slice_get, is_some}
use Rattle.std.specs.Option.{ForSome}
use Rattle.std.specs.Cmp.Lexicographic.{nat_list_cmp_total}
use Rattle.std.specs.FinMap as features
use Rattle.std.specs.FinMap.{get-insert, get-remove, len-insert, len-entries, same_map}
use Rattle.std.specs.FinMap.{nat_cmp-IsAntisymmetric, slice_cmp-IsAntisymmetric}
use Rattle.std.proofs.lemmas.Bool.{and_parts}
use Rattle.gm_base.proofs.Booleans.{false_of_not}
use Rattle.gm_table.specs.Batch.{has_key, are_distinct}
use Rattle.gm_table.specs.Sorted.{RowMap, at_key}
use Rattle.gm_types.specs.Specification.{Specification}
use Rattle.gm_feature.specs.declared.feature.Feature.{Feature}
use Rattle.gm_feature.specs.Feature.{Fits}
use Rattle.gm_feature.specs.Writer.{feature_bytes}
use Rattle.gm_engine_rows.specs.State.{State, IsState, IsHeld, type_at, feature_at, changed_in}
use Rattle.gm_engine_rows.specs.Rows.{row_map, rows_of}
use Rattle.gm_engine_rows.specs.Change.{keys_at}
use Rattle.gm_engine_rows.proofs.Members.{In, is_key, in_keys, has_in, not_key}
use Rattle.gm_engine_rows.proofs.RowLaws.{Keys, Entries, stands_in}
use Rattle.gm_engine_rows.proofs.Changes.{Step, same_types, here, elsewhere, keeps_state, made_at}
use Rattle.gm_engine_rows.proofs.Changes.{made_is, its_row, gone, follows}
use Rattle.gm_engine_rows.proofs.Distinct.{some_keys_distinct}

-- ---- maps with and without some keys
abbrev without_keys : RowMap → List (List ℕ) → RowMap
without_keys m [] = m
without_keys m (k ∷ keys) = without_keys (features.remove m k) keys

abbrev with_keys : RowMap → List (List ℕ) → List ℕ → RowMap
with_keys m [] bytes = m
with_keys m (k ∷ keys) bytes = with_keys (features.insert m k bytes) keys bytes

either_way : {A : Type 0} (a b : Bool) (x y : A) → cond b x (cond a x y) ≡ cond (a || b) x y
either_way true true x y = refl
either_way true false x y = refl
either_way false b x y = refl

get-without : (m : RowMap) (keys : List (List ℕ)) (q : List ℕ)
    → features.get (without_keys m keys) q ≡ cond (has_key q keys) None (features.get m q)
get-without m [] q = refl
get-without m (k ∷ keys) q =
    get-without (features.remove m k) keys q
    ∙ ap (λ o. cond (has_key q keys) None o) (get-remove nat_list_cmp_total m k q)
    ∙ either_way (is_key q k) (has_key q keys) None (features.get m q)

get-with : (m : RowMap) (keys : List (List ℕ)) (bytes q : List ℕ)
    → features.get (with_keys m keys bytes) q
    ≡ cond (has_key q keys) (Some bytes) (features.get m q)
get-with m [] bytes q = refl
get-with m (k ∷ keys) bytes q =
    get-with (features.insert m k bytes) keys bytes q
    ∙ ap (λ o. cond (has_key q keys) (Some bytes) o) (get-insert nat_list_cmp_total m k bytes q)
    ∙ either_way (is_key q k) (has_key q keys) (Some bytes) (features.get m q)

-- distinct keys that a map has not
len-with : (m : RowMap) (keys : List (List ℕ)) (bytes : List ℕ) → are_distinct keys ≡ true
    → ((k : List ℕ) → In k keys → features.get m k ≡ None)
    → features.len (with_keys m keys bytes) ≡ features.len m + length keys
len-with m [] bytes once new = let is : features.len m ≡ features.len m + 0 = omega arith in is
len-with m (k ∷ keys) bytes once new =
    let parts = and_parts _ _ once in
    let more : features.len (features.insert m k bytes) ≡ features.len m + 1 =
    len-insert nat_list_cmp_total m k bytes
    ∙ ap (λ (o : Option (List ℕ)). cond (is_some o) (features.len m) (features.len m + 1))
    (new k (inl refl)) in
    let rest = len-with (features.insert m k bytes) keys bytes parts.1 (λ q member.
    get-insert nat_list_cmp_total m k bytes q
    ∙ ap (λ t. cond t (Some bytes) (features.get m q))
    (not_key q k (λ same. true≢false
    (sym (has_in k keys (subst (λ x. In x keys) same member)) ∙ false_of_not _ parts.0)))
    ∙ new q (inr member)) in
    omega (arith, rest, more)

-- ---- the rows of a state
abbrev bytes_at : Option Feature → List ℕ
bytes_at None = []
bytes_at (Some f) = feature_bytes f

get_is : Entries → (s : State) (key : List ℕ)
    → features.get (row_map s) key ≡ at_key key (rows_of s)
unfolding rows_of
get_is entries s key = sym (entries (row_map s) key)

count_is : (s : State) → length (rows_of s) ≡ features.len (row_map s)
unfolding rows_of
count_is s = sym (len-entries (row_map s))

abbrev rest_of : State → Specification → Option Feature → RowMap
rest_of s t old = without_keys (row_map s) (keys_at t old)

-- the rows are the rest and the rows of this feature
old_rows : Keys → Entries → (s : State) (n : ℕ) (t : Specification) (id : List ℕ) (q : List ℕ)
    → IsState s → type_at n s ≡ Some t → (old : Option Feature) → feature_at n id s ≡ old
    → features.get (row_map s) q
    ≡ features.get (with_keys (rest_of s t old) (keys_at t old) (bytes_at old)) q
old_rows keys entries s n t id q state typed None held = refl
old_rows keys entries s n t id q state typed (Some f) held =
    let olds = keys_at t (Some f) in
    elim (has_key q olds) as
    (λ b. has_key q olds ≡ b
    → features.get (row_map s) q
    ≡ cond b (Some (feature_bytes f)) (cond b None (features.get (row_map s) q))) [
      | true ↦ λ is. get_is entries s q
          ∙ stands_in keys entries s q (feature_bytes f) state
          (its_row s n t id f q typed held (in_keys q olds is))
      | false ↦ λ _. refl
    ] refl
    ∙ sym (get-with (rest_of s t (Some f)) olds (feature_bytes f) q
    ∙ ap (λ o. cond (has_key q olds) (Some (feature_bytes f)) o) (get-without (row_map s) olds q))

new_rows : Entries → (s s' : State) (t : Specification) (old new : Option Feature) (q : List ℕ)
    → made_at t old new q (at_key q (rows_of s)) ≡ at_key q (rows_of s')
    → features.get (row_map s') q
    ≡ features.get (with_keys (rest_of s t old) (keys_at t new) (bytes_at new)) q
new_rows entries s s' t old None q made =
    get_is entries s' q ∙ sym made
    ∙ ap (λ o. cond (has_key q (keys_at t old)) None o) (sym (get_is entries s q))
    ∙ sym (get-without (row_map s) (keys_at t old) q)
new_rows entries s s' t old (Some f) q made =
    get_is entries s' q ∙ sym made
    ∙ ap (λ o. cond (has_key q (keys_at t (Some f))) (Some (feature_bytes f))
    (cond (has_key q (keys_at t old)) None o)) (sym (get_is entries s q))
    ∙ sym (get-with (rest_of s t old) (keys_at t (Some f)) (feature_bytes f) q
    ∙ ap (λ o. cond (has_key q (keys_at t (Some f))) (Some (feature_bytes f)) o)
    (get-without (row_map s) (keys_at t old) q))

same_rows : (m n : RowMap) → ((q : List ℕ) → features.get m q ≡ features.get n q) → m ≡ n
same_rows m n is =
    same_map nat_list_cmp_total (slice_cmp-IsAntisymmetric nat_cmp-IsAntisymmetric) m n is

rest_has_none : (s : State) (t : Specification) (old : Option Feature) (k : List ℕ)
    → In k (keys_at t old) → features.get (rest_of s t old) k ≡ None
rest_has_none s t old k member =
    get-without (row_map s) (keys_at t old) k
    ∙ ap (λ b. cond b None (features.get (row_map s) k)) (has_in k (keys_at t old) member)

fits_there : (s : State) (n : ℕ) (t : Specification) (id : List ℕ) → IsState s
    → type_at n s ≡ Some t → ForSome (feature_at n id s) (Fits t)
fits_there s n t id state typed = λ f held. (state.held n t id f typed held).fits

-- a key of the new feature alone had no row before
rest_has_none_new : Keys → Entries
    → (s s' : State) (n : ℕ) (t : Specification) (id : List ℕ) (old new : Option Feature)
    (k : List ℕ) → Step s' s n t id old
    → feature_at n id s' ≡ new → In k (keys_at t new) → features.get (rest_of s t old) k ≡ None
rest_has_none_new keys entries s s' n t id old new k back now member =
    get-without (row_map s) (keys_at t old) k
    ∙ elim (has_key k (keys_at t old)) as
    (λ b. has_key k (keys_at t old) ≡ b → cond b None (features.get (row_map s) k) ≡ None) [
      | true ↦ λ _. refl
      | false ↦ λ isnt. get_is entries s k
          ∙ sym (gone keys entries s' s n t id old k back
          (ap (λ o. has_key k (keys_at t o)) now ∙ has_in k (keys_at t new) member) isnt)
    ] refl

pub counted : Keys → Entries
    → (s : State) (n : ℕ) (t : Specification) (id : List ℕ) (new : Option Feature) → IsState s
    → type_at n s ≡ Some t → ForSome new (IsHeld t id)
    → length (rows_of (changed_in n id new s)) + length (keys_at t (feature_at n id s))
    ≡ length (rows_of s) + length (keys_at t new)
counted keys entries s n t id new state typed fits =
    let s' = changed_in n id new s in
    let old = feature_at n id s in
    let types = same_types n id new s in
    let state' = keeps_state s n t id new state typed fits in
    let typed' : type_at n s' ≡ Some t = ap (λ x. slice_get x n) types ∙ typed in
    let now : feature_at n id s' ≡ new = here n id new s t typed in
    let back : Step s' s n t id old = record {
      state = state';
      state' = state;
      types = sym types;
      typed = typed';
      typed' = typed;
      now = refl;
      unchanged = λ m i apart. sym (elsewhere m n i id new s apart);
    } in
    let placed = state.placed n t typed in
    let fits' : ForSome new (Fits t) = λ f is. (fits f is).fits in
    let was : features.len (row_map s) ≡ features.len (rest_of s t old) + length (keys_at t old) =
    ap features.len
    (same_rows (row_map s) (with_keys (rest_of s t old) (keys_at t old) (bytes_at old))
    (λ q. old_rows keys entries s n t id q state typed old refl))
    ∙ len-with (rest_of s t old) (keys_at t old) (bytes_at old)
    (some_keys_distinct keys t old placed.typed (fits_there s n t id state typed))
    (rest_has_none s t old) in
    let is : features.len (row_map s') ≡ features.len (rest_of s t old) + length (keys_at t new) =
    ap features.len
    (same_rows (row_map s') (with_keys (rest_of s t old) (keys_at t new) (bytes_at new)) (λ q.
    new_rows entries s s' t old new q
    (sym (made_is t old new q (at_key q (rows_of s)))
    ∙ follows keys entries s n t id new state typed fits q)))
    ∙ len-with (rest_of s t old) (keys_at t new) (bytes_at new)
    (some_keys_distinct keys t new placed.typed fits')
    (λ k member. rest_has_none_new keys entries s s' n t id old new k back now member) in
    let one = count_is s in
    let other = count_is s' in
    omega (arith, was, is, one, other)
