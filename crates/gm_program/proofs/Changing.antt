-- What a change of one feature makes of the rows of a store.
use Rattle.std.proofs.Common.{◌≡◌, ◌≤◌, ◌<◌, ◌+◌, ℕ, false, not, List, [], ◌∷◌, map}
use Rattle.std.proofs.Common.{length, Option, Some, None, refl, sym, ap, subst, ◌∙◌, arith}
use Rattle.std.specs.Prelude.{nat_le, nat_lt, slice_get, get_or}
use Rattle.std.specs.Option.{ForSome}
use Rattle.std.proofs.lemmas.Option.{slice_get_read, get_or_from_slice_get}
use Rattle.std.proofs.lemmas.Bool.Decides.{nat_tests}
use Rattle.gm_base.proofs.Options.{same_some, none_some}
use Rattle.gm_table.specs.declared.row.Row.{Row}
use Rattle.gm_table.specs.Batch.{applied_at}
use Rattle.gm_table.specs.Sorted.{Rows, IsRising, at_key}
use Rattle.gm_types.specs.Specification.{Specification}
use Rattle.gm_feature.specs.declared.feature.Feature.{Feature}
use Rattle.gm_feature.specs.Feature.{Fits}
use Rattle.gm_engine_rows.specs.State.{State, IsState, IsHeld, type_at, types_of, feature_at}
use Rattle.gm_engine_rows.specs.State.{changed_in}
use Rattle.gm_engine_rows.specs.Rows.{rows_of}
use Rattle.gm_engine_rows.specs.Change.{keys_at, removes_of, puts_of}
use Rattle.gm_program.specs.Limits.{has_too_many_rows}
use Rattle.gm_program.specs.Store.{Types, Holds}

-- the laws of changes
abbrev pub Follows : Type 0
Follows = (s : State) (n : ℕ) (t : Specification) (id : List ℕ) (new : Option Feature) → IsState s
    → type_at n s ≡ Some t → ForSome new (IsHeld t id) → (key : List ℕ)
    → applied_at key (removes_of t (feature_at n id s) new) (puts_of t new) (at_key key (rows_of s))
    ≡ at_key key (rows_of (changed_in n id new s))

abbrev pub Same : Type 0
Same = (one other : Rows) → IsRising one → IsRising other
    → ((key : List ℕ) → at_key key one ≡ at_key key other) → one ≡ other

abbrev pub Rising : Type 0
Rising = (s : State) → IsRising (rows_of s)

abbrev pub Keeps : Type 0
Keeps = (s : State) (n : ℕ) (t : Specification) (id : List ℕ) (new : Option Feature) → IsState s
    → type_at n s ≡ Some t → ForSome new (IsHeld t id) → IsState (changed_in n id new s)

abbrev pub SameTypes : Type 0
SameTypes = (s : State) (n : ℕ) (id : List ℕ) (new : Option Feature)
    → types_of (changed_in n id new s) ≡ types_of s

abbrev pub Counted : Type 0
Counted = (s : State) (n : ℕ) (t : Specification) (id : List ℕ) (new : Option Feature) → IsState s
    → type_at n s ≡ Some t → ForSome new (IsHeld t id)
    → length (rows_of (changed_in n id new s)) + length (keys_at t (feature_at n id s))
    ≡ length (rows_of s) + length (keys_at t new)

pub length-map : {A B : Type 0} (f : A → B) (xs : List A) → length (map f xs) ≡ length xs
length-map f [] = refl
length-map f (x ∷ xs) = let rest = length-map f xs in omega (arith, rest)

pub length-types : (s : State) → length (types_of s) ≡ length s
length-types s = length-map (λ c. c.specification) s

-- ---- the rows after a change
pub rows_after : Follows → Same → Rising
    → (s : State) (n : ℕ) (t : Specification) (id : List ℕ) (old new : Option Feature)
    (rows after : Rows) (removes : List (List ℕ)) (puts : List Row)
    → IsState s → type_at n s ≡ Some t → ForSome new (IsHeld t id) → rows ≡ rows_of s
    → old ≡ feature_at n id s → removes ≡ removes_of t old new → puts ≡ puts_of t new
    → IsRising after
    → ((key : List ℕ) → at_key key after ≡ applied_at key removes puts (at_key key rows))
    → after ≡ rows_of (changed_in n id new s)
rows_after follows same rising s n t id old new rows after removes puts state typed held is bound
    removes_are puts_are up applied =
    same after (rows_of (changed_in n id new s)) up (rising (changed_in n id new s)) (λ key.
    applied key
    ∙ (λ i. applied_at key (removes_are i) (puts_are i) (at_key key (is i)))
    ∙ ap (λ o. applied_at key (removes_of t o new) (puts_of t new) (at_key key (rows_of s))) bound
    ∙ follows s n t id new state typed held key)

-- ---- how many there are
-- each key is put once
pub length-puts : (t : Specification) (f : Feature)
    → length (puts_of t (Some f)) ≡ length (keys_at t (Some f))
length-puts t f = length-map _ _

-- there is room where the rows and the puts are no more than the limit and what is freed
pub room_is : (after before freed put : ℕ) → after + freed ≡ before + put
    → nat_le (before + put) (2000000 + freed) ≡ not (nat_lt 2000000 after)
room_is after before freed put counted = grind (arith, nat_tests)

pub has_room_as_told : Counted
    → (s : State) (n : ℕ) (t : Specification) (id : List ℕ) (old new : Option Feature)
    (before put : ℕ) → IsState s → type_at n s ≡ Some t → ForSome new (IsHeld t id)
    → old ≡ feature_at n id s → before ≡ length (rows_of s) → put ≡ length (keys_at t new)
    → nat_le (before + put) (2000000 + length (keys_at t old))
    ≡ not (has_too_many_rows (changed_in n id new s))
has_room_as_told counted s n t id old new before put state typed held bound before_is put_is =
    (λ i. nat_le (before_is i + put_is i) (2000000 + length (keys_at t (bound i))))
    ∙ room_is (length (rows_of (changed_in n id new s))) (length (rows_of s))
    (length (keys_at t (feature_at n id s))) (length (keys_at t new))
    (counted s n t id new state typed held)

few_enough : (n : ℕ) → nat_lt 2000000 n ≡ false → n ≤ 2000000
few_enough n is = grind (arith, nat_tests)

-- ---- the store after a change
pub holds_changed : Keeps → SameTypes
    → (s : State) (n : ℕ) (t : Specification) (id : List ℕ) (new : Option Feature) (types : Types)
    (rows after : Rows)
    → Holds s types rows → type_at n s ≡ Some t → ForSome new (IsHeld t id)
    → length (rows_of (changed_in n id new s)) ≤ 2000000 → after ≡ rows_of (changed_in n id new s)
    → Holds (changed_in n id new s) types after
holds_changed keeps same s n t id new types rows after holds typed held few is = record {
  state = keeps s n t id new holds.state typed held;
  limits = record {
    types = omega (
      arith,
      holds.limits.types,
      ap length (same s n id new),
      length-types s,
      length-types (changed_in n id new s),
    );
    rows = few;
  };
  same_types = holds.same_types ∙ sym (same s n id new);
  same_rows = is;
}

pub few_from_room : (s : State) → has_too_many_rows s ≡ false → length (rows_of s) ≤ 2000000
few_from_room s is = few_enough (length (rows_of s)) is

-- fewer rows where a feature goes
pub fewer : Counted → (s : State) (n : ℕ) (t : Specification) (id : List ℕ) → IsState s
    → type_at n s ≡ Some t → length (rows_of s) ≤ 2000000
    → length (rows_of (changed_in n id None s)) ≤ 2000000
fewer counted s n t id state typed few =
    omega (arith, few, counted s n t id None state typed (λ f is. absurd (cc)))

-- a feature under its own identifier
pub held_itself : (t : Specification) (f : Feature) → Fits t f → ForSome (Some f) (IsHeld t f.id)
held_itself t f fits =
    λ g is. subst (IsHeld t f.id) (same_some f g is) (record { fits = fits; named = refl })

pub none_held : (t : Specification) (id : List ℕ) → ForSome None (IsHeld t id)
none_held t id = λ f is. absurd (none_some f is)

-- the type of a store with a number
pub type_there : (s : State) (types : Types) (n : ℕ) (t : Specification) → IsState s
    → types ≡ types_of s → slice_get types n ≡ Some t
    → (type_at t.number s ≡ Some t) × (t.number ≡ n)
type_there s types n t state same there =
    let at : type_at n s ≡ Some t = ap (λ (ts : Types). slice_get ts n) (sym same) ∙ there in
    let number = (state.placed n t at).numbered in
    (ap (λ (k : ℕ). type_at k s) number ∙ at, number)

-- what is read of a list of types at a number
pub read_within : (types seen : Types) (n at : ℕ) (t : Specification) → seen ≡ types → at ≡ n
    → t ≡ get_or seen at t → n < length types → slice_get types n ≡ Some t
read_within types seen n at t same number is within =
    slice_get_read types (length types) n t refl within (is ∙ (λ i. get_or (same i) (number i) t))

pub read_known : (types seen : Types) (n at : ℕ) (t of : Specification) → seen ≡ types → at ≡ n
    → t ≡ get_or seen at t → slice_get types n ≡ Some of → slice_get types n ≡ Some t
read_known types seen n at t of same number is there =
    there ∙ ap (λ u. Some u)
    (sym (get_or_from_slice_get types n of t there)
    ∙ (λ i. get_or (sym same i) (sym number i) t) ∙ sym is)
