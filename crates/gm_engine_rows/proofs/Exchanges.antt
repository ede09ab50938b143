-- What several changes at once make of a state and of its rows.
use Rattle.std.proofs.Common.{◌≡◌, ◌<◌, ℕ, suc, ◌+◌, Bool, true, false, true≢false, cond, not}
use Rattle.std.proofs.Common.{◌||◌, ◌⊎◌, inl, inr, ⊎_elim, List, [], ◌∷◌, ◌++◌, map}
use Rattle.std.proofs.Common.{length, Option, Some, None, refl, sym, ap, subst, ◌∙◌, arith}
use Rattle.std.specs.Prelude.{All, slice_get, if◌then◌else◌}
use Rattle.std.specs.List.{flat_map}
use Rattle.std.proofs.lemmas.Bool.{and_parts}
use Rattle.gm_base.proofs.Booleans.{false_of_never, false_of_not}
use Rattle.gm_base.proofs.Options.{same_some}
use Rattle.gm_table.specs.declared.row.Row.{Row}
use Rattle.gm_table.specs.Batch.{has_key, are_distinct, put_at, applied_at}
use Rattle.gm_table.specs.Row.{key_of as key_of_row}
use Rattle.gm_table.specs.Sorted.{at_key}
use Rattle.gm_types.specs.FeatureType.{IsType}
use Rattle.gm_types.specs.Specification.{Specification}
use Rattle.gm_feature.specs.declared.feature.Feature.{Feature}
use Rattle.gm_feature.specs.Feature.{Fits}
use Rattle.gm_keys.specs.Key.{keys_of}
use Rattle.gm_engine_rows.specs.declared.exchange.Exchange.{Exchange}
use Rattle.gm_engine_rows.specs.State.{State, IsState, types_of, type_at, feature_at, changed_in}
use Rattle.gm_engine_rows.specs.Rows.{rows_of}
use Rattle.gm_engine_rows.specs.Change.{keys_at, removes_of, puts_of}
use Rattle.gm_engine_rows.specs.Exchange.{owners_of, removes_of_all, puts_of_all, old_keys}
use Rattle.gm_engine_rows.specs.Exchange.{new_keys, exchanged_in, exchanged_at, IsExchange}
use Rattle.gm_engine_rows.specs.Exchange.{IsExchangeIn}
use Rattle.gm_engine_rows.proofs.Members.{In, is_key, in_keys, has_in, is_same, not_key}
use Rattle.gm_engine_rows.proofs.Members.{same_or_not}
use Rattle.gm_engine_rows.proofs.RowLaws.{Keys, Entries, key_out}
use Rattle.gm_engine_rows.proofs.Changes.{same_types, here, elsewhere, keeps_state, follows}
use Rattle.gm_engine_rows.proofs.Distinct.{in_filter, distinct_append}
use Rattle.gm_engine_rows.proofs.Distinct.{distinct_filter, some_keys_distinct, put_keys}
use Rattle.gm_engine_rows.proofs.Counts.{counted}

-- ---- lists
pub all_in : {A : Type 0} (P : A → Type 0) (xs : List A) → All P xs → (x : A) → In x xs → P x
all_in P [] all x member = absurd member
all_in P (y ∷ xs) all x (inl same) =
    let some : 0 < length (y ∷ xs) = omega arith in
    subst P (sym same) (all 0 y some)
all_in P (y ∷ xs) all x (inr later) =
    all_in P xs (λ k d within. let more : suc k < length (y ∷ xs) = omega (arith, within) in
    all (suc k) d more) x later

in_append : (k : List ℕ) (xs ys : List (List ℕ)) → In k (xs ++ ys) → In k xs ⊎ In k ys
in_append k [] ys member = inr member
in_append k (x ∷ xs) ys (inl same) = inl (inl same)
in_append k (x ∷ xs) ys (inr later) =
    ⊎_elim (λ h. inl (inr h)) (λ h. inr h) (in_append k xs ys later)

in_flat : {A : Type 0} (g : A → List (List ℕ)) (xs : List A) (k : List ℕ) → In k (flat_map g xs)
    → (x : A) × In x xs × In k (g x)
in_flat g [] k member = absurd member
in_flat g (x ∷ xs) k member =
    ⊎_elim (λ first. (x, inl refl, first))
    (λ later. let rest = in_flat g xs k later in (rest.0, inr rest.1, rest.2))
    (in_append k (g x) (flat_map g xs) member)

has_key-append : (k : List ℕ) (xs ys : List (List ℕ))
    → has_key k (xs ++ ys) ≡ (has_key k xs || has_key k ys)
has_key-append k [] ys = refl
has_key-append k (x ∷ xs) ys =
    elim (is_key k x) as (λ b. (b || has_key k (xs ++ ys)) ≡ ((b || has_key k xs) || has_key k ys))
    [ true ↦ refl | false ↦ has_key-append k xs ys ]

put_at-append : (k : List ℕ) (xs ys : List Row) (before : Option (List ℕ))
    → put_at k (xs ++ ys) before ≡ put_at k ys (put_at k xs before)
put_at-append k [] ys before = refl
put_at-append k (x ∷ xs) ys before =
    put_at-append k xs ys (if is_key k x.key then Some x.bytes else before)

put_at-none : (k : List ℕ) (rows : List Row) (before : Option (List ℕ))
    → has_key k (map key_of_row rows) ≡ false → put_at k rows before ≡ before
put_at-none k [] before isnt = refl
put_at-none k (row ∷ rows) before isnt =
    elim (is_key k row.key) as
    (λ b. (b || has_key k (map key_of_row rows)) ≡ false
    → put_at k rows (if b then Some row.bytes else before) ≡ before) [
      | true ↦ λ h. absurd (true≢false h)
      | false ↦ λ h. put_at-none k rows before h
    ] isnt

map-append : (xs ys : List Row) → map key_of_row (xs ++ ys) ≡ map key_of_row xs ++ map key_of_row ys
map-append [] ys = refl
map-append (x ∷ xs) ys = ap (λ rest. x.key ∷ rest) (map-append xs ys)

-- the keys of the rows that come
all_put_keys : (t : Specification) (es : List Exchange)
    → map key_of_row (puts_of_all t es) ≡ new_keys t es
all_put_keys t [] = refl
all_put_keys t (e ∷ es) =
    map-append (puts_of t e.new) (puts_of_all t es)
    ∙ (λ i. put_keys t e.new i ++ all_put_keys t es i)

-- ---- whose a key is
pub record IsOwned (t : Specification) (e : Exchange) (k : List ℕ) : Type 0 where
  pub feature : Feature
  pub fits : Fits t feature
  pub named : feature.id ≡ e.old.id
  pub member : In k (keys_of t feature)

owned_old : (t : Specification) (e : Exchange) (k : List ℕ) → IsExchange t e
    → In k (keys_of t e.old) → IsOwned t e k
owned_old t e k is member = record { feature = e.old; fits = is.old; named = refl; member = member }

owned_removed : (t : Specification) (e : Exchange) (k : List ℕ) → IsExchange t e
    → In k (removes_of t (Some e.old) e.new) → IsOwned t e k
owned_removed t e k is member =
    owned_old t e k is
    (in_filter (λ q. not (has_key q (keys_at t e.new))) (keys_of t e.old) k member).1

owned_put : (t : Specification) (e : Exchange) (k : List ℕ) → IsExchange t e
    → In k (keys_at t e.new) → IsOwned t e k
owned_put t e k is member = by e.new refl member
  where
    by : (o : Option Feature) → e.new ≡ o → In k (keys_at t o) → IsOwned t e k
    by None at none = absurd none
    by (Some f) at some = let held = is.new f at in
        record { feature = f; fits = held.fits; named = held.named; member = some }

one_owner : Keys → (t : Specification) (d e : Exchange) (k : List ℕ) → IsType t → IsOwned t d k
    → IsOwned t e k → d.old.id ≡ e.old.id
one_owner keys t d e k typed one other =
    let a = key_out t one.feature k one.member in
    let b = key_out t other.feature k other.member in
    sym one.named ∙ (keys t t a.0 b.0 one.feature other.feature k typed typed one.fits other.fits
    a.2 b.2).2 refl ∙ other.named

id_in : (es : List Exchange) (d : Exchange) → In d es → In d.old.id (owners_of es)
id_in [] d member = absurd member
id_in (e ∷ es) d (inl same) = inl (ap (λ (x : Exchange). x.old.id) same)
id_in (e ∷ es) d (inr later) = inr (id_in es d later)

-- those that come later have other identifiers
apart_later : (e : Exchange) (es : List Exchange) (d : Exchange)
    → are_distinct (owners_of (e ∷ es)) ≡ true → In d es → (e.old.id ≡ d.old.id → ⊥)
apart_later e es d once member same =
    true≢false (sym
    (has_in e.old.id (owners_of es)
    (subst (λ i. In i (owners_of es)) (sym same) (id_in es d member)))
    ∙ false_of_not _ (and_parts _ _ once).0)

same_exchange : (es : List Exchange) (d e : Exchange) → are_distinct (owners_of es) ≡ true → In d es
    → In e es → d.old.id ≡ e.old.id → d ≡ e
same_exchange [] d e once one other same = absurd one
same_exchange (x ∷ es) d e once (inl a) (inl b) same = a ∙ sym b
same_exchange (x ∷ es) d e once (inl a) (inr b) same =
    absurd (apart_later x es e once b (ap (λ (y : Exchange). y.old.id) (sym a) ∙ same))
same_exchange (x ∷ es) d e once (inr a) (inl b) same =
    absurd (apart_later x es d once a (ap (λ (y : Exchange). y.old.id) (sym b) ∙ sym same))
same_exchange (x ∷ es) d e once (inr a) (inr b) same =
    same_exchange es d e (and_parts _ _ once).1 a b same

-- a key of the first is none of the later ones
none_later : Keys
    → (t : Specification) (e : Exchange) (es : List Exchange) (g : Exchange → List (List ℕ))
    (k : List ℕ) → IsType t
    → are_distinct (owners_of (e ∷ es)) ≡ true → IsOwned t e k
    → ((d : Exchange) → In d es → In k (g d) → IsOwned t d k) → has_key k (flat_map g es) ≡ false
none_later keys t e es g k typed once owned owns =
    false_of_never (has_key k (flat_map g es)) (λ has.
    let at = in_flat g es k (in_keys k (flat_map g es) has) in
    apart_later e es at.0 once at.1 (one_owner keys t e at.0 k typed owned (owns at.0 at.1 at.2)))

-- ---- the keys of a batch are distinct
removes_distinct : Keys → (t : Specification) (es : List Exchange) → IsType t
    → ((e : Exchange) → In e es → IsExchange t e) → are_distinct (owners_of es) ≡ true
    → are_distinct (removes_of_all t es) ≡ true
removes_distinct keys t [] typed are once = refl
removes_distinct keys t (e ∷ es) typed are once =
    let is = are e (inl refl) in
    let later : (d : Exchange) → In d es → IsExchange t d = λ d member. are d (inr member) in
    distinct_append (removes_of t (Some e.old) e.new) (removes_of_all t es)
    (distinct_filter (λ q. not (has_key q (keys_at t e.new))) (keys_of t e.old)
    (some_keys_distinct keys t (Some e.old) typed
    (λ f same. subst (Fits t) (same_some e.old f same) is.old)))
    (removes_distinct keys t es typed later (and_parts _ _ once).1)
    (λ k member. none_later keys t e es (λ d. removes_of t (Some d.old) d.new) k typed once
    (owned_removed t e k is member)
    (λ d among. owned_removed t d k (later d among)))

puts_distinct : Keys → (t : Specification) (es : List Exchange) → IsType t
    → ((e : Exchange) → In e es → IsExchange t e) → are_distinct (owners_of es) ≡ true
    → are_distinct (new_keys t es) ≡ true
puts_distinct keys t [] typed are once = refl
puts_distinct keys t (e ∷ es) typed are once =
    let is = are e (inl refl) in
    let later : (d : Exchange) → In d es → IsExchange t d = λ d member. are d (inr member) in
    distinct_append (keys_at t e.new) (new_keys t es)
    (some_keys_distinct keys t e.new typed (λ f same. (is.new f same).fits))
    (puts_distinct keys t es typed later (and_parts _ _ once).1)
    (λ k member. none_later keys t e es (λ d. keys_at t d.new) k typed once
    (owned_put t e k is member)
    (λ d among. owned_put t d k (later d among)))

pub all_distinct : Keys → (t : Specification) (es : List Exchange) → IsType t
    → All (IsExchange t) es → are_distinct (owners_of es) ≡ true
    → are_distinct (removes_of_all t es ++ map key_of_row (puts_of_all t es)) ≡ true
all_distinct keys t es typed all once =
    let are : (e : Exchange) → In e es → IsExchange t e = all_in (IsExchange t) es all in
    ap (λ x. are_distinct (removes_of_all t es ++ x)) (all_put_keys t es)
    ∙ distinct_append (removes_of_all t es) (new_keys t es)
    (removes_distinct keys t es typed are once) (puts_distinct keys t es typed are once)
    (λ k member. false_of_never (has_key k (new_keys t es)) (λ has.
    let from = in_flat (λ d. removes_of t (Some d.old) d.new) es k member in
    let to = in_flat (λ d. keys_at t d.new) es k (in_keys k (new_keys t es) has) in
    let same : from.0 ≡ to.0 = same_exchange es from.0 to.0 once from.1 to.1
    (one_owner keys t from.0 to.0 k typed (owned_removed t from.0 k (are from.0 from.1) from.2)
    (owned_put t to.0 k (are to.0 to.1) to.2)) in
    let gone = in_filter (λ q. not (has_key q (keys_at t from.0.new)))
    (keys_of t from.0.old) k from.2 in
    true≢false (sym
    (has_in k (keys_at t from.0.new)
    (subst (λ (d : Exchange). In k (keys_at t d.new)) (sym same) to.2))
    ∙ false_of_not _ gone.0)))

-- ---- the rows after them
-- one change, and then the others
in_turn : Keys
    → (t : Specification) (e : Exchange) (es : List Exchange) (k : List ℕ)
    (before : Option (List ℕ)) → IsType t
    → ((d : Exchange) → In d (e ∷ es) → IsExchange t d) → are_distinct (owners_of (e ∷ es)) ≡ true
    → applied_at k (removes_of_all t (e ∷ es)) (puts_of_all t (e ∷ es)) before
    ≡ applied_at k (removes_of_all t es) (puts_of_all t es)
    (applied_at k (removes_of t (Some e.old) e.new) (puts_of t e.new) before)
in_turn keys t e es k before typed are once =
    let removes = removes_of t (Some e.old) e.new in
    ap (λ b. if b then None else put_at k (puts_of t e.new ++ puts_of_all t es) before)
    (has_key-append k removes (removes_of_all t es))
    ∙ ap (λ (o : Option (List ℕ)). if has_key k removes || has_key k (removes_of_all t es) then None
    else o) (put_at-append k (puts_of t e.new) (puts_of_all t es) before)
    ∙ elim (has_key k removes) as (λ b. has_key k removes ≡ b
    → (if b || has_key k (removes_of_all t es) then None
    else put_at k (puts_of_all t es) (put_at k (puts_of t e.new) before))
    ≡ (if has_key k (removes_of_all t es) then None
    else put_at k (puts_of_all t es) (if b then None else put_at k (puts_of t e.new) before))) [
      | true ↦ λ has.
          let owned = owned_removed t e k (are e (inl refl)) (in_keys k removes has) in
          let isnt = none_later keys t e es (λ d. keys_at t d.new) k typed once owned
          (λ d among. owned_put t d k (are d (inr among))) in
          let none : put_at k (puts_of_all t es) None ≡ None =
          put_at-none k (puts_of_all t es) None (ap (has_key k) (all_put_keys t es) ∙ isnt) in
          either (has_key k (removes_of_all t es))
          ∙ ap (λ (o : Option (List ℕ)). if has_key k (removes_of_all t es) then None else o)
          (sym none)
      | false ↦ λ _. refl
    ] refl
  where
    either : (b : Bool) → ◌≡◌ {A = Option (List ℕ)} None (if b then None else None)
    either true = refl
    either false = refl

-- ---- states
exchange_there : (s : State) (n : ℕ) (t : Specification) (e : Exchange) → IsState s
    → type_at n s ≡ Some t → IsExchangeIn s n t e → IsExchange t e
exchange_there s n t e state typed is =
    record { old = (state.held n t e.old.id e.old typed is.held).fits; new = is.new }

exchange_later : (s : State) (n : ℕ) (t : Specification) (e d : Exchange)
    → (e.old.id ≡ d.old.id → ⊥) → IsExchangeIn s n t d
    → IsExchangeIn (changed_in n e.old.id e.new s) n t d
exchange_later s n t e d apart is = record {
  held = elsewhere n n d.old.id e.old.id e.new s (λ both. apart (sym both.1)) ∙ is.held;
  new = is.new;
}

pub exchanged_types : (n : ℕ) (es : List Exchange) (s : State)
    → types_of (exchanged_in n es s) ≡ types_of s
exchanged_types n [] s = refl
exchanged_types n (e ∷ es) s =
    exchanged_types n es (changed_in n e.old.id e.new s) ∙ same_types n e.old.id e.new s

-- what holds of the state that one exchange leaves, for those that follow
record Next (s : State) (n : ℕ) (t : Specification) (e : Exchange)
    (es : List Exchange) : Type 0 where
  state : IsState (changed_in n e.old.id e.new s)
  typed : type_at n (changed_in n e.old.id e.new s) ≡ Some t
  are : (d : Exchange) → In d es → IsExchangeIn (changed_in n e.old.id e.new s) n t d
  once : are_distinct (owners_of es) ≡ true

next_of : (s : State) (n : ℕ) (t : Specification) (e : Exchange) (es : List Exchange) → IsState s
    → type_at n s ≡ Some t
    → ((d : Exchange) → In d (e ∷ es) → IsExchangeIn s n t d)
    → are_distinct (owners_of (e ∷ es)) ≡ true → Next s n t e es
next_of s n t e es state typed are once = record {
  state = keeps_state s n t e.old.id e.new state typed (are e (inl refl)).new;
  typed = ap (λ x. slice_get x n) (same_types n e.old.id e.new s) ∙ typed;
  are = λ d member. exchange_later s n t e d (apart_later e es d once member) (are d (inr member));
  once = (and_parts _ _ once).1;
}

keeps_all : (n : ℕ) (t : Specification) (es : List Exchange) (s : State) → IsState s
    → type_at n s ≡ Some t
    → ((d : Exchange) → In d es → IsExchangeIn s n t d) → are_distinct (owners_of es) ≡ true
    → IsState (exchanged_in n es s)
keeps_all n t [] s state typed are once = state
keeps_all n t (e ∷ es) s state typed are once =
    let next = next_of s n t e es state typed are once in
    keeps_all n t es (changed_in n e.old.id e.new s) next.state next.typed next.are next.once

follow_all : Keys → Entries → (n : ℕ) (t : Specification) (es : List Exchange) (s : State)
    → IsState s → type_at n s ≡ Some t
    → ((d : Exchange) → In d es → IsExchangeIn s n t d) → are_distinct (owners_of es) ≡ true
    → (k : List ℕ)
    → applied_at k (removes_of_all t es) (puts_of_all t es) (at_key k (rows_of s))
    ≡ at_key k (rows_of (exchanged_in n es s))
follow_all keys entries n t [] s state typed are once k = refl
follow_all keys entries n t (e ∷ es) s state typed are once k =
    let s' = changed_in n e.old.id e.new s in
    let next = next_of s n t e es state typed are once in
    let is = are e (inl refl) in
    in_turn keys t e es k (at_key k (rows_of s)) (state.placed n t typed).typed
    (λ d member. exchange_there s n t d state typed (are d member)) once
    ∙ ap (applied_at k (removes_of_all t es) (puts_of_all t es))
    (ap (λ (o : Option Feature). applied_at k (removes_of t o e.new) (puts_of t e.new)
    (at_key k (rows_of s))) (sym is.held)
    ∙ follows keys entries s n t e.old.id e.new state typed is.new k)
    ∙ follow_all keys entries n t es s' next.state next.typed next.are next.once k

count_append : (xs ys : List (List ℕ)) → length (xs ++ ys) ≡ length xs + length ys
count_append [] ys = let none : length ys ≡ length {A = List ℕ} [] + length ys = omega arith in none
count_append (x ∷ xs) ys = let rest = count_append xs ys in
    let more : suc (length (xs ++ ys)) ≡ suc (length xs) + length ys = omega (arith, rest) in more

count_all : Keys → Entries → (n : ℕ) (t : Specification) (es : List Exchange) (s : State)
    → IsState s → type_at n s ≡ Some t
    → ((d : Exchange) → In d es → IsExchangeIn s n t d) → are_distinct (owners_of es) ≡ true
    → length (rows_of (exchanged_in n es s)) + length (old_keys t es)
    ≡ length (rows_of s) + length (new_keys t es)
count_all keys entries n t [] s state typed are once = refl
count_all keys entries n t (e ∷ es) s state typed are once =
    let s' = changed_in n e.old.id e.new s in
    let next = next_of s n t e es state typed are once in
    let is = are e (inl refl) in
    let rest = count_all keys entries n t es s' next.state next.typed next.are next.once in
    let first : length (rows_of s') + length (keys_at t (Some e.old))
    ≡ length (rows_of s) + length (keys_at t e.new) =
    ap (λ (o : Option Feature). length (rows_of s') + length (keys_at t o)) (sym is.held)
    ∙ counted keys entries s n t e.old.id e.new state typed is.new in
    let olds = count_append (keys_at t (Some e.old)) (old_keys t es) in
    let news = count_append (keys_at t e.new) (new_keys t es) in
    omega (arith, rest, first, olds, news)

pub exchanges_follow : Keys → Entries → (s : State) (n : ℕ) (t : Specification) (es : List Exchange)
    → IsState s → type_at n s ≡ Some t
    → All (IsExchangeIn s n t) es → are_distinct (owners_of es) ≡ true
    → (k : List ℕ)
    → applied_at k (removes_of_all t es) (puts_of_all t es) (at_key k (rows_of s))
    ≡ at_key k (rows_of (exchanged_in n es s))
exchanges_follow keys entries s n t es state typed all once k =
    follow_all keys entries n t es s state typed (all_in (IsExchangeIn s n t) es all) once k

pub exchanges_count : Keys → Entries → (s : State) (n : ℕ) (t : Specification) (es : List Exchange)
    → IsState s → type_at n s ≡ Some t
    → All (IsExchangeIn s n t) es → are_distinct (owners_of es) ≡ true
    → length (rows_of (exchanged_in n es s)) + length (old_keys t es)
    ≡ length (rows_of s) + length (new_keys t es)
exchanges_count keys entries s n t es state typed all once =
    count_all keys entries n t es s state typed (all_in (IsExchangeIn s n t) es all) once

pub exchanges_keep : (s : State) (n : ℕ) (t : Specification) (es : List Exchange) → IsState s
    → type_at n s ≡ Some t
    → All (IsExchangeIn s n t) es → are_distinct (owners_of es) ≡ true
    → IsState (exchanged_in n es s)
exchanges_keep s n t es state typed all once =
    keeps_all n t es s state typed (all_in (IsExchangeIn s n t) es all) once

-- ---- what an identifier has afterwards
pub exchanged_here : (n : ℕ) (id : List ℕ) (es : List Exchange) (s : State) (t : Specification)
    → type_at n s ≡ Some t
    → feature_at n id (exchanged_in n es s) ≡ exchanged_at id es (feature_at n id s)
exchanged_here n id [] s t typed = refl
exchanged_here n id (e ∷ es) s t typed =
    let s' = changed_in n e.old.id e.new s in
    let typed' : type_at n s' ≡ Some t =
    ap (λ x. slice_get x n) (same_types n e.old.id e.new s) ∙ typed in
    exchanged_here n id es s' t typed' ∙ ap (exchanged_at id es) (⊎_elim
    (λ same. ap (λ i. feature_at n i s') same ∙ here n e.old.id e.new s t typed
    ∙ ap (λ b. cond b e.new (feature_at n id s)) (sym (is_same id e.old.id same)))
    (λ apart. elsewhere n n id e.old.id e.new s (λ both. apart both.1)
    ∙ ap (λ b. cond b e.new (feature_at n id s)) (sym (not_key id e.old.id apart)))
    (same_or_not id e.old.id))

pub exchanged_elsewhere : (m n : ℕ) (id : List ℕ) (es : List Exchange) (s : State) → (m ≡ n → ⊥)
    → feature_at m id (exchanged_in n es s) ≡ feature_at m id s
exchanged_elsewhere m n id [] s apart = refl
exchanged_elsewhere m n id (e ∷ es) s apart =
    exchanged_elsewhere m n id es (changed_in n e.old.id e.new s) apart
    ∙ elsewhere m n id e.old.id e.new s (λ both. apart both.0)
