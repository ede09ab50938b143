-- What the features of a filter make of a store where they go, or give their places to others.
use Rattle.std.proofs.Common.{◌≡◌, ◌≤◌, ◌<◌, ◌^◌, ◌+◌, ℕ, Bool, true, false, cond, not, ◌&&◌, ◌||◌}
use Rattle.std.proofs.Common.{T, List, [], ◌∷◌, filter, map, length, Option, Some, None, refl, sym}
use Rattle.std.proofs.Common.{ap, subst, ◌∙◌, arith}
use Rattle.std.specs.Prelude.{All}
use Rattle.std.specs.Option.{ForSome}
use Rattle.std.specs.List.{AllByRecursion}
use Rattle.std.specs.Ordering.{nat_cmp}
use Rattle.std.specs.Cmp.Lexicographic.{slice_cmp}
use Rattle.std.specs.FinMap as map_of
use Rattle.std.specs.FinMap.{is_sorted, entries_sorted, get-entries}
use Rattle.std.specs.FinMap.Entries.{below_all}
use Rattle.std.proofs.lemmas.List.Elements.{All-from_recursion}
use Rattle.gm_base.proofs.Booleans.{both_of-T}
use Rattle.gm_base.proofs.Lists.{each_as}
use Rattle.gm_base.specs.Counter.{capped_sum}
use Rattle.gm_base.specs.declared.code.Code.{Code}
use Rattle.gm_table.specs.declared.row.Row.{Row}
use Rattle.gm_table.specs.Batch.{has_key, are_distinct, applied_at}
use Rattle.gm_table.specs.Sorted.{Rows, IsRising, at_key}
use Rattle.gm_types.specs.Specification.{Specification}
use Rattle.gm_feature.specs.declared.feature.Feature.{Feature}
use Rattle.gm_filter.specs.Tree.{Tree}
use Rattle.gm_filter.specs.Truth.{is_true}
use Rattle.gm_engine_rows.specs.declared.exchange.Exchange.{Exchange}
use Rattle.gm_engine_rows.specs.State.{State, IsState, IsHeld, types_of, type_at, features_of}
use Rattle.gm_engine_rows.specs.State.{feature_at}
use Rattle.gm_engine_rows.specs.Rows.{rows_of}
use Rattle.gm_engine_rows.specs.Exchange.{owners_of, removes_of_all, puts_of_all, old_keys}
use Rattle.gm_engine_rows.specs.Exchange.{new_keys, exchanged_in, IsExchange, IsExchangeIn}
use Rattle.gm_script.specs.Order.{Asked}
use Rattle.gm_script.specs.declared.reply.Reply.TheVariants as reply
use Rattle.gm_strategy.specs.declared.part.Part.{Part}
use Rattle.gm_strategy.specs.Choice.{Chosen, chosen_of}
use Rattle.gm_strategy.specs.Strategy.{plan_of}
use Rattle.gm_program.specs.declared.execute.plan.Planned.TheVariants as plan
use Rattle.gm_program.specs.Collecting.{Collected, feature_of, Collects}
use Rattle.gm_program.specs.Found.{tests_of}
use Rattle.gm_program.specs.Matched.{IsAnswer}
use Rattle.gm_program.specs.Plan.{IsPlanned}
use Rattle.gm_program.specs.Question.{answer, rows_examined}
use Rattle.gm_program.specs.Serve.{Executes}
use Rattle.gm_program.specs.Step.{Outcome, planned, asked_of, refused, plain, gone, removed}
use Rattle.gm_program.specs.Step.{remove_step}
use Rattle.gm_program.specs.Store.{Types, Holds, IsTypeOf}
use Rattle.gm_program.proofs.Answering.{answer_is, each_found, entries_named, passing}
use Rattle.gm_program.proofs.Answering.{sorted_passing, features_passing, less_not_key, Entry}
use Rattle.gm_program.proofs.Changing.{Same, Rising, length-types, none_held}
use Rattle.gm_program.proofs.Collected.{AreNamed}
use Rattle.gm_program.proofs.Planned.{are_named, step_refused, step_answered, executes_refused}
use Rattle.gm_program.proofs.Questions.{FindAll, tests_same}

-- the laws of exchanges
abbrev pub FollowsAll : Type 0
FollowsAll = (s : State) (n : ℕ) (t : Specification) (exchanges : List Exchange) → IsState s
    → type_at n s ≡ Some t → All (IsExchangeIn s n t) exchanges
    → are_distinct (owners_of exchanges) ≡ true → (key : List ℕ)
    → applied_at key (removes_of_all t exchanges) (puts_of_all t exchanges) (at_key key (rows_of s))
    ≡ at_key key (rows_of (exchanged_in n exchanges s))

abbrev pub CountedAll : Type 0
CountedAll = (s : State) (n : ℕ) (t : Specification) (exchanges : List Exchange) → IsState s
    → type_at n s ≡ Some t → All (IsExchangeIn s n t) exchanges
    → are_distinct (owners_of exchanges) ≡ true
    → length (rows_of (exchanged_in n exchanges s)) + length (old_keys t exchanges)
    ≡ length (rows_of s) + length (new_keys t exchanges)

abbrev pub KeepsAll : Type 0
KeepsAll = (s : State) (n : ℕ) (t : Specification) (exchanges : List Exchange) → IsState s
    → type_at n s ≡ Some t → All (IsExchangeIn s n t) exchanges
    → are_distinct (owners_of exchanges) ≡ true → IsState (exchanged_in n exchanges s)

abbrev pub SameTypesAll : Type 0
SameTypesAll =
    (s : State) (n : ℕ) (exchanges : List Exchange)
    → types_of (exchanged_in n exchanges s) ≡ types_of s

-- ---- what is found
pub answer_found : FindAll
    → (s : State) (a : Asked) (t : Specification) (parts : List Part) (target : ℕ) (es : Collected)
    (features : List Feature) (examined before after : ℕ) (rows : Rows)
    → IsTypeOf s t rows → t.number ≡ a.number → IsPlanned t a (plan.Parts parts target)
    → Collects s t.number (tests_of (map chosen_of parts)) es
    → features ≡ map feature_of es
    → (examined ≡ rows_examined t target (rows_of s) (map chosen_of parts))
    × (after ≡ capped_sum before examined)
    → IsAnswer s t a features examined before after
answer_found all s a t parts target es features examined before after rows own number planned
    collects are read = record {
      parts = map chosen_of parts;
      plan = planned.2;
      target = planned.1;
      features_are =
          are ∙ answer_is s t.number (tests_of (map chosen_of parts)) a.wanted es
          (are_named s t own.state own.typed) collects (tests_same all t a parts planned.2)
          ∙ ap (λ (n : ℕ). answer n a.wanted s) number;
      read = read.0 ∙ ap (λ (n : ℕ). rows_examined t n (rows_of s) (map chosen_of parts)) planned.0;
      tally = read.1;
    }

-- what a refusal is answered
pub refused_plain : (s : State) (t : Specification) (a : Asked) (wanted : Tree)
    (outcome : Specification → List Chosen → Outcome) (code : Code) (types : Types) (rows : Rows)
    (before after : ℕ)
    → before < 2 ^ 64 → Holds s types rows → type_at t.number s ≡ Some t → a ≡ plain t.number wanted
    → ((each : List Chosen → Outcome)
    → planned s a.target (plan_of t a.wanted a.hint) each ≡ refused s code 0) → after ≡ before
    → Executes (asked_of (type_at t.number s) (plain t.number wanted) s outcome)
    (Some (reply.Refusal code None)) types rows before after
refused_plain s t a wanted outcome code types rows before after fits holds typed is told same =
    let known = subst
    (λ (b : Asked). (each : List Chosen → Outcome)
    → planned s b.target (plan_of t b.wanted b.hint) each ≡ refused s code 0) is told in
    subst (λ (k : ℕ). Executes (asked_of (type_at t.number s) (plain t.number wanted) s outcome)
    (Some (reply.Refusal code None)) types rows before k) (sym same)
    (executes_refused s (asked_of (type_at t.number s) (plain t.number wanted) s outcome) code types
    rows before fits holds
    (step_refused s (plain t.number wanted) t outcome code typed (known (outcome t))))

-- ---- the features of an answer are those of the state, each once
abbrev pub IsBoundIn : State → ℕ → Feature → Type 0
IsBoundIn s n f = feature_at n f.id s ≡ Some f

each_filtered : {A : Type 0} (P : A → Type 0) (test : A → Bool) (xs : List A) → AllByRecursion P xs
    → AllByRecursion P (filter test xs)
each_filtered P test [] each = tt
each_filtered P test (x ∷ xs) each =
    let rest = each_filtered P test xs each.1 in
    elim (test x) as (λ t. AllByRecursion P (cond t (x ∷ filter test xs) (filter test xs)))
    [ true ↦ (each.0, rest) | false ↦ rest ]

each_second : (P : Feature → Type 0) (es : List Entry) → AllByRecursion (λ e. P e.1) es
    → AllByRecursion P (map (λ e. e.1) es)
each_second P [] each = tt
each_second P (e ∷ es) each = (each.0, each_second P es each.1)

bound_entries : (s : State) (n : ℕ) → AreNamed s n
    → AllByRecursion (λ e. IsBoundIn s n e.1) (map_of.entries (features_of n s))
bound_entries s n are_named =
    each_as (map_of.entries (features_of n s)) (λ e at.
    let there : feature_at n e.0 s ≡ Some e.1 = get-entries (features_of n s) e.0 ∙ at in
    subst (λ (k : List ℕ). feature_at n k s ≡ Some e.1) (sym (are_named e.0 e.1 there)) there)
    (each_found (map_of.entries (features_of n s)) (entries_sorted (features_of n s)))

pub answer_bound : (s : State) (n : ℕ) (wanted : Tree) → AreNamed s n
    → AllByRecursion (IsBoundIn s n) (answer n wanted s)
answer_bound s n wanted are_named =
    each_filtered (IsBoundIn s n) (λ f. is_true f wanted)
    (map (λ e. e.1) (map_of.entries (features_of n s)))
    (each_second (IsBoundIn s n) (map_of.entries (features_of n s)) (bound_entries s n are_named))

below_apart : (key : List ℕ) (es : Collected) → T (below_all (slice_cmp nat_cmp) key es)
    → has_key key (map (λ e. e.0) es) ≡ false
below_apart key [] below = refl
below_apart key (e ∷ es) below =
    let h = both_of-T _ _ below in
    ap (λ b. b || has_key key (map (λ x. x.0) es)) (less_not_key key e.0 h.0)
    ∙ below_apart key es h.1

sorted_apart : (es : Collected) → T (is_sorted (slice_cmp nat_cmp) es)
    → are_distinct (map (λ e. e.0) es) ≡ true
sorted_apart [] sorted = refl
sorted_apart (e ∷ es) sorted =
    let h = both_of-T _ _ sorted in
    ap (λ b. not b && are_distinct (map (λ x. x.0) es)) (below_apart e.0 es h.0)
    ∙ sorted_apart es h.1

ids_of : (es : Collected) → map (λ f. f.id) (map feature_of es) ≡ map (λ e. e.0) es
ids_of [] = refl
ids_of (e ∷ es) = ap (λ rest. e.0 ∷ rest) (ids_of es)

pub answer_apart : (s : State) (n : ℕ) (wanted : Tree) → AreNamed s n
    → are_distinct (map (λ f. f.id) (answer n wanted s)) ≡ true
answer_apart s n wanted are_named =
    let test = λ (f : Feature). is_true f wanted in
    let held = map_of.entries (features_of n s) in
    ap (λ (fs : List Feature). are_distinct (map (λ f. f.id) fs))
    (sym (features_passing test held (entries_named s n are_named)))
    ∙ ap are_distinct (ids_of (passing test held))
    ∙ sorted_apart (passing test held) (sorted_passing test held (entries_sorted (features_of n s)))

-- ---- their exchanges
abbrev pub exchange_of : (Feature → Option Feature) → Feature → Exchange
exchange_of to f = record { old = f; new = to f }

-- what they are exchanged for fits
abbrev pub GivesHeld : State → ℕ → Specification → (Feature → Option Feature) → Type 0
GivesHeld s n t to = (f : Feature) → IsBoundIn s n f → ForSome (to f) (IsHeld t f.id)

owners : (to : Feature → Option Feature) (fs : List Feature)
    → owners_of (map (exchange_of to) fs) ≡ map (λ f. f.id) fs
owners to [] = refl
owners to (f ∷ fs) = ap (λ rest. f.id ∷ rest) (owners to fs)

each_exchange : (s : State) (n : ℕ) (t : Specification) (to : Feature → Option Feature)
    (fs : List Feature) → GivesHeld s n t to
    → AllByRecursion (IsBoundIn s n) fs
    → AllByRecursion (IsExchangeIn s n t) (map (exchange_of to) fs)
each_exchange s n t to [] new each = tt
each_exchange s n t to (f ∷ fs) new each =
    (record { held = each.0; new = new f each.0 }, each_exchange s n t to fs new each.1)

pub owners_apart : (s : State) (n : ℕ) (wanted : Tree) (to : Feature → Option Feature)
    → AreNamed s n → are_distinct (owners_of (map (exchange_of to) (answer n wanted s))) ≡ true
owners_apart s n wanted to are_named =
    ap are_distinct (owners to (answer n wanted s)) ∙ answer_apart s n wanted are_named

pub exchanges_in : (s : State) (n : ℕ) (t : Specification) (wanted : Tree)
    (to : Feature → Option Feature) → AreNamed s n → GivesHeld s n t to
    → All (IsExchangeIn s n t) (map (exchange_of to) (answer n wanted s))
exchanges_in s n t wanted to are_named new =
    All-from_recursion (IsExchangeIn s n t) (map (exchange_of to) (answer n wanted s))
    (each_exchange s n t to (answer n wanted s) new (answer_bound s n wanted are_named))

-- as a batch of them asks it
pub exchanges_fit : (s : State) (t : Specification) (rows : Rows) (to : Feature → Option Feature)
    (wanted : Tree) (features : List Feature) (exchanges : List Exchange)
    (examined before after : ℕ)
    → IsTypeOf s t rows → GivesHeld s t.number t to
    → IsAnswer s t (plain t.number wanted) features examined before after
    → exchanges ≡ map (exchange_of to) features
    → All (IsExchange t) exchanges
exchanges_fit s t rows to wanted features exchanges examined before after own new found are =
    let all = answer t.number wanted s in
    let es_are : exchanges ≡ map (exchange_of to) all =
    are ∙ ap (map (exchange_of to)) found.features_are in
    let each = each_exchange s t.number t to all new
    (answer_bound s t.number wanted (are_named s t own.state own.typed)) in
    subst (All (IsExchange t)) (sym es_are)
    (All-from_recursion (IsExchange t) (map (exchange_of to) all)
    (each_as {P = IsExchangeIn s t.number t} {Q = IsExchange t} (map (exchange_of to) all)
    (λ e h. record
    { old = (own.state.held t.number t e.old.id e.old own.typed h.held).fits; new = h.new })
    each))

pub exchanges_apart : (s : State) (t : Specification) (rows : Rows) (to : Feature → Option Feature)
    (wanted : Tree) (features : List Feature) (exchanges : List Exchange)
    (examined before after : ℕ)
    → IsTypeOf s t rows → IsAnswer s t (plain t.number wanted) features examined before after
    → exchanges ≡ map (exchange_of to) features
    → are_distinct (owners_of exchanges) ≡ true
exchanges_apart s t rows to wanted features exchanges examined before after own found are =
    ap (λ es. are_distinct (owners_of es)) (are ∙ ap (map (exchange_of to)) found.features_are)
    ∙ owners_apart s t.number wanted to (are_named s t own.state own.typed)

-- ---- the rows and the store after them
pub rows_after_all : FollowsAll → Same → Rising
    → (s : State) (n : ℕ) (t : Specification) (es : List Exchange) (rows after : Rows)
    (removes : List (List ℕ)) (puts : List Row)
    → IsState s → type_at n s ≡ Some t → All (IsExchangeIn s n t) es
    → are_distinct (owners_of es) ≡ true → rows ≡ rows_of s → removes ≡ removes_of_all t es
    → puts ≡ puts_of_all t es
    → IsRising after
    → ((key : List ℕ) → at_key key after ≡ applied_at key removes puts (at_key key rows))
    → after ≡ rows_of (exchanged_in n es s)
rows_after_all follows same rising s n t es rows after removes puts state typed each apart is
    removes_are puts_are up applied =
    same after (rows_of (exchanged_in n es s)) up (rising (exchanged_in n es s)) (λ key.
    applied key
    ∙ (λ i. applied_at key (removes_are i) (puts_are i) (at_key key (is i)))
    ∙ follows s n t es state typed each apart key)

pub holds_exchanged : KeepsAll → SameTypesAll
    → (s : State) (n : ℕ) (t : Specification) (es : List Exchange) (types : Types)
    (rows after : Rows)
    → Holds s types rows → type_at n s ≡ Some t → All (IsExchangeIn s n t) es
    → are_distinct (owners_of es) ≡ true → length (rows_of (exchanged_in n es s)) ≤ 2000000
    → after ≡ rows_of (exchanged_in n es s) → Holds (exchanged_in n es s) types after
holds_exchanged keeps same s n t es types rows after holds typed each apart few is = record {
  state = keeps s n t es holds.state typed each apart;
  limits = record {
    types = omega (
      arith,
      holds.limits.types,
      ap length (same s n es),
      length-types s,
      length-types (exchanged_in n es s),
    );
    rows = few;
  };
  same_types = holds.same_types ∙ sym (same s n es);
  same_rows = is;
}

-- ---- where they go
none_new : (t : Specification) (fs : List Feature) → new_keys t (map gone fs) ≡ []
none_new t [] = refl
none_new t (f ∷ fs) = none_new t fs

pub gives_none : (s : State) (n : ℕ) (t : Specification) → GivesHeld s n t (λ _. None)
gives_none s n t f bound = none_held t f.id

pub remove_reply : FollowsAll → CountedAll → KeepsAll → SameTypesAll → Same → Rising
    → (s : State) (t : Specification) (wanted : Tree) (features : List Feature)
    (exchanges : List Exchange) (examined before after count : ℕ) (types : Types)
    (rows now : Rows) (removes : List (List ℕ)) (puts : List Row)
    → Holds s types rows → type_at t.number s ≡ Some t
    → IsAnswer s t (plain t.number wanted) features examined before after
    → exchanges ≡ map gone features → count ≡ length features
    → removes ≡ removes_of_all t exchanges → puts ≡ puts_of_all t exchanges → IsRising now
    → ((key : List ℕ) → at_key key now ≡ applied_at key removes puts (at_key key rows))
    → Executes (remove_step t.number wanted s) (Some (reply.Removed count)) types now before after
remove_reply follows counted keeps same_types same rising s t wanted features exchanges examined
    before after count types rows now removes puts holds typed found are count_is removes_are
    puts_are up applied =
    let n = t.number in
    let a = plain n wanted in
    let all = answer n wanted s in
    let es = map gone all in
    let es_are : exchanges ≡ es = are ∙ ap (map gone) found.features_are in
    let named = are_named s t holds.state typed in
    let each : All (IsExchangeIn s n t) es =
    exchanges_in s n t wanted (λ _. None) named (gives_none s n t) in
    let apart : are_distinct (owners_of es) ≡ true = owners_apart s n wanted (λ _. None) named in
    let is : now ≡ rows_of (exchanged_in n es s) =
    rows_after_all follows same rising s n t es rows now removes puts holds.state typed each apart
    holds.same_rows (removes_are ∙ ap (removes_of_all t) es_are)
    (puts_are ∙ ap (puts_of_all t) es_are) up applied in
    let none : length (new_keys t es) ≡ 0 = ap length (none_new t all) in
    let sum : length (rows_of (exchanged_in n es s)) + length (old_keys t es)
    ≡ length (rows_of s) + length (new_keys t es) =
    counted s n t es holds.state typed each apart in
    let few : length (rows_of (exchanged_in n es s)) ≤ 2000000 =
    omega (arith, sum, none, holds.limits.rows) in
    subst (λ o. Executes o (Some (reply.Removed count)) types now before after)
    (sym (step_answered s a t (removed a s) found.parts typed found.plan found.target)) (record {
      store = holds_exchanged keeps same_types s n t es types rows now holds typed each
          apart few is;
      reply = ap (λ (k : ℕ). Some (reply.Removed k)) (count_is ∙ ap length found.features_are);
      tally = found.tally ∙ ap (capped_sum before) found.read;
    })
