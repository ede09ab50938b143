-- What the features of a filter make of a store where they have another value.
use Rattle.std.proofs.Common.{◌≡◌, ◌+◌, ℕ, Bool, true, false, not, List, [], ◌∷◌, map, length}
use Rattle.std.proofs.Common.{length-append, Option, Some, None, refl, sym, ap, subst, ◌∙◌}
use Rattle.std.specs.Prelude.{All, nat_le, if◌then◌else◌}
use Rattle.std.proofs.lemmas.List.Elements.{All-from_recursion}
use Rattle.gm_base.proofs.Lists.{each_as}
use Rattle.gm_base.proofs.Options.{same_some}
use Rattle.gm_base.specs.Counter.{capped_sum}
use Rattle.gm_base.specs.declared.code.Code.TheVariants.{E19}
use Rattle.gm_table.specs.declared.row.Row.{Row}
use Rattle.gm_table.specs.Batch.{are_distinct, applied_at}
use Rattle.gm_table.specs.Sorted.{Rows, IsRising, at_key}
use Rattle.gm_types.specs.Specification.{Specification}
use Rattle.gm_feature.specs.declared.feature.Feature.{Feature}
use Rattle.gm_feature.specs.declared.value.Value.{Value}
use Rattle.gm_feature.specs.Feature.{Fits}
use Rattle.gm_filter.specs.Tree.{Tree}
use Rattle.gm_engine_rows.specs.declared.exchange.Exchange.{Exchange}
use Rattle.gm_engine_rows.specs.State.{State, IsState, IsHeld, type_at}
use Rattle.gm_engine_rows.specs.Rows.{rows_of}
use Rattle.gm_engine_rows.specs.Change.{keys_at, puts_of}
use Rattle.gm_engine_rows.specs.Exchange.{owners_of, removes_of_all, puts_of_all, old_keys}
use Rattle.gm_engine_rows.specs.Exchange.{new_keys, exchanged_in, IsExchangeIn}
use Rattle.gm_script.specs.declared.reply.Reply.TheVariants as reply
use Rattle.gm_program.specs.Limits.{has_too_many_rows}
use Rattle.gm_program.specs.Matched.{MayTake, IsAnswer}
use Rattle.gm_program.specs.Question.{answer, rows_examined}
use Rattle.gm_program.specs.Serve.{Executes}
use Rattle.gm_program.specs.Step.{refused, plain, with_value, given, modified, modify_step}
use Rattle.gm_program.specs.Store.{Types, Holds, IsTypeOf}
use Rattle.gm_program.proofs.Changing.{Same, Rising, length-puts, room_is, few_from_room}
use Rattle.gm_program.proofs.Exchanging.{FollowsAll, CountedAll, KeepsAll, SameTypesAll, IsBoundIn}
use Rattle.gm_program.proofs.Exchanging.{GivesHeld, answer_bound, exchanges_in, owners_apart}
use Rattle.gm_program.proofs.Exchanging.{rows_after_all, holds_exchanged}
use Rattle.gm_program.proofs.Planned.{are_named, step_answered}
use Rattle.gm_program.proofs.Values.{value_given}

-- the feature that takes the place
abbrev pub having : ℕ → Value → Feature → Option Feature
having place v f = Some (with_value place v f)

-- it fits, and has the identifier of the one before
pub gives_value : (s : State) (t : Specification) (place : ℕ) (v : Value) → IsState s
    → type_at t.number s ≡ Some t → MayTake t place v → GivesHeld s t.number t (having place v)
gives_value s t place v state typed takes f bound = λ g is.
    let held = state.held t.number t f.id f typed bound in
    subst (IsHeld t f.id) (same_some (with_value place v f) g is)
    (record { fits = value_given t f place v held.fits takes; named = refl })

-- the features of an answer fit
pub features_fit : (s : State) (t : Specification) (rows : Rows) (wanted : Tree)
    (features : List Feature) (examined before after : ℕ)
    → IsTypeOf s t rows → IsAnswer s t (plain t.number wanted) features examined before after
    → All (Fits t) features
features_fit s t rows wanted features examined before after own found =
    let all = answer t.number wanted s in
    subst (All (Fits t)) (sym found.features_are) (All-from_recursion (Fits t) all
    (each_as {P = IsBoundIn s t.number} {Q = Fits t} all
    (λ f bound. (own.state.held t.number t f.id f own.typed bound).fits)
    (answer_bound s t.number wanted (are_named s t own.state own.typed))))

-- ---- how many rows there are
puts_at : (t : Specification) (o : Option Feature) → length (puts_of t o) ≡ length (keys_at t o)
puts_at t None = refl
puts_at t (Some f) = length-puts t f

length-puts-all : (t : Specification) (es : List Exchange)
    → length (puts_of_all t es) ≡ length (new_keys t es)
length-puts-all t [] = refl
length-puts-all t (e ∷ es) =
    length-append (puts_of t e.new) (puts_of_all t es)
    ∙ (λ i. puts_at t e.new i + length-puts-all t es i)
    ∙ sym (length-append (keys_at t e.new) (new_keys t es))

room_for_all : CountedAll
    → (s : State) (n : ℕ) (t : Specification) (es : List Exchange) (count put : ℕ) → IsState s
    → type_at n s ≡ Some t → All (IsExchangeIn s n t) es
    → are_distinct (owners_of es) ≡ true → count ≡ length (rows_of s)
    → put ≡ length (puts_of_all t es)
    → nat_le (count + put) (2000000 + length (old_keys t es))
    ≡ not (has_too_many_rows (exchanged_in n es s))
room_for_all counted s n t es count put state typed each apart count_is put_is =
    let puts : put ≡ length (new_keys t es) = put_is ∙ length-puts-all t es in
    (λ i. nat_le (count_is i + puts i) (2000000 + length (old_keys t es)))
    ∙ room_is (length (rows_of (exchanged_in n es s))) (length (rows_of s)) (length (old_keys t es))
    (length (new_keys t es)) (counted s n t es state typed each apart)

-- what is told of room
pub room_told : CountedAll
    → (s : State) (t : Specification) (place : ℕ) (v : Value) (wanted : Tree)
    (features : List Feature) (exchanges : List Exchange) (examined before after count put : ℕ)
    (types : Types) (rows : Rows) (puts : List Row)
    → Holds s types rows → type_at t.number s ≡ Some t → MayTake t place v
    → IsAnswer s t (plain t.number wanted) features examined before after
    → exchanges ≡ map (given place v) features
    → count ≡ length rows → put ≡ length puts → puts ≡ puts_of_all t exchanges
    → nat_le (count + put) (2000000 + length (old_keys t exchanges))
    ≡ not (has_too_many_rows
    (exchanged_in t.number (map (given place v) (answer t.number wanted s)) s))
room_told counted s t place v wanted features exchanges examined before after count put types rows
    puts holds typed takes found are count_is put_is puts_are =
    let n = t.number in
    let es = map (given place v) (answer n wanted s) in
    let es_are : exchanges ≡ es = are ∙ ap (map (given place v)) found.features_are in
    let named = are_named s t holds.state typed in
    let gives = gives_value s t place v holds.state typed takes in
    let each : All (IsExchangeIn s n t) es =
    exchanges_in s n t wanted (having place v) named gives in
    let apart : are_distinct (owners_of es) ≡ true =
    owners_apart s n wanted (having place v) named in
    ap (λ (x : List Exchange). nat_le (count + put) (2000000 + length (old_keys t x))) es_are
    ∙ room_for_all counted s n t es count put holds.state typed each apart
    (count_is ∙ ap length holds.same_rows)
    (put_is ∙ ap length (puts_are ∙ ap (puts_of_all t) es_are))

-- ---- the step
-- where there would be too many rows
pub modify_full : (s : State) (t : Specification) (place : ℕ) (v : Value) (wanted : Tree)
    (features : List Feature) (examined before after : ℕ) (types : Types) (rows : Rows)
    → Holds s types rows → type_at t.number s ≡ Some t
    → IsAnswer s t (plain t.number wanted) features examined before after
    → has_too_many_rows (exchanged_in t.number (map (given place v) (answer t.number wanted s)) s)
    ≡ true
    → Executes (modify_step t.number place v wanted s) (Some (reply.Refusal E19 None)) types
    rows before after
modify_full s t place v wanted features examined before after types rows holds typed found many =
    let n = t.number in
    let a = plain n wanted in
    let all = answer n wanted s in
    let next = exchanged_in n (map (given place v) all) s in
    let read = rows_examined t a.target (rows_of s) found.parts in
    subst (λ o. Executes o (Some (reply.Refusal E19 None)) types rows before after)
    (sym (step_answered s a t (modified place v a s) found.parts typed found.plan found.target))
    (subst (λ (b : Bool). Executes
    (if b then refused s E19 read
    else record {
      state = next;
      reply = Some (reply.Modified (length all));
      examined = read;
    }) (Some (reply.Refusal E19 None)) types rows before after)
    (sym many) (record {
      store = holds;
      reply = refl;
      tally = found.tally ∙ ap (capped_sum before) found.read;
    }))

-- where there is room
pub modify_reply : FollowsAll → KeepsAll → SameTypesAll → Same → Rising
    → (s : State) (t : Specification) (place : ℕ) (v : Value) (wanted : Tree)
    (features : List Feature) (exchanges : List Exchange) (examined before after count : ℕ)
    (types : Types) (rows now : Rows) (removes : List (List ℕ)) (puts : List Row)
    → Holds s types rows → type_at t.number s ≡ Some t → MayTake t place v
    → IsAnswer s t (plain t.number wanted) features examined before after
    → exchanges ≡ map (given place v) features → count ≡ length features
    → has_too_many_rows (exchanged_in t.number (map (given place v) (answer t.number wanted s)) s)
    ≡ false
    → removes ≡ removes_of_all t exchanges → puts ≡ puts_of_all t exchanges → IsRising now
    → ((key : List ℕ) → at_key key now ≡ applied_at key removes puts (at_key key rows))
    → Executes (modify_step t.number place v wanted s) (Some (reply.Modified count)) types
    now before after
modify_reply follows keeps same_types same rising s t place v wanted features exchanges examined
    before after count types rows now removes puts holds typed takes found are count_is room
    removes_are puts_are up applied =
    let n = t.number in
    let a = plain n wanted in
    let all = answer n wanted s in
    let es = map (given place v) all in
    let next = exchanged_in n es s in
    let read = rows_examined t a.target (rows_of s) found.parts in
    let es_are : exchanges ≡ es = are ∙ ap (map (given place v)) found.features_are in
    let named = are_named s t holds.state typed in
    let gives = gives_value s t place v holds.state typed takes in
    let each : All (IsExchangeIn s n t) es =
    exchanges_in s n t wanted (having place v) named gives in
    let apart : are_distinct (owners_of es) ≡ true =
    owners_apart s n wanted (having place v) named in
    let is : now ≡ rows_of next =
    rows_after_all follows same rising s n t es rows now removes puts holds.state typed each apart
    holds.same_rows (removes_are ∙ ap (removes_of_all t) es_are)
    (puts_are ∙ ap (puts_of_all t) es_are) up applied in
    subst (λ o. Executes o (Some (reply.Modified count)) types now before after)
    (sym (step_answered s a t (modified place v a s) found.parts typed found.plan found.target))
    (subst (λ (b : Bool). Executes
    (if b then refused s E19 read
    else record {
      state = next;
      reply = Some (reply.Modified (length all));
      examined = read;
    }) (Some (reply.Modified count)) types now before after)
    (sym room) (record {
      store = holds_exchanged keeps same_types s n t es types rows now holds typed each apart
          (few_from_room next room) is;
      reply = ap (λ (k : ℕ). Some (reply.Modified k)) (count_is ∙ ap length found.features_are);
      tally = found.tally ∙ ap (capped_sum before) found.read;
    }))
