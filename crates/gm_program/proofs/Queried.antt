-- What the rows are that are found for a question, and what it is answered.
use Rattle.std.proofs.Common.{◌≡◌, ℕ, List, map, length, Some, sym, ap, subst, ◌∙◌}
use Rattle.std.specs.Prelude.{All}
use Rattle.std.specs.List.{flat_map}
use Rattle.std.proofs.lemmas.List.Elements.{All-from_recursion}
use Rattle.gm_base.proofs.Lists.{each_as}
use Rattle.gm_base.specs.Counter.{capped_sum}
use Rattle.gm_table.specs.Sorted.{Rows}
use Rattle.gm_types.specs.Specification.{Specification}
use Rattle.gm_feature.specs.declared.feature.Feature.{Feature}
use Rattle.gm_feature.specs.Feature.{Fits}
use Rattle.gm_scan.specs.declared.found_rows.Keeping.TheVariants as keeping_of
use Rattle.gm_scan.specs.FoundRows.{FoundRow, row_of}
use Rattle.gm_engine_rows.specs.State.{State, type_at}
use Rattle.gm_engine_rows.specs.Rows.{rows_of}
use Rattle.gm_script.specs.declared.reply.Reply.TheVariants as reply
use Rattle.gm_script.specs.Order.{Asked}
use Rattle.gm_script.specs.Reply.{row_line}
use Rattle.gm_strategy.specs.declared.part.Part.{Part}
use Rattle.gm_strategy.specs.Choice.{chosen_of}
use Rattle.gm_program.specs.declared.execute.plan.Planned.TheVariants as plan
use Rattle.gm_program.specs.Collecting.{Counts}
use Rattle.gm_program.specs.Found.{tests_of}
use Rattle.gm_program.specs.InOrder.{AreRowsOf, in_order}
use Rattle.gm_program.specs.Kept.{AreKept}
use Rattle.gm_program.specs.Plan.{IsPlanned}
use Rattle.gm_program.specs.Question.{answer, rows_examined}
use Rattle.gm_program.specs.Serve.{Executes}
use Rattle.gm_program.specs.Step.{found, counted, query_step, count_step}
use Rattle.gm_program.specs.Store.{Types, Holds}
use Rattle.gm_program.proofs.Answering.{answer_length}
use Rattle.gm_program.proofs.Exchanging.{answer_bound}
use Rattle.gm_program.proofs.Kept.{kept_in_order}
use Rattle.gm_program.proofs.Planned.{step_answered, are_named}
use Rattle.gm_program.proofs.Questions.{FindAll, tests_same}

-- in order they are those of the answer, which fit
pub rows_are : FindAll
    → (s : State) (a : Asked) (t : Specification) (parts : List Part) (target : ℕ)
    (rows : List FoundRow) (types : Types) (table : Rows)
    → Holds s types table → type_at t.number s ≡ Some t → t.number ≡ a.number
    → IsPlanned t a (plan.Parts parts target)
    → AreKept s t.number (tests_of (map chosen_of parts)) keeping_of.Rows rows
    → AreRowsOf t (in_order rows) (answer a.number a.wanted s)
rows_are all s a t parts target rows types table holds typed number planned kept =
    let fit : All (Fits t) (answer t.number a.wanted s) =
    All-from_recursion (Fits t) (answer t.number a.wanted s)
    (each_as (answer t.number a.wanted s)
    (λ f bound. (holds.state.held t.number t f.id f typed bound).fits)
    (answer_bound s t.number a.wanted (are_named s t holds.state typed))) in
    record {
      fit = subst (λ (n : ℕ). All (Fits t) (answer n a.wanted s)) number fit;
      are = kept_in_order s t.number (tests_of (map chosen_of parts)) a.wanted keeping_of.Rows rows
          (are_named s t holds.state typed) kept (tests_same all t a parts planned.2)
          ∙ ap (λ (n : ℕ). map row_of (answer n a.wanted s)) number;
    }

pub query_reply : FindAll
    → (s : State) (a : Asked) (t : Specification) (parts : List Part) (target : ℕ)
    (rows : List FoundRow) (lines : List ℕ) (matched examined before after : ℕ) (types : Types)
    (table : Rows)
    → Holds s types table → type_at t.number s ≡ Some t → t.number ≡ a.number
    → IsPlanned t a (plan.Parts parts target)
    → AreKept s t.number (tests_of (map chosen_of parts)) keeping_of.Rows rows
    → ((features : List Feature) → AreRowsOf t (in_order rows) features
    → (lines ≡ flat_map row_line features) × (matched ≡ length features))
    → (examined ≡ rows_examined t target (rows_of s) (map chosen_of parts))
    × (after ≡ capped_sum before examined)
    → Executes (query_step a s) (Some (reply.Found lines matched examined)) types table before after
query_reply all s a t parts target rows lines matched examined before after types table holds typed
    number planned kept printed read =
    let at : type_at a.number s ≡ Some t = ap (λ (n : ℕ). type_at n s) (sym number) ∙ typed in
    let said = printed (answer a.number a.wanted s)
    (rows_are all s a t parts target rows types table holds typed number planned kept) in
    let count : examined ≡ rows_examined t a.target (rows_of s) (map chosen_of parts) =
    read.0 ∙ ap (λ (n : ℕ). rows_examined t n (rows_of s) (map chosen_of parts)) planned.0 in
    subst (λ o. Executes o (Some (reply.Found lines matched examined)) types table before after)
    (sym (step_answered s a t (found a s) (map chosen_of parts) at planned.2 planned.1)) (record {
      store = holds;
      reply = λ i. Some (reply.Found (said.0 i) (said.1 i) (count i));
      tally = read.1 ∙ ap (capped_sum before) count;
    })

pub count_reply : FindAll
    → (s : State) (a : Asked) (t : Specification) (parts : List Part) (target : ℕ)
    (matched examined before after : ℕ) (types : Types) (table : Rows)
    → Holds s types table → type_at t.number s ≡ Some t → t.number ≡ a.number
    → IsPlanned t a (plan.Parts parts target)
    → Counts s t.number (tests_of (map chosen_of parts)) matched
    → (examined ≡ rows_examined t target (rows_of s) (map chosen_of parts))
    × (after ≡ capped_sum before examined)
    → Executes (count_step a s) (Some (reply.Counted matched examined)) types table before after
count_reply all s a t parts target matched examined before after types table holds typed number
    planned counts read =
    let at : type_at a.number s ≡ Some t = ap (λ (n : ℕ). type_at n s) (sym number) ∙ typed in
    let same : matched ≡ length (answer a.number a.wanted s) =
    counts.are ∙ answer_length s t.number (tests_of (map chosen_of parts)) a.wanted counts.held
    (are_named s t holds.state typed) counts.collects (tests_same all t a parts planned.2)
    ∙ ap (λ (n : ℕ). length (answer n a.wanted s)) number in
    let count : examined ≡ rows_examined t a.target (rows_of s) (map chosen_of parts) =
    read.0 ∙ ap (λ (n : ℕ). rows_examined t n (rows_of s) (map chosen_of parts)) planned.0 in
    subst (λ o. Executes o (Some (reply.Counted matched examined)) types table before after)
    (sym (step_answered s a t (counted a s) (map chosen_of parts) at planned.2 planned.1)) (record {
      store = holds;
      reply = λ i. Some (reply.Counted (same i) (count i));
      tally = read.1 ∙ ap (capped_sum before) count;
    })
