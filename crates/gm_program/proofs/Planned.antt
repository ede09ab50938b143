-- Questions by their plans.
use Rattle.std.proofs.Common.{◌≡◌, ◌≤◌, ◌<◌, ◌+◌, ◌*◌, ◌^◌, ◌||◌, ℕ, true, false, List, [], ◌∷◌}
use Rattle.std.proofs.Common.{◌++◌, map, length, Some, None, refl, sym, ap, subst, ◌∙◌, arith}
use Rattle.std.specs.Prelude.{if◌then◌else◌, Result, Ok, Err, OnOk}
use Rattle.std.specs.List.{list_any}
use Rattle.std.proofs.lemmas.List.Sums.{count_by-le-length}
use Rattle.gm_base.specs.declared.code.Code.{Code}
use Rattle.gm_base.specs.declared.code.Code.TheVariants.{E19}
use Rattle.gm_table.specs.Sorted.{Rows}
use Rattle.gm_types.specs.Specification.{Specification}
use Rattle.gm_feature.specs.declared.feature.Feature.{Feature}
use Rattle.gm_filter.specs.Truth.{is_true}
use Rattle.gm_engine_rows.specs.State.{State, IsState, type_at}
use Rattle.gm_plan.specs.Inside.{is_inside, read_spans}
use Rattle.gm_script.specs.declared.reply.Reply.TheVariants as reply
use Rattle.gm_script.specs.Order.{Asked}
use Rattle.gm_strategy.specs.Choice.{Chosen}
use Rattle.gm_strategy.specs.Strategy.{plan_of}
use Rattle.gm_program.specs.Found.{tests_of}
use Rattle.gm_program.specs.Question.{rows_read, rows_examined}
use Rattle.gm_program.specs.Serve.{Executes}
use Rattle.gm_program.specs.Step.{Outcome, refused, planned, asked_of, is_target}
use Rattle.gm_program.specs.Store.{Types, Holds, IsTypeOf}
use Rattle.gm_program.proofs.Collected.{AreNamed}

pub on_ok : {T E : Type 0} {P Q : Type 0} (r : Result T E) → OnOk r P → (P → Q) → OnOk r Q
on_ok (Ok x) p f = f p
on_ok (Err e) p f = p

-- ---- the step of a question
pub step_refused : (s : State) (a : Asked) (t : Specification)
    (outcome : Specification → List Chosen → Outcome) (code : Code) → type_at a.number s ≡ Some t
    → planned s a.target (plan_of t a.wanted a.hint) (outcome t) ≡ refused s code 0
    → asked_of (type_at a.number s) a s outcome ≡ refused s code 0
step_refused s a t outcome code typed is = ap (λ o. asked_of o a s outcome) typed ∙ is

pub step_answered : (s : State) (a : Asked) (t : Specification)
    (outcome : Specification → List Chosen → Outcome) (parts : List Chosen)
    → type_at a.number s ≡ Some t
    → plan_of t a.wanted a.hint ≡ Some parts → is_target a.target ≡ true
    → asked_of (type_at a.number s) a s outcome ≡ outcome t parts
step_answered s a t outcome parts typed plan within =
    ap (λ o. asked_of o a s outcome) typed
    ∙ ap (λ o. planned s a.target o (outcome t)) plan
    ∙ ap (λ b. if b then outcome t parts else refused s E19 0) within

pub executes_refused : (s : State) (outcome : Outcome) (code : Code) (types : Types) (rows : Rows)
    (tally : ℕ) → tally < 2 ^ 64 → Holds s types rows → outcome ≡ refused s code 0
    → Executes outcome (Some (reply.Refusal code None)) types rows tally tally
executes_refused s outcome code types rows tally fits holds is =
    subst (λ o. Executes o (Some (reply.Refusal code None)) types rows tally tally) (sym is)
    (record { store = holds; reply = refl; tally = omega (arith, fits) })

pub type_of : (s : State) (t : Specification) (types : Types) (rows : Rows) → Holds s types rows
    → type_at t.number s ≡ Some t → IsTypeOf s t rows
type_of s t types rows holds typed =
    record {
      state = holds.state;
      limits = holds.limits;
      typed = typed;
      same_rows = holds.same_rows;
    }

pub are_named : (s : State) (t : Specification) → IsState s → type_at t.number s ≡ Some t
    → AreNamed s t.number
are_named s t state typed = λ id f at. (state.held t.number t id f typed at).named

-- ---- the filters of the parts
pub any_test : (f : Feature) (parts : List Chosen)
    → list_any (λ part. is_true f part.wanted) parts ≡ list_any (λ t. is_true f t) (tests_of parts)
any_test f [] = refl
any_test f (part ∷ parts) =
    elim (is_true f part.wanted) as
    (λ b. (b || list_any (λ p. is_true f p.wanted) parts)
    ≡ (b || list_any (λ t. is_true f t) (tests_of parts)))
    [ true ↦ refl | false ↦ any_test f parts ]

pub map-append : {A B : Type 0} (f : A → B) (xs ys : List A)
    → map f (xs ++ ys) ≡ map f xs ++ map f ys
map-append f [] ys = refl
map-append f (x ∷ xs) ys = ap (λ rest. f x ∷ rest) (map-append f xs ys)

-- ---- the rows of the parts
examined_cons : (t : Specification) (target : ℕ) (rows : Rows) (part : Chosen) (parts : List Chosen)
    → rows_examined t target rows (part ∷ parts)
    ≡ rows_read t target rows part + rows_examined t target rows parts
examined_cons t target rows part parts = refl

pub examined_more : (t : Specification) (target : ℕ) (rows : Rows) (parts : List Chosen)
    (part : Chosen)
    → rows_examined t target rows (parts ++ part ∷ [])
    ≡ rows_examined t target rows parts + rows_read t target rows part
examined_more t target rows [] part = omega arith
examined_more t target rows (p ∷ parts) part =
    omega (
      arith,
      examined_more t target rows parts part,
      examined_cons t target rows p parts,
      examined_cons t target rows p (parts ++ part ∷ []),
    )

pub few_read : (t : Specification) (target : ℕ) (rows : Rows) (part : Chosen)
    → length rows ≤ 2000000 → rows_read t target rows part ≤ 2000000
few_read t target rows part few =
    omega (
      arith,
      few,
      count_by-le-length
          (λ row. is_inside row.0 (read_spans t part.index part.wanted target)) rows,
    )

pub few_examined : (t : Specification) (target : ℕ) (rows : Rows) (parts : List Chosen)
    → length rows ≤ 2000000 → rows_examined t target rows parts ≤ length parts * 2000000
few_examined t target rows [] few = omega arith
few_examined t target rows (part ∷ parts) few =
    omega (
      arith,
      few_read t target rows part few,
      few_examined t target rows parts few,
      examined_cons t target rows part parts,
    )
