-- A part finds each feature once.
use Rattle.std.proofs.Common.{◌≡◌, ◌≤◌, ℕ, ◌+◌, Bool, true, false, cond, T, ⊎_elim, List, [], ◌∷◌}
use Rattle.std.proofs.Common.{◌++◌, length, Option, Some, None, refl, sym, ap, subst, ◌∙◌, arith}
use Rattle.std.specs.Prelude.{is_some, if◌then◌else◌}
use Rattle.std.specs.List.{AllByRecursion}
use Rattle.std.specs.Ordering.{nat_cmp}
use Rattle.std.specs.Cmp.Lexicographic.{slice_cmp, nat_list_cmp_total}
use Rattle.std.specs.FinMap.{find, put, is_sorted, entries_sorted}
use Rattle.std.specs.FinMap.Entries.{below_all, find-put, is_sorted-put, length-put}
use Rattle.gm_base.proofs.Booleans.{true_or_false, both_of-T}
use Rattle.gm_base.specs.Spans.{Span}
use Rattle.gm_table.specs.Apart.{times_inside, AreApart}
use Rattle.gm_table.specs.Sorted.{Rows, is_within, between}
use Rattle.gm_table.specs.Spans.{rows_in}
use Rattle.gm_types.specs.declared.index.IndexKind.{IndexKind}
use Rattle.gm_types.specs.Specification.{Specification}
use Rattle.gm_feature.specs.declared.feature.Feature.{Feature}
use Rattle.gm_filter.specs.Tree.{Tree}
use Rattle.gm_filter.specs.Truth.{is_true}
use Rattle.gm_keys.specs.Key.{key_of}
use Rattle.gm_scan.specs.Held.{Hold, matching}
use Rattle.gm_engine_rows.specs.State.{State, feature_at}
use Rattle.gm_engine_rows.specs.Rows.{row_map, rows_of}
use Rattle.gm_program.specs.Collecting.{Collected, collected}
use Rattle.gm_program.proofs.Answering.{less_not_key}
use Rattle.gm_program.proofs.Collected.{is_key, same_key, key_itself, insert_put}
use Rattle.gm_program.proofs.Inside.{SameBytes, IsRowOfType}

-- how many of the features have the identifier, and how many of the rows the key
abbrev pub times : List ℕ → List Feature → ℕ
times id [] = 0
times id (f ∷ fs) = cond (is_key id f.id) 1 0 + times id fs

abbrev times_at : List ℕ → Rows → ℕ
times_at key [] = 0
times_at key (row ∷ rows) = cond (is_key key row.0) 1 0 + times_at key rows

-- ---- what is collected of features with an identifier each
no_value : {V : Type 0} (o : Option V) → o ≡ None → is_some o ≡ false
no_value o none = ap is_some none

abbrev AreNew : List Feature → Collected → Type 0
AreNew fs es = (id : List ℕ) → 1 ≤ times id fs → find (slice_cmp nat_cmp) id es ≡ None

abbrev pub AreOnce : List Feature → Type 0
AreOnce fs = (id : List ℕ) → times id fs ≤ 1

times_first : (f : Feature) (fs : List Feature) → 1 ≤ times f.id (f ∷ fs)
times_first f fs =
    subst (λ (b : Bool). 1 ≤ cond b 1 0 + times f.id fs) (sym (key_itself f.id)) (omega arith)

times_more : (b : Bool) (n : ℕ) → 1 ≤ n → 1 ≤ cond b 1 0 + n
times_more true n some = omega arith
times_more false n some = omega (arith, some)

times_two : (b : Bool) (n : ℕ) → cond b 1 0 + n ≤ 1 → 1 ≤ n → b ≡ false
times_two true n few some = absurd (omega (arith, few, some))
times_two false n few some = refl

times_rest : (b : Bool) (n : ℕ) → cond b 1 0 + n ≤ 1 → n ≤ 1
times_rest true n few = omega (arith, few)
times_rest false n few = omega (arith, few)

pub collected_length : (es : Collected) (fs : List Feature) → T (is_sorted (slice_cmp nat_cmp) es)
    → AreOnce fs → AreNew fs es → length (collected es fs) ≡ length es + length fs
collected_length es [] sorted once new = omega arith
collected_length es (f ∷ fs) sorted once new =
    let after = put (slice_cmp nat_cmp) f.id f.values es in
    let none : find (slice_cmp nat_cmp) f.id es ≡ None = new f.id (times_first f fs) in
    let longer : length after ≡ length es + 1 =
    length-put (slice_cmp nat_cmp) nat_list_cmp_total f.id f.values es sorted
    ∙ ap (λ b. cond b (length es) (length es + 1))
    (no_value (find (slice_cmp nat_cmp) f.id es) none) in
    let rest : length (collected after fs) ≡ length after + length fs =
    collected_length after fs
    (is_sorted-put (slice_cmp nat_cmp) nat_list_cmp_total f.id f.values es sorted)
    (λ id. times_rest (is_key id f.id) (times id fs) (once id))
    (λ id some.
    find-put (slice_cmp nat_cmp) nat_list_cmp_total id f.id f.values es
    ∙ ap (λ b. cond b (Some f.values) (find (slice_cmp nat_cmp) id es))
    (times_two (is_key id f.id) (times id fs) (once id) some)
    ∙ new id (times_more (is_key id f.id) (times id fs) some)) in
    ap (λ entries. length (collected entries fs)) (insert_put es f.id f.values)
    ∙ omega (arith, rest, longer)

-- ---- rows in spans
times_append : (key : List ℕ) (one other : Rows)
    → times_at key (one ++ other) ≡ times_at key one + times_at key other
times_append key [] other = omega arith
times_append key (row ∷ one) other = let rest = times_append key one other in omega (arith, rest)

times_none : (key : List ℕ) (rows : Rows) → T (below_all (slice_cmp nat_cmp) key rows)
    → times_at key rows ≡ 0
times_none key [] below = refl
times_none key (row ∷ rows) below =
    let h = both_of-T _ _ below in
    subst (λ (b : Bool). cond b 1 0 + times_at key rows ≡ 0) (sym (less_not_key key row.0 h.0))
    (omega (arith, times_none key rows h.1))

times_sorted : (key : List ℕ) (rows : Rows) → T (is_sorted (slice_cmp nat_cmp) rows)
    → times_at key rows ≤ 1
times_sorted key [] sorted = omega arith
times_sorted key (row ∷ rows) sorted =
    let h = both_of-T _ _ sorted in
    ⊎_elim
    (λ same.
    let none : times_at key rows ≡ 0 =
    subst (λ (k : List ℕ). times_at k rows ≡ 0) (sym (same_key key row.0 same))
    (times_none row.0 rows h.0) in
    subst (λ (b : Bool). cond b 1 0 + times_at key rows ≤ 1) (sym same) (omega (arith, none)))
    (λ apart. subst (λ (b : Bool). cond b 1 0 + times_at key rows ≤ 1) (sym apart)
    (omega (arith, times_sorted key rows h.1)))
    (true_or_false (is_key key row.0))

times_between : (low high key : List ℕ) (rows : Rows)
    → times_at key (between low high rows)
    ≤ (if is_within low high key then times_at key rows else 0)
times_between low high key [] =
    elim (is_within low high key) as (λ b. 0 ≤ (if b then 0 else 0))
    [ true ↦ omega arith | false ↦ omega arith ]
times_between low high key (row ∷ rows) =
    let rest = times_between low high key rows in
    ⊎_elim
    (λ same.
    let one : key ≡ row.0 = same_key key row.0 same in
    subst (λ (k : List ℕ). times_at key
    (cond (is_within low high k) (row ∷ between low high rows) (between low high rows))
    ≤ (if is_within low high key then times_at key (row ∷ rows) else 0)) one
    (elim (is_within low high key) as
    (λ b. times_at key (between low high rows) ≤ (if b then times_at key rows else 0)
    → times_at key (cond b (row ∷ between low high rows) (between low high rows))
    ≤ (if b then times_at key (row ∷ rows) else 0)) [
      | true ↦ λ few. omega (arith, few)
      | false ↦ λ few. few
    ] rest))
    (λ apart.
    let same_rows : times_at key (row ∷ rows) ≡ times_at key rows =
    subst (λ (b : Bool). cond b 1 0 + times_at key rows ≡ times_at key rows) (sym apart)
    (omega arith) in
    let kept : times_at key (row ∷ between low high rows) ≡ times_at key (between low high rows) =
    subst (λ (b : Bool). cond b 1 0 + times_at key (between low high rows)
    ≡ times_at key (between low high rows)) (sym apart) (omega arith) in
    subst (λ (n : ℕ). times_at key (between low high (row ∷ rows))
    ≤ (if is_within low high key then n else 0)) (sym same_rows)
    (elim (is_within low high row.0) as
    (λ b. times_at key (cond b (row ∷ between low high rows) (between low high rows))
    ≤ (if is_within low high key then times_at key rows else 0)) [
      | true ↦ subst (λ (n : ℕ). n ≤ (if is_within low high key then times_at key rows else 0))
          (sym kept) rest
      | false ↦ rest
    ]))
    (true_or_false (is_key key row.0))

times_in : (key : List ℕ) (spans : List Span) (rows : Rows) → times_at key rows ≤ 1
    → times_at key (rows_in spans rows) ≤ times_inside key spans
times_in key [] rows few = omega arith
times_in key (span ∷ spans) rows few =
    let here = times_between span.0 span.1 key rows in
    let rest = times_in key spans rows few in
    let sum = times_append key (between span.0 span.1 rows) (rows_in spans rows) in
    elim (is_within span.0 span.1 key) as
    (λ b. times_at key (between span.0 span.1 rows) ≤ (if b then times_at key rows else 0)
    → times_at key (between span.0 span.1 rows ++ rows_in spans rows)
    ≤ (if b then 1 else 0) + times_inside key spans) [
      | true ↦ λ h. omega (arith, h, rest, sum, few)
      | false ↦ λ h. omega (arith, h, rest, sum)
    ] here

-- ---- the features of rows
abbrev bytes_of_key : Option (List ℕ) → List ℕ
bytes_of_key None = []
bytes_of_key (Some key) = key

abbrev key_in : Specification → IndexKind → Option Feature → List ℕ
key_in t kind None = []
key_in t kind (Some f) = bytes_of_key (key_of t kind f)

-- where the row of an identifier stands
abbrev key_at : State → Specification → IndexKind → List ℕ → List ℕ
key_at s t kind id = key_in t kind (feature_at t.number id s)

key_is : (s : State) (t : Specification) (kind : IndexKind) (f : Feature) (key : List ℕ)
    → feature_at t.number f.id s ≡ Some f → key_of t kind f ≡ Some key → key_at s t kind f.id ≡ key
key_is s t kind f key held keyed = ap (key_in t kind) held ∙ ap bytes_of_key keyed

times_held : SameBytes
    → (s : State) (t : Specification) (kind : IndexKind) (id : List ℕ) (rows : Rows)
    (held : List Feature) → AllByRecursion (IsRowOfType s t kind) rows → Hold t rows held
    → times id held ≤ times_at (key_at s t kind id) rows
times_held same s t kind id [] [] each holds = omega arith
times_held same s t kind id [] (f ∷ held) each holds = absurd holds
times_held same s t kind id (row ∷ rows) [] each holds = absurd holds
times_held same s t kind id (row ∷ rows) (f ∷ held) each holds =
    let rest = times_held same s t kind id rows held each.1 holds.1 in
    let is : each.0.feature ≡ f =
    same t each.0.feature f each.0.bytes_are.fits holds.0.fits
    (sym each.0.bytes_are.same ∙ holds.0.same) in
    let at : key_at s t kind f.id ≡ row.0 =
    subst (λ (g : Feature). key_at s t kind g.id ≡ row.0) is
    (key_is s t kind each.0.feature row.0 each.0.held each.0.keyed) in
    ⊎_elim
    (λ one.
    let key : key_at s t kind id ≡ row.0 = ap (key_at s t kind) (same_key id f.id one) ∙ at in
    let there : is_key (key_at s t kind id) row.0 ≡ true =
    ap (λ (k : List ℕ). is_key k row.0) key ∙ key_itself row.0 in
    subst (λ (b : Bool). cond b 1 0 + times id held ≤ times_at (key_at s t kind id) (row ∷ rows))
    (sym one)
    (subst (λ (b : Bool). 1 + times id held ≤ cond b 1 0 + times_at (key_at s t kind id) rows)
    (sym there) (omega (arith, rest))))
    (λ apart.
    subst (λ (b : Bool). cond b 1 0 + times id held ≤ times_at (key_at s t kind id) (row ∷ rows))
    (sym apart)
    (elim (is_key (key_at s t kind id) row.0) as
    (λ b. cond false 1 0 + times id held ≤ cond b 1 0 + times_at (key_at s t kind id) rows)
    [ true ↦ omega (arith, rest) | false ↦ omega (arith, rest) ]))
    (true_or_false (is_key id f.id))

times_matching : (id : List ℕ) (test : Tree) (held : List Feature)
    → times id (matching test held) ≤ times id held
times_matching id test [] = omega arith
times_matching id test (f ∷ held) =
    let rest = times_matching id test held in
    elim (is_true f test) as
    (λ b. times id (cond b (f ∷ matching test held) (matching test held))
    ≤ cond (is_key id f.id) 1 0 + times id held) [
      | true ↦ omega (arith, rest)
      | false ↦ omega (arith, rest)
    ]

keys_once : (s : State) (key : List ℕ) → times_at key (rows_of s) ≤ 1
unfolding rows_of
keys_once s key = times_sorted key (rows_of s) (entries_sorted (row_map s))

pub found_once : SameBytes
    → (s : State) (t : Specification) (kind : IndexKind) (spans : List Span) (test : Tree)
    (held : List Feature) → AreApart spans
    → AllByRecursion (IsRowOfType s t kind) (rows_in spans (rows_of s))
    → Hold t (rows_in spans (rows_of s)) held → AreOnce (matching test held)
found_once same s t kind spans test held apart each holds = λ id.
    let key = key_at s t kind id in
    omega (
      arith,
      times_matching id test held,
      times_held same s t kind id (rows_in spans (rows_of s)) held each holds,
      times_in key spans (rows_of s) (keys_once s key),
      apart key,
    )

-- and so as many are collected as are found
pub collected_once : (fs : List Feature) → AreOnce fs → length (collected [] fs) ≡ length fs
collected_once fs once = let longer : length (collected [] fs) ≡ 0 + length fs =
    collected_length [] fs tt once (λ id some. refl) in omega (arith, longer)
