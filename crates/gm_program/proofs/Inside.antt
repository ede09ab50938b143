-- The rows that a part of a plan reads: whose they are, that none is left out, and how many they
-- are.
use Rattle.std.proofs.Common.{◌≡◌, ◌≤◌, ℕ, ◌+◌, Bool, true, false, true≢false, cond, ◌||◌}
use Rattle.std.proofs.Common.{◌⊎◌, inl, inr, List, [], ◌∷◌, ◌++◌, filter, length, count_by, Some}
use Rattle.std.proofs.Common.{refl, sym, ap, subst, ◌∙◌, arith, length-append}
use Rattle.std.specs.Prelude.{All}
use Rattle.std.proofs.lemmas.List.Elements.{All-from_recursion}
use Rattle.std.specs.List.{AllByRecursion}
use Rattle.std.proofs.lemmas.List.Sums.{length-filter}
use Rattle.std.specs.FinMap as features
use Rattle.std.specs.FinMap.{entries_sorted, get-entries}
use Rattle.std.proofs.lemmas.Bool.{and_parts}
use Rattle.gm_base.proofs.Options.{same_some}
use Rattle.gm_base.proofs.Lists.{each_as, all_append}
use Rattle.gm_base.proofs.Booleans.{or_true, false_of_never}
use Rattle.gm_base.specs.Spans.{Span}
use Rattle.gm_table.specs.Apart.{times_inside, AreApart}
use Rattle.gm_table.specs.Sorted.{Rows, RowMap, at_key, is_within, between}
use Rattle.gm_table.specs.Spans.{rows_in}
use Rattle.gm_types.specs.declared.index.IndexKind.{IndexKind}
use Rattle.gm_types.specs.FeatureType.{IsType}
use Rattle.gm_types.specs.Index.{has_index}
use Rattle.gm_types.specs.declared.index.IndexKind.TheVariants.{Id, Z2, Z3, Xz2, Xz3, Attr}
use Rattle.gm_types.specs.Specification.{Specification, shards_of}
use Rattle.gm_feature.specs.declared.feature.Feature.{Feature}
use Rattle.gm_feature.specs.Feature.{Fits}
use Rattle.gm_feature.specs.Writer.{feature_bytes}
use Rattle.gm_filter.specs.Suitability.{Suits}
use Rattle.gm_filter.specs.Tree.{Tree}
use Rattle.gm_filter.specs.Truth.{is_true}
use Rattle.gm_keys.specs.Key.{key_of}
use Rattle.gm_bounds.specs.Applicability.{does_apply, can_serve}
use Rattle.gm_engine_rows.specs.State.{State, IsState, type_at, feature_at}
use Rattle.gm_engine_rows.specs.Rows.{row_map, rows_of}
use Rattle.gm_bounds.specs.declared.ranges.KeyRanges.{KeyRanges}
use Rattle.gm_plan.specs.KeyRanges.{key_ranges}
use Rattle.gm_plan.specs.Spans.{spans_of}
use Rattle.gm_plan.specs.Inside.{is_inside, read_spans, IsRead}
use Rattle.gm_scan.specs.Held.{AreBytesOf, HasFeature, Hold, matching}
use Rattle.gm_strategy.specs.Choice.{Chosen, IsServed}
use Rattle.gm_program.specs.Found.{IsAmong, Finds}
use Rattle.gm_program.specs.Question.{rows_read}
use Rattle.gm_program.specs.Store.{IsTypeOf}
use Rattle.gm_program.proofs.Bound.{Found, Stand}
use Rattle.gm_program.proofs.Collected.{is_key, same_key}
use Rattle.gm_program.proofs.Answering.{each_found}

-- the laws
abbrev pub At : Type 0
At = (all : RowMap) (key : List ℕ) → at_key key (features.entries all) ≡ features.get all key

abbrev pub OfRanges : Type 0
OfRanges = (s u : Specification) (kind other : IndexKind) (ranges : KeyRanges) (f : Feature)
    (key : List ℕ) → IsType s → IsType u → has_index s kind ≡ true → has_index u other ≡ true
    → ranges.shards ≤ 255 → Fits u f → key_of u other f ≡ Some key
    → is_inside key (spans_of s kind ranges) ≡ true → (s.number ≡ u.number) × (kind ≡ other)

abbrev pub OfIndex : Specification → Type 0
OfIndex s = (u : Specification) (kind other : IndexKind) (t : Tree) (target : ℕ) (f : Feature)
    (key : List ℕ) → IsType s → IsType u → has_index s kind ≡ true → has_index u other ≡ true
    → Fits u f → key_of u other f ≡ Some key → is_inside key (read_spans s kind t target) ≡ true
    → (s.number ≡ u.number) × (kind ≡ other)

shards_few : (s : Specification) (kind : IndexKind) (t : Tree) (target : ℕ) → shards_of s ≤ 255
    → (key_ranges s kind t target).shards ≤ 255
shards_few s Id t target few = omega arith
shards_few s Z2 t target few = few
shards_few s Z3 t target few = few
shards_few s Xz2 t target few = few
shards_few s Xz3 t target few = few
shards_few s (Attr number) t target few = omega arith

pub of_index_from : OfRanges → (t : Specification) → shards_of t ≤ 255 → OfIndex t
of_index_from law t few = λ u kind other w target f key typed utyped has uhas fits keyed inside.
    law t u kind other (key_ranges t kind w target) f key typed utyped has uhas
    (shards_few t kind w target few) fits keyed inside

abbrev pub KeysInside : Type 0
KeysInside = (s : Specification) (kind : IndexKind) (t : Tree) (target : ℕ) (f : Feature) → IsType s
    → Suits s t → does_apply s kind t ≡ true → 1 ≤ target → Fits s f → is_true f t ≡ true
    → IsRead s kind t target f

abbrev pub SameBytes : Type 0
SameBytes = (t : Specification) (f g : Feature) → Fits t f → Fits t g
    → feature_bytes f ≡ feature_bytes g → f ≡ g

pub index_applies : (s : Specification) (kind : IndexKind) (t : Tree) → does_apply s kind t ≡ true
    → has_index s kind ≡ true
index_applies s kind t is = (and_parts (has_index s kind) (can_serve s kind t) is).0

-- ---- whose a row is
abbrev Row : Type 0
Row = List ℕ × List ℕ

-- the row is that of a feature of the type, in the index
pub record IsRowOfType (s : State) (t : Specification) (kind : IndexKind) (row : Row) : Type 0 where
  pub feature : Feature
  pub held : feature_at t.number feature.id s ≡ Some feature
  pub keyed : key_of t kind feature ≡ Some row.0
  pub bytes_are : AreBytesOf t row.1 feature

pub row_inside : Found
    → (s : State) (t : Specification) (of_index : OfIndex t) (kind : IndexKind) (wanted : Tree)
    (target : ℕ) (key bytes : List ℕ) → IsState s → type_at t.number s ≡ Some t
    → has_index t kind ≡ true
    → at_key key (rows_of s) ≡ Some bytes → is_inside key (read_spans t kind wanted target) ≡ true
    → IsRowOfType s t kind (key, bytes)
row_inside found s t of_index kind wanted target key bytes state typed has at inside =
    let r = found s key bytes at in
    let here = state.placed r.number r.specification r.typed in
    let there = state.placed t.number t typed in
    let held = state.held r.number r.specification r.id r.feature r.typed r.held in
    let own = of_index r.specification kind r.index wanted target r.feature key there.typed
    here.typed has r.enabled held.fits r.keyed inside in
    let number : r.number ≡ t.number = sym here.numbered ∙ sym own.0 in
    let same : r.specification ≡ t =
    same_some r.specification t (sym r.typed ∙ ap (λ (n : ℕ). type_at n s) number ∙ typed) in
    record {
      feature = r.feature;
      held = (λ i. feature_at (sym number i) (held.named i) s) ∙ r.held;
      keyed = (λ i. key_of (sym same i) (own.1 i) r.feature) ∙ r.keyed;
      bytes_are = record { fits = subst (λ u. Fits u r.feature) same held.fits; same = r.same };
    }

each_filtered : {A : Type 0} {P Q : A → Type 0} (test : A → Bool) (xs : List A)
    → ((x : A) → P x → test x ≡ true → Q x) → AllByRecursion P xs
    → AllByRecursion Q (filter test xs)
each_filtered test [] so each = tt
each_filtered {A = A} {Q = Q} test (x ∷ xs) so each =
    let rest = each_filtered test xs so each.1 in
    elim (test x) as
    (λ t. test x ≡ t → AllByRecursion Q (cond t (x ∷ filter test xs) (filter test xs)))
    [ true ↦ λ is. (so x each.0 is, rest) | false ↦ λ _. rest ] refl

each_in : (P : Row → Type 0) (spans : List Span) (rows : Rows)
    → AllByRecursion (λ row. is_inside row.0 spans ≡ true → P row) rows
    → AllByRecursion P (rows_in spans rows)
each_in P [] rows each = tt
each_in P (span ∷ spans) rows each =
    all_append P (between span.0 span.1 rows) (rows_in spans rows)
    (each_filtered (λ row. is_within span.0 span.1 row.0) rows
    (λ row so within. so (ap (λ b. b || is_inside row.0 spans) within)) each)
    (each_in P spans rows
    (each_as rows (λ row so inside. so
    (ap (λ b. is_within span.0 span.1 row.0 || b) inside
    ∙ or_true (is_within span.0 span.1 row.0))) each))

-- each row is what stands at its key
each_stands : At → (s : State)
    → AllByRecursion (λ row. at_key row.0 (rows_of s) ≡ Some row.1) (rows_of s)
unfolding rows_of
each_stands at s =
    each_as (rows_of s) (λ row found. at (row_map s) row.0 ∙ get-entries (row_map s) row.0 ∙ found)
    (each_found (rows_of s) (entries_sorted (row_map s)))

-- each row that is read is that of a feature of the type
pub rows_are_of_type : At → Found
    → (s : State) (t : Specification) (of_index : OfIndex t) (kind : IndexKind) (wanted : Tree)
    (target : ℕ) → IsState s → type_at t.number s ≡ Some t → has_index t kind ≡ true
    → AllByRecursion (IsRowOfType s t kind) (rows_in (read_spans t kind wanted target) (rows_of s))
rows_are_of_type at found s t of_index kind wanted target state typed has =
    each_in (IsRowOfType s t kind) (read_spans t kind wanted target) (rows_of s)
    (each_as (rows_of s)
    (λ row stands inside. row_inside found s t of_index kind wanted target row.0 row.1 state
    typed has stands inside) (each_stands at s))

pub rows_have_features : (s : State) (t : Specification) (kind : IndexKind) (rows : Rows)
    → AllByRecursion (IsRowOfType s t kind) rows → AllByRecursion (λ row. HasFeature t row.1) rows
rows_have_features s t kind rows each = each_as rows (λ row own. (own.feature, own.bytes_are)) each

-- ---- none is left out
abbrev Has : List ℕ → List ℕ → Rows → Type 0
Has key bytes [] = ⊥
Has key bytes (row ∷ rows) = ((key ≡ row.0) × (bytes ≡ row.1)) ⊎ Has key bytes rows

has_at : (key bytes : List ℕ) (rows : Rows) → at_key key rows ≡ Some bytes → Has key bytes rows
has_at key bytes [] at = cc
has_at key bytes (row ∷ rows) at =
    elim (is_key key row.0) as
    (λ t. is_key key row.0 ≡ t → cond t (Some row.1) (at_key key rows) ≡ Some bytes
    → Has key bytes (row ∷ rows)) [
      | true ↦ λ is here. inl (same_key key row.0 is, sym (same_some row.1 bytes here))
      | false ↦ λ _ later. inr (has_at key bytes rows later)
    ] refl at

has_left : (key bytes : List ℕ) (one other : Rows) → Has key bytes one
    → Has key bytes (one ++ other)
has_left key bytes [] other has = absurd has
has_left key bytes (row ∷ one) other (inl here) = inl here
has_left key bytes (row ∷ one) other (inr later) = inr (has_left key bytes one other later)

has_right : (key bytes : List ℕ) (one other : Rows) → Has key bytes other
    → Has key bytes (one ++ other)
has_right key bytes [] other has = has
has_right key bytes (row ∷ one) other has = inr (has_right key bytes one other has)

has_filtered : (test : Row → Bool) (key bytes : List ℕ) (rows : Rows) → test (key, bytes) ≡ true
    → Has key bytes rows → Has key bytes (filter test rows)
has_filtered test key bytes [] passes has = absurd has
has_filtered test key bytes (row ∷ rows) passes (inl here) =
    let is : test row ≡ true = (λ i. test (sym here.0 i, sym here.1 i)) ∙ passes in
    subst (λ (b : Bool). Has key bytes (cond b (row ∷ filter test rows) (filter test rows)))
    (sym is) (inl here)
has_filtered test key bytes (row ∷ rows) passes (inr later) =
    let rest = has_filtered test key bytes rows passes later in
    elim (test row) as (λ b. Has key bytes (cond b (row ∷ filter test rows) (filter test rows)))
    [ true ↦ inr rest | false ↦ rest ]

has_inside : (key bytes : List ℕ) (spans : List Span) (rows : Rows) → is_inside key spans ≡ true
    → Has key bytes rows → Has key bytes (rows_in spans rows)
has_inside key bytes [] rows inside has = cc
has_inside key bytes (span ∷ spans) rows inside has =
    elim (is_within span.0 span.1 key) as
    (λ t. is_within span.0 span.1 key ≡ t → (t || is_inside key spans) ≡ true
    → Has key bytes (rows_in (span ∷ spans) rows)) [
      | true ↦ λ within _. has_left key bytes (between span.0 span.1 rows) (rows_in spans rows)
          (has_filtered (λ row. is_within span.0 span.1 row.0) key bytes rows within has)
      | false ↦ λ _ later. has_right key bytes (between span.0 span.1 rows) (rows_in spans rows)
          (has_inside key bytes spans rows later has)
    ] refl inside

-- ---- the features of rows
among_held : SameBytes
    → (t : Specification) (f : Feature) (key : List ℕ) (rows : Rows) (held : List Feature)
    → Fits t f → Has key (feature_bytes f) rows → Hold t rows held → IsAmong f held
among_held same t f key [] held fits has holds = absurd has
among_held same t f key (row ∷ rows) [] fits has holds = absurd holds
among_held same t f key (row ∷ rows) (g ∷ held) fits (inl here) holds =
    inl (same t f g fits holds.0.fits (here.1 ∙ holds.0.same))
among_held same t f key (row ∷ rows) (g ∷ held) fits (inr later) holds =
    inr (among_held same t f key rows held fits later holds.1)

among_matching : (f : Feature) (test : Tree) (held : List Feature) → is_true f test ≡ true
    → IsAmong f held → IsAmong f (matching test held)
among_matching f test [] passes among = absurd among
among_matching f test (g ∷ held) passes (inl same) =
    let is : is_true g test ≡ true = ap (λ (h : Feature). is_true h test) (sym same) ∙ passes in
    subst (λ (b : Bool). IsAmong f (cond b (g ∷ matching test held) (matching test held)))
    (sym is) (inl same)
among_matching f test (g ∷ held) passes (inr later) =
    let rest = among_matching f test held passes later in
    elim (is_true g test) as (λ b. IsAmong f (cond b (g ∷ matching test held) (matching test held)))
    [ true ↦ inr rest | false ↦ rest ]

each_held : SameBytes
    → (s : State) (t : Specification) (kind : IndexKind) (rows : Rows) (held : List Feature)
    → AllByRecursion (IsRowOfType s t kind) rows → Hold t rows held
    → AllByRecursion (λ f. feature_at t.number f.id s ≡ Some f) held
each_held same s t kind [] [] each holds = tt
each_held same s t kind [] (g ∷ held) each holds = absurd holds
each_held same s t kind (row ∷ rows) [] each holds = absurd holds
each_held same s t kind (row ∷ rows) (g ∷ held) each holds =
    let is : each.0.feature ≡ g =
    same t each.0.feature g each.0.bytes_are.fits holds.0.fits
    (sym each.0.bytes_are.same ∙ holds.0.same) in (
      subst (λ (h : Feature). feature_at t.number h.id s ≡ Some h) is each.0.held,
      each_held same s t kind rows held each.1 holds.1,
    )

-- ---- what a part finds
pub part_finds : At → Found → Stand → KeysInside → SameBytes
    → (s : State) (t : Specification) (of_index : OfIndex t) (kind : IndexKind) (wanted : Tree)
    (target : ℕ) (held : List Feature)
    → IsState s → type_at t.number s ≡ Some t → Suits t wanted
    → does_apply t kind wanted ≡ true → 1 ≤ target
    → Hold t (rows_in (read_spans t kind wanted target) (rows_of s)) held
    → Finds s t.number wanted (matching wanted held)
part_finds at found stand inside same s t of_index kind wanted target held state typed suits
    applies some holds =
    let has = index_applies t kind wanted applies in
    let spans = read_spans t kind wanted target in
    let there = state.placed t.number t typed in record {
      sound = each_filtered (λ f. is_true f wanted) held
          (λ f bound passes. record { held = bound; passes = passes })
          (each_held same s t kind (rows_in spans (rows_of s)) held
          (rows_are_of_type at found s t of_index kind wanted target state typed has) holds);
      whole = λ f true_of.
          let fits = (state.held t.number t f.id f typed true_of.held).fits in
          let read = inside t kind wanted target f there.typed suits applies some fits
          true_of.passes in
          let row : at_key read.key (rows_of s) ≡ Some (feature_bytes f) =
          stand s read.key (feature_bytes f) state (record {
            number = t.number;
            specification = t;
            id = f.id;
            feature = f;
            index = kind;
            typed = typed;
            held = true_of.held;
            enabled = has;
            keyed = read.has;
            same = refl;
          }) in
          among_matching f wanted held true_of.passes
          (among_held same t f read.key (rows_in spans (rows_of s)) held fits
          (has_inside read.key (feature_bytes f) spans (rows_of s) read.inside
          (has_at read.key (feature_bytes f) (rows_of s) row)) holds);
    }

-- ---- how many rows are read
count-cons : (test : Row → Bool) (row : Row) (rows : Rows)
    → count_by test (row ∷ rows) ≡ cond (test row) 1 0 + count_by test rows
count-cons test row rows = sym (length-filter test (row ∷ rows))
    ∙ elim (test row) as
    (λ t. length (cond t (row ∷ filter test rows) (filter test rows))
    ≡ cond t 1 0 + count_by test rows) [
      | true ↦ omega (arith, length-filter test rows)
      | false ↦ omega (arith, length-filter test rows)
    ]

one_of_two : (a b : Bool) (n m k : ℕ) → (a ≡ true → b ≡ false) → k ≡ n + m
    → cond (a || b) 1 0 + k ≡ (cond a 1 0 + n) + (cond b 1 0 + m)
one_of_two true true n m k apart is = absurd (true≢false (apart refl))
one_of_two true false n m k apart is = omega arith
one_of_two false true n m k apart is = omega arith
one_of_two false false n m k apart is = omega arith

count_either : (p q : Row → Bool) → ((row : Row) → p row ≡ true → q row ≡ false) → (rows : Rows)
    → count_by (λ row. p row || q row) rows ≡ count_by p rows + count_by q rows
count_either p q apart [] = refl
count_either p q apart (row ∷ rows) =
    count-cons (λ x. p x || q x) row rows
    ∙ one_of_two (p row) (q row) (count_by p rows) (count_by q rows)
    (count_by (λ x. p x || q x) rows) (apart row) (count_either p q apart rows)
    ∙ (λ i. sym (count-cons p row rows) i + sym (count-cons q row rows) i)

count_none : (rows : Rows) → 0 ≡ count_by (λ row. false) rows
count_none [] = refl
count_none (row ∷ rows) = omega (arith, count_none rows, count-cons (λ x. false) row rows)

times_inside-inside : (key : List ℕ) (spans : List Span) → is_inside key spans ≡ true
    → 1 ≤ times_inside key spans
times_inside-inside key [] inside = cc
times_inside-inside key (span ∷ spans) inside =
    elim (is_within span.0 span.1 key) as
    (λ t. (t || is_inside key spans) ≡ true → 1 ≤ cond t 1 0 + times_inside key spans) [
      | true ↦ λ _. omega arith
      | false ↦ λ later. omega (arith, times_inside-inside key spans later)
    ] inside

apart_rest : (span : Span) (spans : List Span) → AreApart (span ∷ spans) → AreApart spans
apart_rest span spans apart = λ key. omega (arith, apart key)

length_in : (spans : List Span) (rows : Rows) → AreApart spans
    → length (rows_in spans rows) ≡ count_by (λ row. is_inside row.0 spans) rows
length_in [] rows apart = count_none rows
length_in (span ∷ spans) rows apart =
    let in_first = λ (row : Row). is_within span.0 span.1 row.0 in
    let in_later = λ (row : Row). is_inside row.0 spans in
    length-append (filter in_first rows) (rows_in spans rows)
    ∙ (λ i. length-filter in_first rows i + length_in spans rows (apart_rest span spans apart) i)
    ∙ sym (count_either in_first in_later (λ row within. false_of_never (in_later row) (λ later.
    let few : 1 + times_inside row.0 spans ≤ 1 =
    subst (λ (b : Bool). cond b 1 0 + times_inside row.0 spans ≤ 1) within (apart row.0) in
    omega (arith, few, times_inside-inside row.0 spans later))) rows)

-- ---- the spans of a part
abbrev pub HoldSome : Type 0
HoldSome = (t : Specification) (rows : Rows) → All (λ row. HasFeature t row.1) rows
    → (held : List Feature) × Hold t rows held

pub are_of_features : At → Found
    → (s : State) (t : Specification) (of_index : OfIndex t) (part : Chosen) (target : ℕ)
    (rows : Rows) (spans : List Span) → IsTypeOf s t rows → IsServed t part
    → spans ≡ read_spans t part.index part.wanted target
    → All (λ row. HasFeature t row.1) (rows_in spans rows)
are_of_features at found s t of_index part target rows spans own served is =
    let read = read_spans t part.index part.wanted target in
    let there : All (λ row. HasFeature t row.1) (rows_in read (rows_of s)) =
    All-from_recursion (λ row. HasFeature t row.1) (rows_in read (rows_of s))
    (rows_have_features s t part.index (rows_in read (rows_of s))
    (rows_are_of_type at found s t of_index part.index part.wanted target own.state own.typed
    (index_applies t part.index part.wanted served.applies))) in
    subst (λ (rs : Rows). All (λ row. HasFeature t row.1) (rows_in spans rs)) (sym own.same_rows)
    (subst (λ (ss : List Span). All (λ row. HasFeature t row.1) (rows_in ss (rows_of s)))
    (sym is) there)

pub part_held : At → Found → Stand → KeysInside → SameBytes → HoldSome
    → (s : State) (t : Specification) (of_index : OfIndex t) (part : Chosen) (target : ℕ)
    (rows : Rows) (spans : List Span)
    → IsTypeOf s t rows → IsServed t part → 1 ≤ target
    → spans ≡ read_spans t part.index part.wanted target
    → (held : List Feature) × Hold t (rows_in spans rows) held
    × Finds s t.number part.wanted (matching part.wanted held)
part_held at found stand inside same some s t of_index part target rows spans own served least is =
    let read = read_spans t part.index part.wanted target in
    let held = some t (rows_in spans rows)
    (are_of_features at found s t of_index part target rows spans own served is) in
    let there : Hold t (rows_in read (rows_of s)) held.0 =
    subst (λ (ss : List Span). Hold t (rows_in ss (rows_of s)) held.0) is
    (subst (λ (rs : Rows). Hold t (rows_in spans rs) held.0) own.same_rows held.1) in (
      held.0,
      held.1,
      part_finds at found stand inside same s t of_index part.index part.wanted target held.0
          own.state own.typed served.suits served.applies least there,
    )

pub length_read : (s : State) (t : Specification) (part : Chosen) (target : ℕ) (rows : Rows)
    (spans : List Span) → IsTypeOf s t rows → spans ≡ read_spans t part.index part.wanted target
    → AreApart (read_spans t part.index part.wanted target)
    → length (rows_in spans rows) ≡ rows_read t target (rows_of s) part
length_read s t part target rows spans own is apart =
    (λ i. length (rows_in (is i) (own.same_rows i)))
    ∙ length_in (read_spans t part.index part.wanted target) (rows_of s) apart
