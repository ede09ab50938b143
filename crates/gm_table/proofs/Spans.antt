-- Rows that are handed out span by span.
use Rattle.std.proofs.Common.{◌≡◌, List, [], ◌∷◌, ◌++◌, ℕ, ◌+◌, ◌-◌, ◌<◌, ◌≤◌, zero, suc, length}
use Rattle.std.proofs.Common.{take, drop, get_or, sym, ap, subst, ◌∙◌, arith, append_assoc}
use Rattle.std.proofs.Common.{length-append}
use Rattle.std.proofs.lemmas.List.{take_more, append-nil}
use Rattle.std.proofs.lemmas.List.Elements.{All-nil, All-cons, All-head, All-tail, All-weaker}
use Rattle.std.proofs.lemmas.Grind.{common_steps}
use Rattle.std.specs.Prelude.{Result, Ok, ⊤, All, slice_range}
use Rattle.gm_base.specs.declared.NoMemory.{NoMemory}
use Rattle.gm_base.specs.Counter.{capped_sum}
use Rattle.gm_base.specs.Spans.{Span}
use Rattle.gm_table.specs.Sorted.{Rows, between}
use Rattle.gm_table.specs.Spans.{rows_in}
use Rattle.gm_table.specs.Visit.{Handed, Stops}

-- ---- the rows of more spans
pub rows_in-push : (spans : List Span) (span : Span) (rows : Rows)
    → rows_in (spans ++ span ∷ []) rows ≡ rows_in spans rows ++ between span.0 span.1 rows
rows_in-push [] span rows = append-nil (between span.0 span.1 rows)
rows_in-push (first ∷ spans) span rows =
    ap (λ later. between first.0 first.1 rows ++ later) (rows_in-push spans span rows)
    ∙ sym (append_assoc (between first.0 first.1 rows) (rows_in spans rows)
    (between span.0 span.1 rows))

-- one span more
pub rows_in-more : (spans : List Span) (span : Span) (i : ℕ) (rows : Rows) → i < length spans
    → span ≡ get_or spans i span
    → rows_in (take (i + 1) spans) rows ≡ rows_in (take i spans) rows ++ between span.0 span.1 rows
rows_in-more spans span i rows few at =
    ap (λ front. rows_in front rows)
    (take_more _ _ span few ∙ ap (λ it. take i spans ++ it ∷ []) (sym at))
    ∙ rows_in-push (take i spans) span rows

-- a span and those that follow it
pub rows_in-from : (spans : List Span) (span : Span) (i : ℕ) (rows : Rows) → i < length spans
    → span ≡ get_or spans i span
    → rows_in spans rows
    ≡ rows_in (take i spans) rows
    ++ (between span.0 span.1 rows ++ rows_in (drop (suc i) spans) rows)
rows_in-from [] span i rows few at = absurd (omega arith)
rows_in-from (first ∷ spans) span zero rows few at =
    ap (λ (it : Span). between it.0 it.1 rows ++ rows_in spans rows) (sym at)
rows_in-from (first ∷ spans) span (suc i) rows few at =
    ap (λ later. between first.0 first.1 rows ++ later)
    (rows_in-from spans span i rows (omega arith) at)
    ∙ sym (append_assoc (between first.0 first.1 rows) (rows_in (take i spans) rows)
    (between span.0 span.1 rows ++ rows_in (drop (suc i) spans) rows))

-- ---- the spans of a part of a list
at-drop : (spans : List Span) (span : Span) (a i : ℕ) → a ≤ i
    → get_or (drop a spans) (i - a) span ≡ get_or spans i span
at-drop spans span a i after = grind (arith, common_steps)

pub rows_in-part_more : (spans : List Span) (span : Span) (a i : ℕ) (rows : Rows) → a ≤ i
    → i < length spans → span ≡ get_or spans i span
    → rows_in (slice_range spans a (i + 1)) rows
    ≡ rows_in (slice_range spans a i) rows ++ between span.0 span.1 rows
rows_in-part_more spans span a i rows after few at =
    let next : i + 1 - a ≡ (i - a) + 1 = omega arith in
    let inside : i - a < length (drop a spans) = grind (arith, common_steps) in
    ap (λ n. rows_in (take n (drop a spans)) rows) next
    ∙ rows_in-more (drop a spans) span (i - a) rows inside
    (at ∙ sym (at-drop spans span a i after))

pub later_in : List Span → ℕ → ℕ → ℕ → Rows → Rows
later_in spans a i b rows = rows_in (drop (suc (i - a)) (slice_range spans a b)) rows

pub rows_in-part_from : (spans : List Span) (span : Span) (a i b : ℕ) (rows : Rows) → a ≤ i → i < b
    → b ≤ length spans → span ≡ get_or spans i span
    → rows_in (slice_range spans a b) rows
    ≡ rows_in (slice_range spans a i) rows
    ++ (between span.0 span.1 rows ++ later_in spans a i b rows)
unfolding later_in
rows_in-part_from spans span a i b rows after before few at =
    let inside : i - a < length (slice_range spans a b) = grind (arith, common_steps) in
    let here : get_or (slice_range spans a b) (i - a) span ≡ get_or (drop a spans) (i - a) span =
    grind (arith, common_steps) in
    let front : take (i - a) (slice_range spans a b) ≡ slice_range spans a i =
    grind (arith, common_steps) in
    rows_in-from (slice_range spans a b) span (i - a) rows inside
    (at ∙ sym (here ∙ at-drop spans span a i after))
    ∙ ap (λ some. rows_in some rows
    ++ (between span.0 span.1 rows ++ rows_in (drop (suc (i - a)) (slice_range spans a b)) rows))
    front

-- ---- what was handed out, and then more
pub Handed-both : {V : Type 0} (takes : V → List ℕ → List ℕ → Result ⊤ NoMemory → V → Type 0)
    (before mid after : V) (one other : Rows)
    → Handed takes before one mid → Handed takes mid other after
    → Handed takes before (one ++ other) after
Handed-both takes before mid after [] other same handed =
    subst (λ v. Handed takes v other after) same handed
Handed-both takes before mid after (row ∷ one) other first handed =
    (first.0, first.1, Handed-both takes first.0 mid after one other first.2 handed)

-- what may be handed out before may be handed out after
pub admits_after : {V : Type 0} (admits : V → List ℕ → List ℕ → Type 0)
    (takes : V → List ℕ → List ℕ → Result ⊤ NoMemory → V → Type 0)
    (keeps : (before after : V) (taken_key taken_bytes key bytes : List ℕ)
    (answer : Result ⊤ NoMemory) → admits before taken_key taken_bytes
    → takes before taken_key taken_bytes answer after → admits before key bytes
    → admits after key bytes)
    (before after : V) (rows : Rows) → Handed takes before rows after
    → All (λ row. admits before row.0 row.1) rows
    → (key bytes : List ℕ) → admits before key bytes → admits after key bytes
admits_after admits takes keeps before after [] same each key bytes may =
    subst (λ v. admits v key bytes) (sym same) may
admits_after admits takes keeps before after (row ∷ rows) handed each key bytes may =
    let here = All-head (λ row. admits before row.0 row.1) row rows each in
    let kept = λ (k b : List ℕ). keeps before handed.0 row.0 row.1 k b (Ok tt) here handed.1 in
    admits_after admits takes keeps handed.0 after rows handed.2
    (All-weaker (λ row. admits before row.0 row.1) (λ row. admits handed.0 row.0 row.1)
    (λ row may. kept row.0 row.1 may) rows
    (All-tail (λ row. admits before row.0 row.1) row rows each))
    key bytes (kept key bytes may)

pub All-front : {X : Type 0} (P : X → Type 0) (xs ys : List X) → All P (xs ++ ys) → All P xs
All-front P [] ys each = All-nil P
All-front P (x ∷ xs) ys each =
    All-cons P x xs (All-head P x (xs ++ ys) each)
    (All-front P xs ys (All-tail P x (xs ++ ys) each))

pub All-back : {X : Type 0} (P : X → Type 0) (xs ys : List X) → All P (xs ++ ys) → All P ys
All-back P [] ys each = each
All-back P (x ∷ xs) ys each = All-back P xs ys (All-tail P x (xs ++ ys) each)

pub All-middle : {X : Type 0} (P : X → Type 0) (done here later all : List X)
    → all ≡ done ++ (here ++ later) → All P all → All P here
All-middle P done here later all whole each =
    All-front P here later (All-back P done (here ++ later) (subst (All P) whole each))

-- a refusal after rows that were handed out
pub stops_after : {V : Type 0} (takes : V → List ℕ → List ℕ → Result ⊤ NoMemory → V → Type 0)
    (before mid after : V) (done here later all : Rows) (fault : NoMemory) (handed : ℕ)
    → all ≡ done ++ (here ++ later) → Handed takes before done mid
    → Stops takes mid here fault after handed
    → Stops takes before all fault after (length done + handed)
stops_after takes before mid after done here later all fault handed whole first stops = record {
  front = done ++ stops.front;
  refused = stops.refused;
  rest = stops.rest ++ later;
  parts = whole ∙ ap (λ rows. done ++ (rows ++ later)) stops.parts
      ∙ ap (λ rows. done ++ rows) (append_assoc stops.front (stops.refused ∷ stops.rest) later)
      ∙ sym (append_assoc done stops.front (stops.refused ∷ stops.rest ++ later));
  mid = stops.mid;
  taken = Handed-both takes before mid stops.mid done stops.front first stops.taken;
  answer = stops.answer;
  count = ap (λ n. length done + n) stops.count ∙ omega (arith, length-append done stops.front);
}

pub capped_more : (before mid after so_far here read : ℕ) → mid ≡ capped_sum before so_far
    → after ≡ capped_sum mid here → read ≡ so_far + here → after ≡ capped_sum before read
capped_more before mid after so_far here read first second whole = omega arith
