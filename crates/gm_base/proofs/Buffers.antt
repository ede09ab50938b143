-- Spans in one buffer: one more, and the one at a place.
use Rattle.std.proofs.Common.{◌≡◌, ◌≤◌, ◌<◌, ◌+◌, ℕ, zero, suc, List, [], ◌∷◌, ◌++◌, length, take}
use Rattle.std.proofs.Common.{get_or, refl, sym, ap, ◌∙◌, arith, length-append, append_assoc}
use Rattle.std.proofs.lemmas.Grind.{common_steps}
use Rattle.std.proofs.lemmas.List.{take-append-le, drop-append-le, take_more, append-nil}
use Rattle.std.specs.Prelude.{slice_range}
use denote.Ref.{Bor}
use Rattle.gm_base.specs.declared.spans.Ends.{Ends}
use Rattle.gm_base.specs.Spans.{Span, joined, AreEnds, spans_from, start_at}

pub length-spans : (start : ℕ) (ends : List Ends) (bytes : List ℕ)
    → length (spans_from start ends bytes) ≡ length ends
length-spans start [] bytes = refl
length-spans start (span ∷ ends) bytes = let rest = length-spans span.high ends bytes in
    omega (arith, rest)

pub none-from : (start : ℕ) (ends : List Ends) (bytes : List ℕ)
    → spans_from start ends bytes ≡ [] → ends ≡ []
none-from start [] bytes none = refl
none-from start (span ∷ ends) bytes none = cc

-- ---- where a span starts
pub start_at-next : (start k : ℕ) (ends : List Ends) (d : Ends) → k < length ends
    → start_at start (suc k) ends ≡ (get_or ends k d).high
start_at-next start k [] d inside = absurd (omega arith)
start_at-next start zero (span ∷ ends) d inside = refl
start_at-next start (suc k) (span ∷ ends) d inside = start_at-next span.high k ends d (omega arith)

pub start_below : (start end : ℕ) (ends : List Ends) → AreEnds start ends end → start ≤ end
start_below start end [] are = omega (arith, are)
start_below start end (span ∷ ends) are = let rest = start_below span.high end ends are.2 in
    omega (arith, are.0, are.1, rest)

-- ---- the span at a place
pub ends-at : (start end i : ℕ) (ends : List Ends) (span : Ends) → i < length ends
    → span ≡ get_or ends i span → AreEnds start ends end
    → (start_at start i ends ≤ span.low) × (span.low ≤ span.high) × (span.high ≤ end)
ends-at start end i [] span inside is are = absurd (omega arith)
ends-at start end zero (first ∷ ends) span inside is are =
    let rest = start_below first.high end ends are.2 in
    rw (is) (are.0, are.1, rest)
ends-at start end (suc i) (first ∷ ends) span inside is are =
    ends-at first.high end i ends span (omega arith) is are.2

pub spans-at : (start i : ℕ) (ends : List Ends) (bytes : List ℕ) (span : Ends) (d : Span)
    → i < length ends → span ≡ get_or ends i span
    → get_or (spans_from start ends bytes) i d
    ≡ (slice_range bytes (start_at start i ends) span.low, slice_range bytes span.low span.high)
spans-at start i [] bytes span d inside is = absurd (omega arith)
spans-at start zero (first ∷ ends) bytes span d inside is =
    ap (λ (e : Ends). (slice_range bytes start e.low, slice_range bytes e.low e.high)) (sym is)
spans-at start (suc i) (first ∷ ends) bytes span d inside is =
    spans-at first.high i ends bytes span d (omega arith) is

-- ---- one span more
range-front : (xs ys : List ℕ) (a b : ℕ) → a ≤ b → b ≤ length xs
    → slice_range (xs ++ ys) a b ≡ slice_range xs a b
range-front xs ys a b up inside =
    grind (arith, common_steps, take-append-le {A = ℕ}, drop-append-le {A = ℕ})

range-next : (xs ys zs : List ℕ) (a b : ℕ) → a ≡ length xs → b ≡ a + length ys
    → slice_range (xs ++ ys ++ zs) a b ≡ ys
range-next xs ys zs a b first last = grind (arith, common_steps)

range-last : (xs ys : List ℕ) (a b : ℕ) → a ≡ length xs → b ≡ a + length ys
    → slice_range (xs ++ ys) a b ≡ ys
range-last xs ys a b first last = grind (arith, common_steps)

pub same_pair : (a b c d : List ℕ) → a ≡ c → b ≡ d → ◌≡◌ {A = Span} (a, b) (c, d)
same_pair a b c d first second = ap (λ x. (x, b)) first ∙ ap (λ y. (c, y)) second

pub spans-push : (start : ℕ) (ends : List Ends) (bytes low high : List ℕ) (span : Ends)
    → AreEnds start ends (length bytes)
    → span.low ≡ length bytes + length low → span.high ≡ span.low + length high
    → spans_from start (ends ++ span ∷ []) (bytes ++ low ++ high)
    ≡ spans_from start ends bytes ++ (low, high) ∷ []
spans-push start [] bytes low high span are first last =
    let low_end : span.low ≡ start + length low = omega (arith, are, first) in
    let seam : span.low ≡ length (bytes ++ low) = omega (arith, first, length-append bytes low) in
    ap (λ (x : Span). x ∷ [])
    (same_pair _ _ low high (range-next bytes low high start span.low are low_end)
    (range-last (bytes ++ low) high span.low span.high seam last))
spans-push start (e ∷ ends) bytes low high span are first last =
    let below = start_below e.high (length bytes) ends are.2 in
    let more : bytes ++ low ++ high ≡ bytes ++ (low ++ high) = append_assoc bytes low high in
    let one : slice_range (bytes ++ low ++ high) start e.low ≡ slice_range bytes start e.low =
    ap (λ all. slice_range all start e.low) more
    ∙ range-front bytes (low ++ high) start e.low are.0 (omega (arith, below, are.1)) in
    let other : slice_range (bytes ++ low ++ high) e.low e.high ≡ slice_range bytes e.low e.high =
    ap (λ all. slice_range all e.low e.high) more
    ∙ range-front bytes (low ++ high) e.low e.high are.1 below in
    ap (λ (x : Span). x ∷ spans_from e.high (ends ++ span ∷ []) (bytes ++ low ++ high))
    (same_pair _ _ _ _ one other)
    ∙ ap (λ later. (slice_range bytes start e.low, slice_range bytes e.low e.high) ∷ later)
    (spans-push e.high ends bytes low high span are.2 first last)

pub ends-push : (start end : ℕ) (ends : List Ends) (span : Ends) → AreEnds start ends end
    → end ≤ span.low → span.low ≤ span.high → AreEnds start (ends ++ span ∷ []) span.high
ends-push start end [] span are first last = (omega (arith, are), last, refl)
ends-push start end (e ∷ ends) span are first last =
    (are.0, are.1, ends-push e.high end ends span are.2 first last)

-- ---- one part more
joined-push : (parts : List (Bor (List ℕ))) (part : Bor (List ℕ))
    → joined (parts ++ part ∷ []) ≡ joined parts ++ part.now
joined-push [] part = append-nil part.now
joined-push (first ∷ parts) part =
    ap (λ later. first.now ++ later) (joined-push parts part)
    ∙ sym (append_assoc first.now (joined parts) part.now)

pub joined-more : (parts : List (Bor (List ℕ))) (i : ℕ) (d : Bor (List ℕ)) → i < length parts
    → joined (take (i + 1) parts) ≡ joined (take i parts) ++ (get_or parts i d).now
joined-more parts i d inside =
    ap joined (take_more parts i d inside) ∙ joined-push (take i parts) (get_or parts i d)

pub appended : (old now new more part later : List ℕ) → new ≡ now ++ part → now ≡ old ++ more
    → later ≡ more ++ part → new ≡ old ++ later
appended old now new more part later one two three =
    one ∙ ap (λ bytes. bytes ++ part) two ∙ append_assoc old more part
    ∙ ap (λ bytes. old ++ bytes) (sym three)
