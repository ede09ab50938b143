-- Spans of keys, and how they stand in one buffer.
use Rattle.std.specs.Prelude.{◌≡◌, ◌≤◌, ℕ, zero, suc, List, [], ◌∷◌, ◌++◌, slice_range}
use denote.Ref.{Bor}
use Rattle.gm_base.specs.declared.spans.Ends.{Ends}

-- a low end, which is a key of the span, and a high end, which is none
abbrev pub Span : Type 0
Span = List ℕ × List ℕ

-- parts of a key, laid end to end
abbrev pub joined : List (Bor (List ℕ)) → List ℕ
joined [] = []
joined (part ∷ parts) = part.now ++ joined parts

-- from here on no end stands before the one that precedes it, and the last stops at the buffer's
-- end
abbrev pub AreEnds : ℕ → List Ends → ℕ → Type 0
AreEnds start [] end = start ≡ end
AreEnds start (span ∷ ends) end =
    (start ≤ span.low) × (span.low ≤ span.high) × AreEnds span.high ends end

-- the spans whose ends stop there, where the first starts here
abbrev pub spans_from : ℕ → List Ends → List ℕ → List (List ℕ × List ℕ)
spans_from start [] bytes = []
spans_from start (span ∷ ends) bytes =
    (slice_range bytes start span.low, slice_range bytes span.low span.high)
    ∷ spans_from span.high ends bytes

-- where a span starts: where the span before it stops
abbrev pub start_at : ℕ → ℕ → List Ends → ℕ
start_at start zero ends = start
start_at start (suc i) [] = start
start_at start (suc i) (span ∷ ends) = start_at span.high i ends
