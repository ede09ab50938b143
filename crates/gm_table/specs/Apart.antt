-- Spans that have no key in common.
use Rattle.std.specs.Prelude.{ℕ, ◌+◌, ◌≤◌, if◌then◌else◌, List, [], ◌∷◌}
use Rattle.gm_base.specs.Spans.{Span}
use Rattle.gm_table.specs.Sorted.{is_within}

-- inside how many of the spans the key is
abbrev pub times_inside : List ℕ → List Span → ℕ
times_inside key [] = 0
times_inside key (span ∷ spans) =
    (if is_within span.0 span.1 key then 1 else 0) + times_inside key spans

-- no key is inside two of them
abbrev pub AreApart : List Span → Type 0
AreApart spans = (key : List ℕ) → times_inside key spans ≤ 1
