-- The spans of runs of codes, in the plane and in bins.
use Rattle.std.proofs.Common.{◌≡◌, ℕ, ◌+◌, ◌^◌, ◌<◌, ◌≤◌, Bool, true, false, ◌&&◌, ◌==◌, nat_le}
use Rattle.std.proofs.Common.{List, [], ◌∷◌, append-nil, map, refl, sym, ap, ◌∙◌, arith}
use Rattle.std.specs.List.{AllByRecursion}
use Rattle.gm_base.proofs.Numbers.{le_false, eq_false}
use Rattle.gm_lexi.specs.Ends.{after_of, is_from_to}
use Rattle.gm_runs.specs.Runs.{AreRunsFrom}
use Rattle.gm_table.specs.Sorted.{is_within}
use Rattle.gm_trees.specs.declared.window.Window.{Window}
use Rattle.gm_trees.specs.Tree.{Shape}
use Rattle.gm_split.specs.Explained.{explained_runs, stop_level}
use Rattle.gm_types.specs.declared.index.IndexKind.{IndexKind}
use Rattle.gm_types.specs.Specification.{Specification}
use Rattle.gm_keys.specs.Key.{prefix_of, code_front, bin_code_front}
use Rattle.gm_bounds.specs.declared.ranges.Range.{Range}
use Rattle.gm_bounds.specs.declared.ranges.Range.TheVariants as range
use Rattle.gm_plan.specs.Covering.{IsCurve}
use Rattle.gm_plan.specs.KeyRanges.{code_range, bin_range, plane_ranges}
use Rattle.gm_plan.specs.Spans.{end_of, span_behind, spans_in}
use Rattle.gm_plan.proofs.ApartSpans.{Excludes, lows, AreExclusive}
use Rattle.gm_plan.proofs.InPlane.{runs_narrow}
use Rattle.gm_plan.proofs.Within.{CodeLaws, AreNarrow, within_is, code_end, bin_code_end}

none_first : (x y z : Bool) → y ≡ false → (x && (y && z)) ≡ false
none_first true y z h = ap (λ b. b && z) h
none_first false y z h = refl

none_last : (x y z : Bool) → z ≡ false → (x && (y && z)) ≡ false
none_last true true z h = h
none_last true false z h = refl
none_last false y z h = refl

pub record SmallRun (low high : ℕ) : Type 0 where
  pub rises : low ≤ high
  pub low_small : low < 2 ^ 64
  pub high_small : high < 2 ^ 64

module _ (laws : CodeLaws) (s : Specification) (kind : IndexKind) (shard : ℕ)
    (few : shard < 256) where
  abbrev code : ℕ → List ℕ
  code c = code_front (prefix_of s kind) shard c

  abbrev in_bin : ℕ → ℕ → List ℕ
  in_bin n c = bin_code_front (prefix_of s kind) shard n c

  -- ---- two runs
  code_not : (low high c : ℕ) → SmallRun low high → c < 2 ^ 64
      → (nat_le low c && nat_le c high) ≡ false
      → is_within (code low) (end_of (code high)) (code c) ≡ false
  code_not low high c small fits h =
      within_is (code low) (code high) (code c) (code_end s kind shard high)
      ∙ ap (λ k. is_from_to (code low) (after_of (code high)) k) (sym (append-nil (code c)))
      ∙ laws.codes s kind shard shard low high c [] few small.low_small small.high_small fits
      ∙ alone (shard == shard) (nat_le low c && nat_le c high) h
    where
      alone : (x y : Bool) → y ≡ false → (x && y) ≡ false
      alone true y e = e
      alone false y e = refl

  codes_apart : (level low high low' high' : ℕ) → SmallRun low high → SmallRun low' high'
      → high < low' → Excludes (span_behind (prefix_of s kind) shard (range.Codes low high level))
      (span_behind (prefix_of s kind) shard (range.Codes low' high' level))
  codes_apart level low high low' high' one other less =
      lows (code low, end_of (code high)) (code low', end_of (code high'))
      (code_not low high low' one other.low_small
      (second (nat_le low low') (nat_le low' high) (le_false low' high less)))
      (code_not low' high' low other one.low_small
      (ap (λ b. b && nat_le low high') (le_false low' low (chain low high low' one.rises less))))
    where
      second : (x y : Bool) → y ≡ false → (x && y) ≡ false
      second true y e = e
      second false y e = refl

      chain : (a b c : ℕ) → a ≤ b → b < c → a < c
      chain a b c h g = omega arith

  bin_not : (n m low high c : ℕ) → n < 2 ^ 16 → m < 2 ^ 16 → SmallRun low high → c < 2 ^ 64
      → ((n == m) && (nat_le low c && nat_le c high)) ≡ false
      → is_within (in_bin n low) (end_of (in_bin n high)) (in_bin m c) ≡ false
  bin_not n m low high c small-n small-m small fits h =
      within_is (in_bin n low) (in_bin n high) (in_bin m c) (bin_code_end s kind shard n high)
      ∙ ap (λ k. is_from_to (in_bin n low) (after_of (in_bin n high)) k)
      (sym (append-nil (in_bin m c)))
      ∙ laws.in_bin s kind shard shard n m low high c [] few small-n small-m small.low_small
      small.high_small fits
      ∙ alone (shard == shard) ((n == m) && (nat_le low c && nat_le c high)) h
    where
      alone : (x y : Bool) → y ≡ false → (x && y) ≡ false
      alone true y e = e
      alone false y e = refl

  bin_codes_apart : (n level low high low' high' : ℕ) → n < 2 ^ 16 → SmallRun low high
      → SmallRun low' high' → high < low'
      → Excludes (span_behind (prefix_of s kind) shard (range.InBin n low high level))
      (span_behind (prefix_of s kind) shard (range.InBin n low' high' level))
  bin_codes_apart n level low high low' high' small one other less =
      lows (in_bin n low, end_of (in_bin n high)) (in_bin n low', end_of (in_bin n high'))
      (bin_not n n low high low' small small one other.low_small
      (none_last (n == n) (nat_le low low') (nat_le low' high) (le_false low' high less)))
      (bin_not n n low' high' low small small other one.low_small
      (none_first (n == n) (nat_le low' low) (nat_le low high')
      (le_false low' low (chain low high low' one.rises less))))
    where
      chain : (a b c : ℕ) → a ≤ b → b < c → a < c
      chain a b c h g = omega arith

  bins_apart : (n m level level' low high low' high' : ℕ) → n < 2 ^ 16 → m < 2 ^ 16 → n < m
      → SmallRun low high → SmallRun low' high'
      → Excludes (span_behind (prefix_of s kind) shard (range.InBin n low high level))
      (span_behind (prefix_of s kind) shard (range.InBin m low' high' level'))
  bins_apart n m level level' low high low' high' small-n small-m less one other =
      lows (in_bin n low, end_of (in_bin n high)) (in_bin m low', end_of (in_bin m high'))
      (bin_not n m low high low' small-n small-m one other.low_small
      (ap (λ b. b && (nat_le low low' && nat_le low' high))
      (eq_false n m (λ e. unlike n m less e))))
      (bin_not m n low' high' low small-m small-n other one.low_small
      (ap (λ b. b && (nat_le low' low && nat_le low high'))
      (eq_false m n (λ e. unlike n m less (sym e)))))
    where
      unlike : (a b : ℕ) → a < b → a ≡ b → ⊥
      unlike a b h e = omega arith

  -- ---- runs in the plane
  later_codes : (level low high least : ℕ) (runs : List (ℕ × ℕ)) → SmallRun low high → high < least
      → AreRunsFrom least runs → AreNarrow runs
      → AllByRecursion
      (λ y. Excludes (span_behind (prefix_of s kind) shard (range.Codes low high level)) y)
      (spans_in (prefix_of s kind) (map (code_range level) runs) shard)
  later_codes level low high least [] one less rise narrow = tt
  later_codes level low high least (run ∷ runs) one less rise narrow = (
    codes_apart level low high run.0 run.1 one
        (record { rises = rise.1; low_small = narrow.0.0; high_small = narrow.0.1 })
        (chain high least run.0 less rise.0),
    later_codes level low high (run.1 + 2) runs one
        (further high least run.0 run.1 less rise.0 rise.1) rise.2 narrow.1,
  )
    where
      chain : (a b c : ℕ) → a < b → b ≤ c → a < c
      chain a b c h g = omega arith

      further : (a b c d : ℕ) → a < b → b ≤ c → c ≤ d → a < d + 2
      further a b c d h g k = omega arith

  codes_exclusive : (level least : ℕ) (runs : List (ℕ × ℕ)) → AreRunsFrom least runs
      → AreNarrow runs
      → AreExclusive (spans_in (prefix_of s kind) (map (code_range level) runs) shard)
  codes_exclusive level least [] rise narrow = tt
  codes_exclusive level least (run ∷ runs) rise narrow = (
    later_codes level run.0 run.1 (run.1 + 2) runs
        (record { rises = rise.1; low_small = narrow.0.0; high_small = narrow.0.1 }) (next run.1)
        rise.2 narrow.1,
    codes_exclusive level (run.1 + 2) runs rise.2 narrow.1,
  )
    where
      next : (n : ℕ) → n < n + 2
      next n = omega arith

  pub plane_exclusive : (shape : Shape) → IsCurve 2 shape → (ws : List Window) (target : ℕ)
      → 1 ≤ target → AreExclusive (spans_in (prefix_of s kind) (plane_ranges shape ws target) shard)
  unfolding plane_ranges
  plane_exclusive shape curve ws target some =
      codes_exclusive (stop_level 2 shape ws target) 0 (explained_runs 2 shape ws target)
      (curve.rise ws target) (runs_narrow 2 shape curve ws target some)

  -- ---- runs in a bin
  later_in_bin : (n level low high least : ℕ) (runs : List (ℕ × ℕ)) → n < 2 ^ 16 → SmallRun low high
      → high < least → AreRunsFrom least runs → AreNarrow runs
      → AllByRecursion
      (λ y. Excludes (span_behind (prefix_of s kind) shard (range.InBin n low high level)) y)
      (spans_in (prefix_of s kind) (map (bin_range n level) runs) shard)
  later_in_bin n level low high least [] small one less rise narrow = tt
  later_in_bin n level low high least (run ∷ runs) small one less rise narrow = (
    bin_codes_apart n level low high run.0 run.1 small one
        (record { rises = rise.1; low_small = narrow.0.0; high_small = narrow.0.1 })
        (chain high least run.0 less rise.0),
    later_in_bin n level low high (run.1 + 2) runs small one
        (further high least run.0 run.1 less rise.0 rise.1) rise.2 narrow.1,
  )
    where
      chain : (a b c : ℕ) → a < b → b ≤ c → a < c
      chain a b c h g = omega arith

      further : (a b c d : ℕ) → a < b → b ≤ c → c ≤ d → a < d + 2
      further a b c d h g k = omega arith

  pub in_bin_exclusive : (n level least : ℕ) (runs : List (ℕ × ℕ)) → n < 2 ^ 16
      → AreRunsFrom least runs → AreNarrow runs
      → AreExclusive (spans_in (prefix_of s kind) (map (bin_range n level) runs) shard)
  in_bin_exclusive n level least [] small rise narrow = tt
  in_bin_exclusive n level least (run ∷ runs) small rise narrow = (
    later_in_bin n level run.0 run.1 (run.1 + 2) runs small
        (record { rises = rise.1; low_small = narrow.0.0; high_small = narrow.0.1 }) (next run.1)
        rise.2 narrow.1,
    in_bin_exclusive n level (run.1 + 2) runs small rise.2 narrow.1,
  )
    where
      next : (n : ℕ) → n < n + 2
      next n = omega arith

  -- ---- runs in a later bin
  pub run_and_bin : (n m level level' low high least : ℕ) (runs : List (ℕ × ℕ)) → n < 2 ^ 16
      → m < 2 ^ 16 → n < m → SmallRun low high → AreRunsFrom least runs → AreNarrow runs
      → AllByRecursion
      (λ y. Excludes (span_behind (prefix_of s kind) shard (range.InBin n low high level)) y)
      (spans_in (prefix_of s kind) (map (bin_range m level') runs) shard)
  run_and_bin n m level level' low high least [] small-n small-m less one rise narrow = tt
  run_and_bin n m level level' low high least (run ∷ runs) small-n small-m less one rise narrow = (
    bins_apart n m level level' low high run.0 run.1 small-n small-m less one
        (record { rises = rise.1; low_small = narrow.0.0; high_small = narrow.0.1 }),
    run_and_bin n m level level' low high (run.1 + 2) runs small-n small-m less one rise.2 narrow.1,
  )
