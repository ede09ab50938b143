-- The ranges of the indexes over cells number at most the target.
use Rattle.std.proofs.Common.{◌≡◌, ℕ, ◌*◌, ◌/◌, ◌≤◌, Bool, true, false, List, [], ◌∷◌, length, refl}
use Rattle.std.proofs.Common.{arith, length-append}
use Rattle.std.proofs.lemmas.Bool.{ltb-false}
use Rattle.std.proofs.lemmas.Nat.{le-div}
use Rattle.std.proofs.Math.Nat.{div-mul-le_self}
use Rattle.std.specs.Prelude.{nat_lt, if◌then◌else◌}
use Rattle.std.specs.List.{flat_map}
use Rattle.gm_calendar.specs.declared.period.Period.{Period}
use Rattle.gm_geom.specs.declared.point.Box2.{Box2}
use Rattle.gm_runs.specs.Runs.{AreMaximalRuns}
use Rattle.gm_trees.specs.declared.window.Window.{Window}
use Rattle.gm_trees.specs.Tree.{Shape}
use Rattle.gm_split.specs.Levels.{InLevelSet, IsStop}
use Rattle.gm_split.specs.Explained.{explained_runs, level_runs, stop_level}
use Rattle.gm_bounds.specs.declared.bound.Bound.{Bound}
use Rattle.gm_bounds.specs.declared.bound.Bound.TheVariants.{World, Listed}
use Rattle.gm_bounds.specs.declared.ranges.Range.TheVariants.{OneId}
use Rattle.gm_bounds.specs.declared.interval.Interval.{Interval}
use Rattle.gm_plan.specs.Bins.{bins_of}
use Rattle.gm_plan.specs.KeyRanges.{code_range, bin_range, plane_ranges, bin_ranges, ranges_in_bins}
use Rattle.gm_plan.specs.KeyRanges.{space_ranges, span_of_bins, id_ranges}
use Rattle.gm_plan.specs.Inside.{count_of}
use Rattle.gm_plan.specs.Windows.{windows_in}
use Rattle.gm_plan.proofs.FewWindows.{mapped}

pub few_runs : (D : ℕ) (s : Shape)
    → ((ws : List Window) (target : ℕ) → 1 ≤ target
    → IsStop D s ws target (stop_level D s ws target))
    → ((ws : List Window) (l : ℕ) → l ≤ s.depth
    → AreMaximalRuns (level_runs D s ws l) (InLevelSet D s ws l))
    → (ws : List Window) (target : ℕ) → 1 ≤ target → length (explained_runs D s ws target) ≤ target
unfolding explained_runs
few_runs D s stop sets ws target some =
    let is = stop ws target some in
    (is.all (stop_level D s ws target) (same (stop_level D s ws target))).runs
    (level_runs D s ws (stop_level D s ws target))
    (sets ws (stop_level D s ws target) is.within)
  where
    same : (n : ℕ) → n ≤ n
    same n = omega arith

abbrev pub Few : ℕ → Shape → Type 0
Few D s = (ws : List Window) (target : ℕ) → 1 ≤ target
    → length (explained_runs D s ws target) ≤ target

pub plane_few : (s : Shape) → Few 2 s → (ws : List Window) (target : ℕ) → 1 ≤ target
    → length (plane_ranges s ws target) ≤ target
unfolding plane_ranges
plane_few s few ws target some =
    let e = mapped (code_range (stop_level 2 s ws target)) (explained_runs 2 s ws target) in
    let h = few ws target some in
    omega arith

bin_few : (s : Shape) → Few 3 s → (number : ℕ) (ws : List Window) (target : ℕ) → 1 ≤ target
    → length (bin_ranges s number ws target) ≤ target
unfolding bin_ranges
bin_few s few number ws target some =
    let e = mapped (bin_range number (stop_level 3 s ws target)) (explained_runs 3 s ws target) in
    let h = few ws target some in
    omega arith

each_most : {X Y : Type 0} (f : X → List Y) (n : ℕ) (xs : List X) → ((x : X) → length (f x) ≤ n)
    → length (flat_map f xs) ≤ n * length xs
each_most f n [] h = omega arith
each_most f n (x ∷ xs) h =
    let here = h x in
    let there = each_most f n xs h in
    let e = length-append (f x) (flat_map f xs) in
    omega arith

module _ (s : Shape) (few : Few 3 s) (windows : ℕ → List Window) where
  flat_few : (bins : List ℕ) (target : ℕ) → length bins ≤ target
      → length (flat_map (λ number. bin_ranges s number (windows number) (target / length bins))
      bins) ≤ target
  flat_few [] target h = omega arith
  flat_few (n ∷ bins) target h =
      let part : 1 ≤ target / length (n ∷ bins) =
      le-div 1 target (length (n ∷ bins)) (omega arith) (omega arith) in
      let all = each_most
      (λ number. bin_ranges s number (windows number) (target / length (n ∷ bins)))
      (target / length (n ∷ bins)) (n ∷ bins)
      (λ number. bin_few s few number (windows number)
      (target / length (n ∷ bins)) part) in
      let most = div-mul-le_self target (length (n ∷ bins)) in
      joined _ _ _ all most
    where
      joined : (a b c : ℕ) → a ≤ b → b ≤ c → a ≤ c
      joined a b c p q = omega arith

  bins_by : (bins : List ℕ) (target : ℕ) (b : Bool) → nat_lt target (length bins) ≡ b → 1 ≤ target
      → length (if b then span_of_bins bins ∷ []
      else flat_map (λ number. bin_ranges s number (windows number) (target / length bins)) bins)
      ≤ target
  bins_by bins target true e some = some
  bins_by bins target false e some = flat_few bins target (ltb-false target (length bins) e)

  pub bins_few : (bins : List ℕ) (target : ℕ) → 1 ≤ target
      → length (ranges_in_bins s windows bins target) ≤ target
  unfolding ranges_in_bins
  bins_few bins target some = bins_by bins target (nat_lt target (length bins)) refl some

pub space_few : (s : Shape) → Few 3 s
    → (period : Period) (bits : ℕ) (boxes : List Box2) (intervals : List Interval) (target : ℕ)
    → 1 ≤ target → length (space_ranges s period bits boxes intervals target) ≤ target
space_few s few period bits [] intervals target some = omega arith
space_few s few period bits (b ∷ boxes) intervals target some =
    bins_few s few (windows_in period bits (b ∷ boxes) intervals)
    (bins_of period intervals) target some

pub id_count : (b : Bound (List ℕ)) → length (id_ranges b) ≡ count_of b
id_count World = refl
id_count (Listed ids) = mapped (λ id. OneId id) ids
