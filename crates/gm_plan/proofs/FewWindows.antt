-- Few boxes and few intervals make few windows.
use Rattle.std.proofs.Common.{◌≡◌, ℕ, ◌*◌, ◌≤◌, Bool, true, false, cond, List, [], ◌∷◌, length, map}
use Rattle.std.proofs.Common.{filter, refl, arith, length-append}
use Rattle.std.specs.List.{flat_map}
use Rattle.gm_calendar.specs.declared.period.Period.{Period}
use Rattle.gm_geom.specs.declared.point.Box2.{Box2}
use Rattle.gm_bounds.specs.declared.interval.Interval.{Interval}
use Rattle.gm_plan.specs.Bins.{meets_bin}
use Rattle.gm_plan.specs.Windows.{windows_in, window_in}

kept_few : {X : Type 0} (test : X → Bool) (xs : List X) → length (filter test xs) ≤ length xs
kept_few test [] = omega arith
kept_few test (x ∷ xs) = by (test x) (kept_few test xs)
  where
    by : (b : Bool) → length (filter test xs) ≤ length xs
        → length (cond b (x ∷ filter test xs) (filter test xs)) ≤ length (x ∷ xs)
    by true h = omega arith
    by false h = omega arith

pub mapped : {X Y : Type 0} (f : X → Y) (xs : List X) → length (map f xs) ≡ length xs
mapped f [] = refl
mapped f (x ∷ xs) = let h = mapped f xs in omega arith

each_few : {X Y : Type 0} (f : X → List Y) (xs : List X) → ((x : X) → length (f x) ≤ 8)
    → length (flat_map f xs) ≤ 8 * length xs
each_few f [] h = omega arith
each_few f (x ∷ xs) h =
    let here : length (f x) ≤ 8 = h x in
    let there = each_few f xs h in
    let e = length-append (f x) (flat_map f xs) in
    omega arith

pub few_windows : (period : Period) (bits : ℕ) (boxes : List Box2) (intervals : List Interval)
    (number : ℕ) → length boxes ≤ 8 → length intervals ≤ 8
    → length (windows_in period bits boxes intervals number) ≤ 64
few_windows period bits boxes intervals number few few' =
    let h = each_few
    (λ b. map (window_in period bits number b) (filter (meets_bin period number) intervals))
    boxes
    (λ b. in_one b) in
    omega arith
  where
    in_one : (b : Box2)
        → length (map (window_in period bits number b) (filter (meets_bin period number) intervals))
        ≤ 8
    in_one b =
        let e = mapped (window_in period bits number b)
        (filter (meets_bin period number) intervals) in
        let k = kept_few (meets_bin period number) intervals in
        omega arith
