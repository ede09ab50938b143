-- Which levels qualify.
use Rattle.std.proofs.Common.{◌≡◌, ⊎_elim, ℕ, zero, suc, ◌+◌, ◌-◌, ◌*◌, ◌<◌, ◌≤◌, List, [], ◌∷◌}
use Rattle.std.proofs.Common.{length, refl, sym, ap, subst, arith}
use Rattle.std.specs.Prelude.{true, false, Option, Some, None, option_to_list}
use Rattle.std.proofs.Math.Nat.{mul-le-mul_left}
use Rattle.gm_trees.specs.declared.node.Node.{Node}
use Rattle.gm_trees.specs.declared.window.Window.{Window}
use Rattle.gm_trees.specs.Tree.{Shape, IsTree}
use Rattle.std.proofs.lemmas.Bool.{cases_lt}
use Rattle.std.proofs.lemmas.List.Elements.{All-from_recursion}
use Rattle.gm_runs.specs.Runs.{AreMaximalRuns}
use Rattle.gm_split.specs.RunLaws.{RunLaws}
use Rattle.gm_split.specs.declared.pieces.Piece.{Piece}
use Rattle.gm_split.specs.declared.pieces.Piece.TheVariants.{Codes, Partial}
use Rattle.gm_split.specs.declared.front.Front.{Front}
use Rattle.gm_split.specs.Levels.{InLevelSet, Qualifies, IsStop}
use Rattle.gm_split.specs.Opening.{piece_of, partials, ends, Covers, IsComing, opened_all}
use Rattle.gm_split.specs.Front.{joined, runs_behind, HasFirst, HasNext, IsStopAt}
use Rattle.gm_split.proofs.Decomposed.{Decomposes, decomposes_start, decomposes_next, level_into}
use Rattle.gm_split.proofs.Decomposed.{level_out, level_count, level_runs, only_runs, all_rise}
use Rattle.gm_split.proofs.Decomposed.{all_come}
use Rattle.gm_split.proofs.Joins.{joined_partials, joined_decomposes, joined_runs}
use Rattle.gm_split.proofs.Rising.{RiseTo, rise_from, merged, merged_maximal, merged_length}
use Rattle.gm_split.proofs.Rising.{joined_rise, piece_rise, all_rise_to}

module _ (D : ℕ) (s : Shape) (ws : List Window) (Comes : Node → Type 0) (tree : IsTree D s Comes)
    (laws : RunLaws) (l target : ℕ) (ps : List Piece) (d : Decomposes D s ws Comes l ps)
    (rs : List (ℕ × ℕ)) (runs : AreMaximalRuns rs (Covers s ps)) where
  pub level_qualifies : length rs ≤ target → partials ps ≤ 4 * target → Qualifies D s ws target l
  level_qualifies few partial = record {
    runs = λ others more. let e =
        ap length (only_runs laws (InLevelSet D s ws l) rs others
        (level_runs D s ws Comes tree l ps d rs runs) more) in omega (arith, e, few);
    partial = omega (arith, level_count D s ws Comes tree l ps d, partial);
  }

  pub too_many_runs : target < length rs → Qualifies D s ws target l → ⊥
  too_many_runs many q = let few = q.runs rs (level_runs D s ws Comes tree l ps d rs runs) in
      omega (arith, few, many)

pub too_many_partial : (D : ℕ) (s : Shape) (ws : List Window) (Comes : Node → Type 0)
    (tree : IsTree D s Comes) (l target : ℕ) (ps : List Piece) → Decomposes D s ws Comes l ps
    → 4 * target < partials ps → Qualifies D s ws target l → ⊥
too_many_partial D s ws Comes tree l target ps d many q =
    omega (arith, q.partial, level_count D s ws Comes tree l ps d, many)

-- one piece is one run at most
one_run : (s : Shape) (o : Option Piece) → length (merged s (option_to_list o)) ≤ 1
one_run s None = omega arith
one_run s (Some p) = omega arith

partials_one : (o : Option Piece) → partials (option_to_list o) ≤ 1
partials_one None = omega arith
partials_one (Some (Codes low high)) = omega arith
partials_one (Some (Partial n near)) = omega arith

-- ---- steps
pub level_steps : (level w p m : ℕ) → p ≤ m → level * (w * m) + w * p ≤ (level + 1) * (w * m)
level_steps level w p m few = let h = mul-le-mul_left w few in grind (arith, h)

-- ---- the levels reached so far
pub record Reached (D : ℕ) (s : Shape) (ws : List Window) (Comes : Node → Type 0) (target l : ℕ)
    (ps : List Piece) : Type 0 where
  pub stands : Decomposes D s ws Comes l ps
  pub rises : RiseTo s 0 (s.last s.root + 1) ps
  pub few : length (merged s ps) ≤ target
  pub partial : partials ps ≤ 4 * target
  pub all : (k : ℕ) → k ≤ l → Qualifies D s ws target k

-- where there is no partial node, the next level has the same pieces
settled_same : (D : ℕ) (s : Shape) (ws : List Window) (ps : List Piece) → partials ps ≡ 0
    → ps ≡ opened_all D s ws ps
settled_same D s ws [] none = refl
settled_same D s ws (Codes low high ∷ ps) none =
    ap (λ k. Codes low high ∷ k) (settled_same D s ws ps (omega (arith, none)))
settled_same D s ws (Partial n near ∷ ps) none = absurd (omega (arith, none))

module _ (D : ℕ) (s : Shape) (ws : List Window) (Comes : Node → Type 0) (tree : IsTree D s Comes)
    (laws : RunLaws) (target : ℕ) where
  pub first_reached : 1 ≤ target
      → Reached D s ws Comes target 0 (option_to_list (piece_of D s ws s.root))
  first_reached some =
      let ps = option_to_list (piece_of D s ws s.root) in
      let start = decomposes_start D s ws Comes tree in
      let rises : RiseTo s 0 (s.last s.root + 1) ps =
      rise_from s 0 s.root.first (s.last s.root + 1) ps (omega arith)
      (piece_rise D s ws Comes tree s.root tree.root_comes) in
      let few : length (merged s ps) ≤ target =
      omega (arith, some, one_run s (piece_of D s ws s.root)) in
      let partial : partials ps ≤ 4 * target =
      omega (arith, some, partials_one (piece_of D s ws s.root)) in
      record {
        stands = start;
        rises = rises;
        few = few;
        partial = partial;
        all = λ k h. let e : 0 ≡ k = omega arith in
            subst (Qualifies D s ws target) e
            (level_qualifies D s ws Comes tree laws 0 target ps start (merged s ps)
            (merged_maximal s (s.last s.root + 1) ps rises) few partial);
      }

  module _ (l : ℕ) (ps : List Piece) (reached : Reached D s ws Comes target l ps) where
    covered : AreMaximalRuns (merged s ps) (Covers s ps)
    covered = merged_maximal s (s.last s.root + 1) ps reached.rises

    -- joined, they are as many
    joined_reached : Reached D s ws Comes target l (joined ps)
    joined_reached =
        let rises = joined_rise s 0 (s.last s.root + 1) ps reached.rises in
        let e = ap length
        (only_runs laws (Covers s (joined ps)) (merged s (joined ps)) (merged s ps)
        (merged_maximal s (s.last s.root + 1) (joined ps) rises)
        (joined_runs D s ws Comes l ps reached.stands (merged s ps) covered)) in
        record {
          stands = joined_decomposes D s ws Comes l ps reached.stands;
          rises = rises;
          few = omega (arith, e, reached.few);
          partial = omega (arith, joined_partials ps, reached.partial);
          all = reached.all;
        }

    -- the level is the stop, and these are its pieces
    is_stop : IsStop D s ws target l → IsStopAt D s ws Comes target l ps
    is_stop stop = record {
      stop = stop;
      covers = λ c. (
        level_out D s ws Comes tree l ps reached.stands c,
        level_into D s ws Comes tree l ps reached.stands c,
      );
      rise = All-from_recursion (λ p. (ends s p).0 ≤ (ends s p).1) ps
          (all_rise D s ws Comes tree l ps reached.stands.stand);
      come = All-from_recursion (IsComing Comes) ps
          (all_come D s ws Comes l ps reached.stands.stand);
    }

    pub stops_at_end : s.depth ≤ l → IsStopAt D s ws Comes target l ps
    stops_at_end deep =
        is_stop (record {
          within = reached.stands.within;
          all = reached.all;
          next = λ less q. absurd (omega arith);
        })

    module _ (more : l < s.depth) where
      next_stands : Decomposes D s ws Comes (l + 1) (opened_all D s ws ps)
      next_stands = decomposes_next D s ws Comes tree l ps more reached.stands

      next_rises : RiseTo s 0 (s.last s.root + 1) (opened_all D s ws ps)
      next_rises = all_rise_to D s ws Comes tree l 0 (s.last s.root + 1) ps reached.stands.stand
          more reached.rises

      next_covered : AreMaximalRuns (merged s (opened_all D s ws ps))
          (Covers s (opened_all D s ws ps))
      next_covered = merged_maximal s (s.last s.root + 1) (opened_all D s ws ps) next_rises

      pub stops_at_many : (next : Front) → HasNext D s ws target ps next false
          → IsStopAt D s ws Comes target l ps
      stops_at_many next many = is_stop (record {
        within = reached.stands.within;
        all = reached.all;
        next = λ less q. ⊎_elim
            (λ runs. too_many_runs D s ws Comes tree laws (l + 1) target (opened_all D s ws ps)
            next_stands (merged s (opened_all D s ws ps)) next_covered
            (omega (arith, runs, merged_length s (opened_all D s ws ps))) q)
            (λ partial. too_many_partial D s ws Comes tree (l + 1) target (opened_all D s ws ps)
            next_stands partial q) many;
      })

      next_reached : runs_behind s None (opened_all D s ws ps) ≤ target
          → partials (opened_all D s ws ps) ≤ 4 * target
          → Reached D s ws Comes target (l + 1) (opened_all D s ws ps)
      next_reached runs partial =
          let few : length (merged s (opened_all D s ws ps)) ≤ target =
          omega (arith, runs, merged_length s (opened_all D s ws ps)) in
          record {
            stands = next_stands;
            rises = next_rises;
            few = few;
            partial = partial;
            all = λ k h. ⊎_elim (λ earlier. reached.all k (omega arith))
                (λ here. let e : l + 1 ≡ k = omega arith in
                subst (Qualifies D s ws target) e
                (level_qualifies D s ws Comes tree laws (l + 1) target
                (opened_all D s ws ps) next_stands (merged s (opened_all D s ws ps))
                next_covered few partial))
                (cases_lt k (l + 1));
          }

      same_reached : partials ps ≡ 0 → Reached D s ws Comes target (l + 1) ps
      same_reached none =
          let e = settled_same D s ws ps none in
          let runs = ap (runs_behind s None) e in
          let partial = ap partials e in
          subst (Reached D s ws Comes target (l + 1)) (sym e)
          (next_reached (omega (arith, runs, merged_length s ps, reached.few))
          (omega (arith, partial, none)))

  pub first_joined : (ps : List Piece) → 1 ≤ target
      → ps ≡ joined (option_to_list (piece_of D s ws s.root)) → Reached D s ws Comes target 0 ps
  first_joined ps some at =
      subst (Reached D s ws Comes target 0) (sym at)
      (joined_reached 0 (option_to_list (piece_of D s ws s.root)) (first_reached some))

  pub first_count : (front : Front) → HasFirst D s ws front
      → front.partial ≡ partials front.pieces.items
  first_count front has = let e = ap partials has.pieces in
      omega (arith, e, has.partial, joined_partials (option_to_list (piece_of D s ws s.root)))

  pub next_joined : (l : ℕ) (ps : List Piece) (next : Front) → l < s.depth
      → Reached D s ws Comes target l ps → HasNext D s ws target ps next true
      → Reached D s ws Comes target (l + 1) next.pieces.items
  next_joined l ps next more reached has =
      subst (Reached D s ws Comes target (l + 1)) (sym has.0)
      (joined_reached (l + 1) (opened_all D s ws ps)
      (next_reached l ps reached more has.1 has.3))

  pub next_count : (l : ℕ) (ps : List Piece) (next : Front) → HasNext D s ws target ps next true
      → next.partial ≡ partials next.pieces.items
  next_count l ps next has = let e = ap partials has.0 in
      omega (arith, e, has.2, joined_partials (opened_all D s ws ps))

  -- without partial nodes each level up to the depth has these pieces
  settled : (k l : ℕ) (ps : List Piece) → l + k ≡ s.depth → partials ps ≡ 0
      → Reached D s ws Comes target l ps → Reached D s ws Comes target s.depth ps
  settled zero l ps at none reached = let e : l ≡ s.depth = omega arith in
      subst (λ i. Reached D s ws Comes target i ps) e reached
  settled (suc k) l ps at none reached =
      settled k (l + 1) ps (omega arith) none (same_reached l ps reached (omega arith) none)

  pub stops_settled : (l : ℕ) (ps : List Piece) → Reached D s ws Comes target l ps → partials ps ≡ 0
      → IsStopAt D s ws Comes target s.depth ps
  stops_settled l ps reached none =
      let within = reached.stands.within in
      stops_at_end s.depth ps (settled (s.depth - l) l ps (omega arith) none reached) (omega arith)

-- ---- the runs of the stop level
module _ (D : ℕ) (s : Shape) (ws : List Window) (Comes : Node → Type 0) (target l : ℕ)
    (ps : List Piece) (rs : List (ℕ × ℕ)) (at : IsStopAt D s ws Comes target l ps)
    (runs : AreMaximalRuns rs (Covers s ps)) where
  pub stop_runs : AreMaximalRuns rs (InLevelSet D s ws l)
  stop_runs = record {
    apart = runs.apart;
    exact = λ c. (
      (λ h. (at.covers c).0 ((runs.exact c).0 h)),
      (λ h. (runs.exact c).1 ((at.covers c).1 h)),
    );
  }

  pub stop_few : length rs ≤ target
  stop_few = (at.stop.all l (omega arith)).runs rs stop_runs
