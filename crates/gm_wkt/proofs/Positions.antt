-- What is read as a number or a position is spelled so, and the other way round.
use Rattle.std.proofs.Common.{◌≡◌, ℕ, ◌<◌, Bool, true, false, cond, ℤ, List, [], ◌∷◌, ◌++◌, length}
use Rattle.std.proofs.Common.{take, drop, Some, None, refl, sym, ap, ◌∙◌, subst, arith}
use Rattle.std.proofs.Common.{append_assoc}
use Rattle.std.proofs.lemmas.Bool.{and_parts}
use Rattle.std.specs.List.{list_all}
use Rattle.std.specs.Option.{option_map, option_and_then}
use Rattle.gm_base.proofs.Lists.{run_passes, take_drop}
use Rattle.gm_base.proofs.Options.{map_some, then_some}
use Rattle.gm_geom.specs.declared.point.Point.{Point}
use Rattle.gm_geom.specs.Number.{is_number_byte}
use Rattle.gm_base.specs.Ascii.{is_blank}
use Rattle.gm_wkt.specs.Grammar.{AreBlanks, coordinate_of, SpellsNumber, SpellsPosition}
use Rattle.gm_wkt.specs.Reader.{skip_blanks, number_run, number_at, begins_blank, second_at}
use Rattle.gm_wkt.specs.Reader.{position_at, Starts, Ends, Takes}
use Rattle.gm_wkt.proofs.Scans.{take_run, drop_run, skip_over, blank_gap, number_starts, blank_ends}

-- numbers
number_found : (text : List ℕ) (r : ℤ × List ℕ) → number_at text ≡ Some r
    → SpellsNumber (take (number_run text) text) r.0 × (text ≡ take (number_run text) text ++ r.1)
number_found text r e =
    let read = map_some (λ z. (z, drop (number_run text) text))
    (coordinate_of (take (number_run text) text)) r e in (
      record {
        bytes_of = run_passes is_number_byte text;
        value = read.1 ∙ ap (λ z. Some z) (ap (λ q. q.0) read.2);
      },
      take_drop (number_run text) text ∙ ap (λ q. take (number_run text) text ++ q.1) read.2,
    )

number_only : (bs rest : List ℕ) (z : ℤ) → SpellsNumber bs z → Ends rest
    → number_at (bs ++ rest) ≡ Some (z, rest)
number_only bs rest z spells ends =
    ap (λ t. option_map (λ n. (n, drop (number_run (bs ++ rest)) (bs ++ rest))) (coordinate_of t))
    (take_run is_number_byte bs rest spells.bytes_of ends)
    ∙ ap (λ o. option_map (λ n. (n, drop (number_run (bs ++ rest)) (bs ++ rest))) o) spells.value
    ∙ ap (λ t. Some (z, t)) (drop_run is_number_byte bs rest spells.bytes_of ends)

number_first : (bs rest : List ℕ) (z : ℤ) → SpellsNumber bs z
    → (b : ℕ) × (more : List ℕ) × (bs ++ rest ≡ b ∷ more) × (is_number_byte b ≡ true)
number_first [] rest z spells = absurd (none spells.value)
  where
    none : coordinate_of [] ≡ Some z → ⊥
    none e = cc
number_first (b ∷ bs) rest z spells = (
  b,
  bs ++ rest,
  refl,
  (and_parts (is_number_byte b) (list_all is_number_byte bs) spells.bytes_of).0,
)

-- positions
second_found : (x : ℤ) (text : List ℕ) (r : Point × List ℕ) → second_at x text ≡ Some r
    → (gap second : List ℕ) × (0 < length gap) × AreBlanks gap × SpellsNumber second r.0.y
    × (r.0.x ≡ x) × (text ≡ gap ++ (second ++ r.1))
second_found x text r e = by_test (begins_blank text) refl e
  where
    by_test : (t : Bool) → begins_blank text ≡ t
        → cond t (option_map (λ n. (record { x = x; y = n.0 }, n.1)) (number_at (skip_blanks text)))
        None ≡ Some r → (gap second : List ℕ) × (0 < length gap) × AreBlanks gap
        × SpellsNumber second r.0.y × (r.0.x ≡ x) × (text ≡ gap ++ (second ++ r.1))
    by_test false t e = absurd (cc)
    by_test true t e =
        let gap = blank_gap text t in
        let read = map_some (λ (n : ℤ × List ℕ). (record { x = x; y = n.0 }, n.1))
        (number_at (skip_blanks text)) r e in
        let number = number_found (skip_blanks text) read.0 read.1 in (
          gap.0,
          take (number_run (skip_blanks text)) (skip_blanks text),
          gap.1,
          gap.2,
          subst (λ (q : Point × List ℕ). SpellsNumber
              (take (number_run (skip_blanks text)) (skip_blanks text)) q.0.y) read.2 number.0,
          sym (ap (λ (q : Point × List ℕ). q.0.x) read.2),
          gap.3 ∙ ap (λ t. gap.0 ++ t)
              (number.1 ∙ ap
              (λ (q : Point × List ℕ). take (number_run (skip_blanks text)) (skip_blanks text)
              ++ q.1) read.2),
        )

pub position_found : (text : List ℕ) (r : Point × List ℕ) → position_at text ≡ Some r
    → Takes SpellsPosition text r.0 r.1
position_found text r e =
    let read = then_some (λ (n : ℤ × List ℕ). second_at n.0 n.1) (number_at text) r e in
    let x = number_found text read.0 read.1 in
    let y = second_found read.0.0 read.0.1 r read.2 in record {
      front = take (number_run text) text ++ (y.0 ++ y.1);
      spells = record {
        first = take (number_run text) text;
        gap = y.0;
        second = y.1;
        x = subst (λ z. SpellsNumber (take (number_run text) text) z) (sym y.5) x.0;
        some = y.2;
        blanks = y.3;
        y = y.4;
        written = refl;
      };
      written = x.1 ∙ ap (λ t. take (number_run text) text ++ t) y.6
          ∙ regroup (take (number_run text) text) y.0 y.1 r.1;
    }
  where
    regroup : (a b c d : List ℕ) → a ++ (b ++ (c ++ d)) ≡ (a ++ (b ++ c)) ++ d
    regroup a b c d = simp append_assoc

second_only : (x : ℤ) (gap second tail : List ℕ) (y : ℤ) → 0 < length gap → AreBlanks gap
    → SpellsNumber second y → Ends tail
    → second_at x (gap ++ (second ++ tail)) ≡ Some (record { x = x; y = y }, tail)
second_only x [] second tail y some blanks spells ends = absurd (omega arith)
second_only x (b ∷ gap) second tail y some blanks spells ends =
    let first = number_first second tail y spells in
    let starts : Starts (second ++ tail) =
    subst (λ t. Starts t) (sym first.2) (number_starts first.0 first.3) in
    ap (λ t. cond t
    (option_map (λ n. (record { x = x; y = n.0 }, n.1))
    (number_at (skip_blanks ((b ∷ gap) ++ (second ++ tail))))) None)
    (and_parts (is_blank b) (list_all is_blank gap) blanks).0
    ∙ ap (λ t. option_map (λ n. (record { x = x; y = n.0 }, n.1)) (number_at t))
    (skip_over (b ∷ gap) (second ++ tail) blanks starts)
    ∙ ap (λ o. option_map (λ n. (record { x = x; y = n.0 }, n.1)) o)
    (number_only second tail y spells ends)

pub position_only : (front tail : List ℕ) (p : Point) → SpellsPosition front p → Ends tail
    → position_at (front ++ tail) ≡ Some (p, tail)
position_only front tail p s ends =
    ap position_at (ap (λ t. t ++ tail) s.written ∙ regroup s.first s.gap s.second tail)
    ∙ ap (λ o. option_and_then (λ n. second_at n.0 n.1) o)
    (number_only s.first (s.gap ++ (s.second ++ tail)) p.x s.x
    (gap_ends s.gap (s.second ++ tail) s.some s.blanks))
    ∙ second_only p.x s.gap s.second tail p.y s.some s.blanks s.y ends
  where
    regroup : (a b c d : List ℕ) → (a ++ (b ++ c)) ++ d ≡ a ++ (b ++ (c ++ d))
    regroup a b c d = simp append_assoc

    gap_ends : (gap rest : List ℕ) → 0 < length gap → AreBlanks gap → Ends (gap ++ rest)
    gap_ends [] rest some blanks = absurd (omega arith)
    gap_ends (b ∷ gap) rest some blanks =
        blank_ends b (and_parts (is_blank b) (list_all is_blank gap) blanks).0

pub position_starts : (bytes rest : List ℕ) (p : Point) → SpellsPosition bytes p
    → (b : ℕ) × (more : List ℕ) × (bytes ++ rest ≡ b ∷ more) × (is_number_byte b ≡ true)
position_starts bytes rest p s =
    let first = number_first s.first ((s.gap ++ s.second) ++ rest) p.x s.x in (
      first.0,
      first.1,
      ap (λ t. t ++ rest) s.written ∙ append_assoc s.first (s.gap ++ s.second) rest
          ∙ first.2,
      first.3,
    )
