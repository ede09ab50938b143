-- Positions in brackets, and positions whose brackets may be left out.
use Rattle.std.proofs.Common.{◌≡◌, ℕ, Bool, true, false, ◌==◌, cond, List, [], ◌∷◌, ◌++◌, Some}
use Rattle.std.proofs.Common.{None, inl, inr, refl, sym, ap, ◌∙◌, subst, arith, eqb-true}
use Rattle.std.specs.Option.{option_map, option_and_then}
use Rattle.std.proofs.lemmas.Bool.Decides.{nat_tests}
use Rattle.gm_base.proofs.Options.{map_some, then_some}
use Rattle.gm_geom.specs.declared.point.Point.{Point}
use Rattle.gm_geom.specs.Number.{is_number_byte}
use Rattle.gm_wkt.specs.Grammar.{SpellsPosition, SpellsLone, SpellsMember}
use Rattle.gm_wkt.specs.Reader.{skip_blanks, behind, position_at, closed_at, lone_inside, lone_at}
use Rattle.gm_wkt.specs.Reader.{opens, point_at, SpellsPoint, Starts, Ends, Takes}
use Rattle.gm_wkt.proofs.Scans.{skip_over, skipped, ends_behind, number_starts}
use Rattle.gm_wkt.proofs.Positions.{position_found, position_only, position_starts}
use Rattle.gm_wkt.proofs.Members.{list_found, list_at_front}

pub behind_some : (b : ℕ) (bytes rest : List ℕ) → behind b bytes ≡ Some rest → bytes ≡ b ∷ rest
behind_some b [] rest e = absurd (cc)
behind_some b (c ∷ bytes) rest e = by_test (c == b) refl e
  where
    by_test : (t : Bool) → (c == b) ≡ t → cond t (Some bytes) None ≡ Some rest
        → c ∷ bytes ≡ b ∷ rest
    by_test true is e = let s : bytes ≡ rest = cc in
        ap (λ n. n ∷ bytes) (eqb-true c b is) ∙ ap (λ t. b ∷ t) s
    by_test false is e = absurd (cc)

pub lone_found : (text : List ℕ) (r : Point × List ℕ) → lone_at text ≡ Some r
    → Takes SpellsLone text r.0 r.1
lone_found text r e =
    let opened = then_some lone_inside (behind 40 text) r e in
    let read = then_some (λ (n : Point × List ℕ). closed_at n.0 n.1)
    (position_at (skip_blanks opened.0)) r opened.2 in
    let closed = map_some (λ (rest : List ℕ). (read.0.0, rest))
    (behind 41 (skip_blanks read.0.1)) r read.2 in
    let front = skipped opened.0 in
    let item = position_found (skip_blanks opened.0) read.0 read.1 in
    let gap = skipped read.0.1 in
    let member : SpellsMember SpellsPosition opened.0 read.0.0 (41 ∷ closed.0) = record {
      before = front.0;
      item = item.front;
      after = gap.0;
      blanks_before = front.1;
      spells = item.spells;
      blanks_after = gap.1;
      written = front.2
          ∙ ap (λ t. front.0 ++ t)
          (item.written ∙ ap (λ t. item.front ++ t)
          (gap.2 ∙ ap (λ t. gap.0 ++ t)
          (behind_some 41 (skip_blanks read.0.1) closed.0 closed.1)));
    } in
    let taken = list_found SpellsPosition text opened.0 (read.0.0 ∷ []) closed.0
    (behind_some 40 text opened.0 opened.1) member in
    let P : Point × List ℕ → Type 0 = λ q. Takes SpellsLone text q.0 q.1 in
    subst P closed.2
    (record { front = taken.front; spells = taken.spells; written = taken.written })

inside_only : (inside tail : List ℕ) (p : Point) → SpellsMember SpellsPosition inside p (41 ∷ tail)
    → lone_inside inside ≡ Some (p, tail)
inside_only inside tail p m =
    let first = position_starts m.item (m.after ++ 41 ∷ tail) p m.spells in
    let starts : Starts (m.item ++ (m.after ++ 41 ∷ tail)) =
    subst (λ t. Starts t) (sym first.2) (number_starts first.0 first.3) in
    ap (λ t. option_and_then (λ n. closed_at n.0 n.1) (position_at t))
    (ap skip_blanks m.written
    ∙ skip_over m.before (m.item ++ (m.after ++ 41 ∷ tail)) m.blanks_before starts)
    ∙ ap (λ o. option_and_then (λ n. closed_at n.0 n.1) o)
    (position_only m.item (m.after ++ 41 ∷ tail) p m.spells
    (ends_behind m.after 41 tail m.blanks_after refl))
    ∙ ap (λ t. option_map (λ rest. (p, rest)) (behind 41 t))
    (skip_over m.after (41 ∷ tail) m.blanks_after refl)

pub lone_only : (front tail : List ℕ) (p : Point) → SpellsLone front p
    → lone_at (front ++ tail) ≡ Some (p, tail)
lone_only front tail p l =
    let text = list_at_front SpellsPosition front (p ∷ []) tail l in
    ap lone_at text.2 ∙ inside_only text.0 tail p text.1

-- whether a bracket stands first
opens_not : (b : ℕ) → is_number_byte b ≡ true → (b == 40) ≡ false
opens_not b e = grind (arith, nat_tests)

pub point_found : (loose : Bool) (text : List ℕ) (r : Point × List ℕ) → point_at loose text ≡ Some r
    → Takes (SpellsPoint loose) text r.0 r.1
point_found false text r e = let t = position_found text r e in
    record { front = t.front; spells = t.spells; written = t.written }
point_found true text r e = by_test (opens text) e
  where
    by_test : (t : Bool) → cond t (lone_at text) (position_at text) ≡ Some r
        → Takes (SpellsPoint true) text r.0 r.1
    by_test true e = let t = lone_found text r e in
        record { front = t.front; spells = inr t.spells; written = t.written }
    by_test false e = let t = position_found text r e in
        record { front = t.front; spells = inl t.spells; written = t.written }

pub point_only : (loose : Bool) (front tail : List ℕ) (p : Point) → SpellsPoint loose front p
    → Ends tail → point_at loose (front ++ tail) ≡ Some (p, tail)
point_only false front tail p s ends = position_only front tail p s ends
point_only true front tail p (inl s) ends =
    let first = position_starts front tail p s in
    ap (λ t. cond t (lone_at (front ++ tail)) (position_at (front ++ tail)))
    (ap opens first.2 ∙ opens_not first.0 first.3) ∙ position_only front tail p s ends
point_only true front tail p (inr l) ends =
    let text = list_at_front SpellsPosition front (p ∷ []) tail l in
    ap (λ t. cond t (lone_at (front ++ tail)) (position_at (front ++ tail))) (ap opens text.2)
    ∙ lone_only front tail p l
