-- Edges put into the bands that they meet.
use Rattle.std.proofs.Common.{◌≡◌, ℕ, ◌+◌, ◌<◌, ◌≤◌, Bool, true, false, ◌&&◌, if◌then◌else◌, List}
use Rattle.std.proofs.Common.{[], ◌∷◌, ◌++◌, length, get_or, set, replicate, ◌≤ℤ◌, inl, inr, refl}
use Rattle.std.proofs.Common.{sym, ap, subst, ◌∙◌, arith, length-set, get_or-set_same}
use Rattle.std.proofs.Common.{get_or-set_other}
use Rattle.std.specs.Prelude.{nat_le, nat_lt, filter}
use Rattle.std.proofs.lemmas.List.{append-nil, get_or_read, get_or-replicate}
use Rattle.std.proofs.lemmas.List.Elements.{filter-append}
use Rattle.std.proofs.lemmas.Bool.{cases_eq, ltb-true, ltb-false, lt-ltb, le-ltb, leb-true}
use Rattle.std.proofs.lemmas.Bool.{leb-false, le-leb}
use Rattle.std.proofs.lemmas.Int.{ints, clamps}
use Rattle.std.proofs.Math.Nat.{le_refl}
use Rattle.gm_geom.specs.declared.point.Box2.{Box2}
use Rattle.gm_shapes.specs.Segment.{box_of}
use Rattle.gm_prepared.specs.declared.edge.Edge.{Edge}
use Rattle.gm_prepared.specs.Edge.{segment_of}
use Rattle.gm_prepared.specs.Band.{meets_band, band_at}
use Rattle.gm_prepared.specs.Placing.{IsFlatIn, AreBands}
use Rattle.gm_prepared.proofs.Heights.{meets_from_to}

-- the edge, where the band j is from the first one on and below k
abbrev pub share : ℕ → ℕ → Edge → ℕ → List Edge
share first k e j = if nat_lt j k && nat_le first j then e ∷ [] else []

-- each band below k, from the first on, has the edge besides
pub record AreFilled (old new : List (List Edge)) (first k : ℕ) (e : Edge) : Type 0 where
  pub same : length new ≡ length old
  pub each : (j : ℕ) → j < length old → get_or new j [] ≡ get_or old j [] ++ share first k e j

share_none : (first k : ℕ) (e : Edge) → share first k e k ≡ []
share_none first k e = let out : nat_lt k k ≡ false = le-ltb k k (le_refl k) in rw out refl

share_at : (first k : ℕ) (e : Edge) → first ≤ k → share first (k + 1) e k ≡ e ∷ []
share_at first k e from =
    let under : nat_lt k (k + 1) ≡ true = lt-ltb k (k + 1) (omega arith) in
    let over : nat_le first k ≡ true = le-leb first k from in
    rw under (rw over refl)

same_lt : (j k : ℕ) (b : Bool) → (j ≡ k → ⊥) → nat_lt j k ≡ b → nat_lt j (k + 1) ≡ b
same_lt j k true other e = lt-ltb j (k + 1) (omega (arith, ltb-true j k e))
same_lt j k false other e = le-ltb j (k + 1) (omega (arith, ltb-false j k e, other))

share_other : (first k j : ℕ) (e : Edge) → (j ≡ k → ⊥) → share first (k + 1) e j ≡ share first k e j
share_other first k j e other =
    ap (λ b. if b && nat_le first j then e ∷ [] else []) (same_lt j k (nat_lt j k) other refl)

-- the edge is pushed to the band k
pub filled_more : (old new : List (List Edge)) (first k : ℕ) (e : Edge) (band pushed : List Edge)
    → AreFilled old new first k e → first ≤ k → k < length new → band ≡ get_or new k band
    → pushed ≡ band ++ e ∷ [] → AreFilled old (set new k pushed) first (k + 1) e
filled_more old new first k e band pushed filled from within read push =
    let at : band ≡ get_or new k [] = get_or_read new k band within read [] in
    let below : k < length old = omega (arith, filled.same, within) in
    let before : get_or new k [] ≡ get_or old k [] =
    filled.each k below ∙ ap (λ es. get_or old k [] ++ es) (share_none first k e)
    ∙ append-nil (get_or old k []) in
    let now : pushed ≡ get_or old k [] ++ share first (k + 1) e k =
    push ∙ ap (λ es. es ++ e ∷ []) (at ∙ before)
    ∙ ap (λ es. get_or old k [] ++ es) (sym (share_at first k e from)) in
    let P : ℕ → Type 0 =
    λ j. get_or (set new k pushed) j [] ≡ get_or old j [] ++ share first (k + 1) e j in
    record {
      same = length-set new k pushed ∙ filled.same;
      each = λ j h. elim (cases_eq j k) [
        | inl is ↦ subst P (sym is) (get_or-set_same new k pushed [] within ∙ now)
        | inr other ↦ get_or-set_other new k j pushed [] other ∙ filled.each j h
            ∙ ap (λ es. get_or old j [] ++ es) (sym (share_other first k j e other))
      ];
    }

upto_next : (j n : ℕ) (b : Bool) → nat_le j n ≡ b → nat_lt j (n + 1) ≡ b
upto_next j n true e = lt-ltb j (n + 1) (omega (arith, leb-true j n e))
upto_next j n false e = le-ltb j (n + 1) (omega (arith, leb-false j n e))

-- what meets the band of one edge
share_is : (box : Box2) (e : Edge) (first last j : ℕ) → IsFlatIn box e
    → first ≡ band_at box (box_of (segment_of e)).low.y
    → last ≡ band_at box (box_of (segment_of e)).high.y
    → share first (last + 1) e j ≡ filter (meets_band box j) (e ∷ [])
share_is box e first last j flat is_first is_last =
    ap (λ b. if b && nat_le first j then e ∷ [] else []) (upto_next j last (nat_le j last) refl)
    ∙ ap (λ n. if nat_le j n && nat_le first j then e ∷ [] else []) is_last
    ∙ ap (λ n. if nat_le j (band_at box (box_of (segment_of e)).high.y) && nat_le n j then e ∷ []
    else []) is_first
    ∙ ap (λ b. if b then e ∷ [] else []) (sym (meets_from_to box j e flat))

-- with the edge in each band that it meets, the bands are those of one edge more
pub filled_bands : (box : Box2) (old new : List (List Edge)) (edges : List Edge) (e : Edge)
    (first last k : ℕ) → AreFilled old new first k e → k ≡ last + 1
    → first ≡ band_at box (box_of (segment_of e)).low.y
    → last ≡ band_at box (box_of (segment_of e)).high.y → IsFlatIn box e
    → AreBands box edges old → AreBands box (edges ++ e ∷ []) new
filled_bands box old new edges e first last k filled done is_first is_last flat bands = record {
  count = filled.same ∙ bands.count;
  each = λ j h.
      let below : j < length old = omega (arith, filled.same, h) in
      filled.each j below
      ∙ ap (λ es. es ++ share first k e j) (bands.each j below)
      ∙ ap (λ n. filter (meets_band box j) edges ++ share first n e j) done
      ∙ ap (λ es. filter (meets_band box j) edges ++ es)
      (share_is box e first last j flat is_first is_last)
      ∙ sym (filter-append (meets_band box j) edges (e ∷ []));
}

-- bands of no edges, and the ends of an edge in the height of a box
pub empty_each : (n k : ℕ) (box : Box2) → k < n
    → get_or (replicate n []) k [] ≡ filter (meets_band box k) []
empty_each n k box below = get_or-replicate n k [] [] below

pub ends_in : (box : Box2) (e : Edge) → IsFlatIn box e
    → ((box_of (segment_of e)).low.y ≤ℤ box.high.y) × (box.low.y ≤ℤ (box_of (segment_of e)).high.y)
    × ((box_of (segment_of e)).low.y ≤ℤ (box_of (segment_of e)).high.y)
ends_in box e flat = (
  omega (arith, ints, clamps, flat.high_in),
  omega (arith, ints, clamps, flat.low_in),
  omega (arith, ints, clamps),
)
