-- Extents widened by members that are read one after the other.
use Rattle.std.proofs.Common.{◌≡◌, ℕ, suc, ◌+◌, ◌-◌, ◌<◌, ◌≤◌, List, [], ◌∷◌, fold, Option, Some}
use Rattle.std.proofs.Common.{refl, sym, ap, subst, ◌∙◌, arith}
use Rattle.std.specs.Option.{ForSome}
use Rattle.std.proofs.lemmas.Grind.{fold-append}
use Rattle.gm_geom.specs.declared.geometry.Geometry.{Geometry}
use Rattle.gm_geom.specs.declared.point.Box2.{Box2}
use Rattle.gm_geom.specs.declared.point.Point.{Point}
use Rattle.gm_geom.specs.Extent.{widened, extent_of}
use Rattle.gm_geom.specs.Geometry.{joined, points_of}
use Rattle.gm_feature.specs.Reader.{◌>>=◌, made, members_from, body_from}
use Rattle.gm_feature.proofs.Fields.{bind_some, made_some, some_is}
use Rattle.gm_feature.proofs.Shapes.{joined-append}

-- the extent by all members
abbrev pub by_points : Option Box2 → List Point → Option Box2
by_points extent points = fold widened extent points

abbrev pub by_lines : Option Box2 → List (List Point) → Option Box2
by_lines extent lines = fold widened extent (joined lines)

abbrev pub by_areas : Option Box2 → List (List (List Point)) → Option Box2
by_areas extent areas = fold widened extent (joined (joined areas))

pub points_more : (e : Option Box2) (p : Point) (points : List Point)
    → by_points e (p ∷ points) ≡ by_points (widened e p) points
points_more e p points = refl

pub lines_more : (e : Option Box2) (points : List Point) (lines : List (List Point))
    → by_lines e (points ∷ lines) ≡ by_lines (by_points e points) lines
lines_more e points lines = fold-append widened e points (joined lines)

pub areas_more : (e : Option Box2) (rings : List (List Point)) (areas : List (List (List Point)))
    → by_areas e (rings ∷ areas) ≡ by_areas (by_lines e rings) areas
areas_more e rings areas =
    ap (λ (points : List Point). fold widened e points) (joined-append rings (joined areas))
    ∙ fold-append widened e (joined rings) (joined (joined areas))

-- so many members are still read; with them the extent is the whole one, and the end is behind them
abbrev pub Owes : {X : Type 0} → (List ℕ → Option (X × List ℕ))
    → (Option Box2 → List X → Option Box2) → ℕ → Option Box2 → List ℕ → Option Box2
    → List ℕ → Type 0
Owes {X = X} read all n extent rest total end =
    (ys : List X) × (members_from read n rest ≡ Some (ys, end)) × (all extent ys ≡ total)

pub owes_start : {X : Type 0} (read : List ℕ → Option (X × List ℕ))
    (all : Option Box2 → List X → Option Box2) (count : ℕ) (extent : Option Box2) (bytes : List ℕ)
    (x : List X × List ℕ)
    → members_from read count bytes ≡ Some x
    → Owes read all (count - 0) extent bytes (all extent x.0) x.1
owes_start read all count extent bytes x e =
    let k : count - 0 ≡ count = omega arith in
    (x.0, ap (λ (n : ℕ). members_from read n bytes) k ∙ e, refl)

pub owes_on : {X : Type 0} (read : List ℕ → Option (X × List ℕ))
    (all : Option Box2 → List X → Option Box2) (by : Option Box2 → X → Option Box2)
    → ((e : Option Box2) (v : X) (ys : List X) → all e (v ∷ ys) ≡ all (by e v) ys)
    → (count i : ℕ) (extent wider : Option Box2) (rest after : List ℕ) (total : Option Box2)
    (end : List ℕ) → i < count
    → ForSome (read rest) (λ v. (wider ≡ by extent v.0) × (after ≡ v.1))
    → Owes read all (count - i) extent rest total end
    → Owes read all (count - (i + 1)) wider after total end
owes_on {X = X} read all by more count i extent wider rest after total end lt step owes =
    let k : count - i ≡ suc (count - (i + 1)) = omega arith in
    let e : members_from read (suc (count - (i + 1))) rest ≡ Some (owes.0, end) =
    ap (λ (n : ℕ). members_from read n rest) (sym k) ∙ owes.1 in
    let a = bind_some (read rest)
    (λ first. members_from read (count - (i + 1)) first.1
    >>= λ others. Some (first.0 ∷ others.0, others.1)) (owes.0, end) e in
    let b = bind_some (members_from read (count - (i + 1)) a.0.1)
    (λ others. Some (a.0.0 ∷ others.0, others.1)) (owes.0, end) a.2 in
    let both : List X × List ℕ = (a.0.0 ∷ b.0.0, b.0.1) in
    let same = some_is both (owes.0, end) b.2 in
    let here = step a.0 a.1 in (
      b.0.0,
      ap (members_from read (count - (i + 1))) here.1 ∙ b.1
          ∙ ap (λ (p : List X × List ℕ). Some (b.0.0, p.1)) same,
      ap (λ (t : Option Box2). all t b.0.0) here.0 ∙ sym (more extent a.0.0 b.0.0)
          ∙ ap (λ (p : List X × List ℕ). all extent p.0) same ∙ owes.2,
    )

pub owes_done : {X : Type 0} (read : List ℕ → Option (X × List ℕ))
    (all : Option Box2 → List X → Option Box2) → ((e : Option Box2) → all e [] ≡ e)
    → (count i : ℕ) (extent : Option Box2) (rest : List ℕ) (total : Option Box2) (end : List ℕ)
    → count ≤ i → Owes read all (count - i) extent rest total end → (extent ≡ total) × (rest ≡ end)
owes_done {X = X} read all none count i extent rest total end le owes =
    let k : count - i ≡ 0 = omega arith in
    let nothing : List X × List ℕ = ([], rest) in
    let e : members_from read 0 rest ≡ Some (owes.0, end) =
    ap (λ (n : ℕ). members_from read n rest) (sym k) ∙ owes.1 in
    let same = some_is nothing (owes.0, end) e in (
      sym (none extent) ∙ ap (λ (p : List X × List ℕ). all extent p.0) same
          ∙ owes.2,
      ap (λ (p : List X × List ℕ). p.1) same,
    )

-- the extent of a geometry made of lists
pub spans_from : {A : Type 0} (make : A → Geometry) (points : A → List Point)
    → ((a : A) → points_of (make a) ≡ points a)
    → (tag : ℕ) (bytes : List ℕ) (o : Option (A × List ℕ)) (extent : Option Box2) (r : List ℕ)
    → body_from tag bytes ≡ made make o
    → ForSome o (λ y. (extent ≡ extent_of (points y.0)) × (r ≡ y.1))
    → (x : Geometry × List ℕ) → body_from tag bytes ≡ Some x
    → (extent ≡ extent_of (points_of x.0)) × (r ≡ x.1)
spans_from make points law tag bytes o extent r is h x e =
    let m = made_some make o x (sym is ∙ e) in
    let there = h m.0 m.1 in
    subst (λ (p : Geometry × List ℕ). (extent ≡ extent_of (points_of p.0)) × (r ≡ p.1)) m.2
    (there.0 ∙ ap (λ (ps : List Point). extent_of ps) (sym (law m.0.0)), there.1)
