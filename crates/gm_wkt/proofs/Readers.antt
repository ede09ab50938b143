-- What each step of a reader says, over plain variables.
use Rattle.std.proofs.Common.{◌≡◌, ℕ, Bool, true, false, List, [], ◌∷◌, ◌++◌, Some, None, Result}
use Rattle.std.proofs.Common.{Ok, Err, sym, ap, ◌∙◌, subst, append_assoc}
use Rattle.std.specs.Result.{IfOk}
use Rattle.gm_geom.specs.declared.point.Point.{Point}
use Rattle.gm_wkt.specs.declared.halt.Halt.{Halt}
use Rattle.gm_wkt.specs.Grammar.{SpellsMember, SpellsList}
use Rattle.gm_wkt.specs.Reader.{skip_blanks, behind, point_at, SpellsPoint, separator}
use Rattle.gm_wkt.specs.Reader.{separator_at, Starts, Ends, Takes, UpTo}
use Rattle.gm_wkt.proofs.Points.{point_only, behind_some}
use Rattle.gm_wkt.proofs.Members.{list_at_front, list_found, member_item}

pub pair_parts : {A B : Type 0} (p q : A × B) → Some p ≡ Some q → (p.0 ≡ q.0) × (p.1 ≡ q.1)
pair_parts p q e = let same : p ≡ q = cc in (ap (λ r. r.0) same, ap (λ r. r.1) same)

pub point_none : (loose : Bool) (text front tail : List ℕ) (x : Point) → None ≡ point_at loose text
    → SpellsPoint loose front x → Ends tail → text ≡ front ++ tail → ⊥
point_none loose text front tail x none spells ends e =
    let some : point_at loose text ≡ Some (x, tail) =
    ap (λ t. point_at loose t) e ∙ point_only loose front tail x spells ends in
    cc

pub point_same : (loose : Bool) (text front tail rest : List ℕ) (p x : Point)
    → Some (p, rest) ≡ point_at loose text → SpellsPoint loose front x → Ends tail
    → text ≡ front ++ tail → (p ≡ x) × (rest ≡ tail)
point_same loose text front tail rest p x read spells ends e =
    pair_parts (p, rest) (x, tail)
    (read ∙ ap (λ t. point_at loose t) e ∙ point_only loose front tail x spells ends)

-- members so far, and one more
pub more_found : {A : Type 0} (Item : List ℕ → A → Type 0) (text rest later : List ℕ)
    (done : List A) (x : A)
    → ((xs : List A) (tail : List ℕ) → UpTo Item rest xs tail
    → UpTo Item text (done ++ xs) tail) → SpellsMember Item rest x (44 ∷ later)
    → (xs : List A) (tail : List ℕ) → UpTo Item later xs tail
    → UpTo Item text ((done ++ x ∷ []) ++ xs) tail
more_found Item text rest later done x found member [] tail u = absurd u
more_found Item text rest later done x found member (y ∷ xs) tail u =
    subst (λ l. UpTo Item text l tail) (sym (append_assoc done (x ∷ []) (y ∷ xs)))
    (found (x ∷ y ∷ xs) tail (later, member, u))

-- what is still to come
pub record Remains {A : Type 0} (Item : List ℕ → A → Type 0) (rest : List ℕ) (done xs : List A)
    (tail : List ℕ) : Type 0 where
  pub later : List A
  pub whole : xs ≡ done ++ later
  pub spells : UpTo Item rest later tail

-- a member that was read is the one that is spelled
abbrev pub Same : {A : Type 0} → (List ℕ → A → Type 0) → List ℕ → A → Bool → List ℕ → Type 0
Same {A} Item rest x more later =
    (y : A) (other : Bool) (tail : List ℕ) → SpellsMember Item rest y (separator other ∷ tail)
    → (x ≡ y) × (more ≡ other) × (later ≡ tail)

pub more_remains : {A : Type 0} (Item : List ℕ → A → Type 0) (rest later : List ℕ)
    (done xs : List A) (x : A) (tail : List ℕ) (l : List A) → Same Item rest x true later
    → xs ≡ done ++ l → UpTo Item rest l tail → Remains Item later (done ++ x ∷ []) xs tail
more_remains Item rest later done xs x tail [] same e u = absurd u
more_remains Item rest later done xs x tail (y ∷ []) same e u = let s : true ≡ false =
    (same y false tail u).1 in absurd (cc)
more_remains Item rest later done xs x tail (y ∷ z ∷ zs) same e u =
    let s = same y true u.0 u.1 in record {
      later = z ∷ zs;
      whole = e ∙ ap (λ v. done ++ v ∷ z ∷ zs) (sym s.0)
          ∙ sym (append_assoc done (x ∷ []) (z ∷ zs));
      spells = subst (λ t. UpTo Item t (z ∷ zs) tail) (sym s.2) u.2;
    }

pub last_remains : {A : Type 0} (Item : List ℕ → A → Type 0) (rest later : List ℕ)
    (done xs : List A) (x : A) (tail : List ℕ) (l : List A) → Same Item rest x false later
    → xs ≡ done ++ l → UpTo Item rest l tail → (done ++ x ∷ [] ≡ xs) × (later ≡ tail)
last_remains Item rest later done xs x tail [] same e u = absurd u
last_remains Item rest later done xs x tail (y ∷ []) same e u = let s = same y false tail u in
    (ap (λ v. done ++ v ∷ []) s.0 ∙ sym e, s.2)
last_remains Item rest later done xs x tail (y ∷ z ∷ zs) same e u = let s : false ≡ true =
    (same y true u.0 u.1).1 in absurd (cc)

-- a member
abbrev pub ItemOnly : {A : Type 0} → (List ℕ → A → Type 0) → List ℕ → A → List ℕ → Type 0
ItemOnly {A} Item text item after =
    (front tail : List ℕ) (x : A) → Item front x → Ends tail → text ≡ front ++ tail
    → (item ≡ x) × (after ≡ tail)

pub member_same : {A : Type 0} (Item : List ℕ → A → Type 0)
    (starts : (bytes : List ℕ) (x : A) → Item bytes x → Starts bytes)
    (text skip after rest : List ℕ) (item : A) (more : Bool) → skip ≡ skip_blanks text
    → ItemOnly Item skip item after → Some (more, rest) ≡ separator_at after
    → Same Item text item more rest
member_same Item starts text skip after rest item more es only read = λ y other tail m.
    let at = member_item Item starts text y other tail m in
    let same = only at.0 at.1 y at.2 at.3 (es ∙ at.4) in
    let parts = pair_parts (more, rest) (other, tail) (read ∙ ap separator_at same.1 ∙ at.5) in
    (same.0, parts.0, parts.1)

pub member_none : {A : Type 0} (Item : List ℕ → A → Type 0)
    (starts : (bytes : List ℕ) (x : A) → Item bytes x → Starts bytes) (text skip after : List ℕ)
    (item : A) → skip ≡ skip_blanks text → ItemOnly Item skip item after
    → None ≡ separator_at after → (y : A) (other : Bool) (tail : List ℕ)
    → SpellsMember Item text y (separator other ∷ tail) → ⊥
member_none Item starts text skip after item es only read = λ y other tail m.
    let at = member_item Item starts text y other tail m in
    let same = only at.0 at.1 y at.2 at.3 (es ∙ at.4) in
    let some : None ≡ Some (other, tail) = read ∙ ap separator_at same.1 ∙ at.5 in
    cc

-- lists
pub list_founds : {A : Type 0} (Item : List ℕ → A → Type 0) (text inside : List ℕ) (xs : List A)
    (tail : List ℕ) → Some inside ≡ behind 40 text → UpTo Item inside xs tail
    → Takes (SpellsList Item) text xs tail
list_founds Item text inside xs tail read u =
    list_found Item text inside xs tail (behind_some 40 text inside (sym read)) u

pub list_inside : {A : Type 0} (Item : List ℕ → A → Type 0) (text inside front : List ℕ)
    (xs : List A) (tail : List ℕ) → Some inside ≡ behind 40 text → SpellsList Item front xs
    → text ≡ front ++ tail → UpTo Item inside xs tail
list_inside Item text inside front xs tail read l e =
    let at = list_at_front Item front xs tail l in
    let same : 40 ∷ inside ≡ 40 ∷ at.0 = sym (behind_some 40 text inside (sym read)) ∙ e ∙ at.2 in
    let tails : inside ≡ at.0 = cc in
    subst (λ t. UpTo Item t xs tail) (sym tails) at.1

pub first_member : {A : Type 0} (Item : List ℕ → A → Type 0) (rest : List ℕ) (l : List A)
    (tail : List ℕ) → UpTo Item rest l tail
    → (y : A) × (other : Bool) × (later : List ℕ)
    × SpellsMember Item rest y (separator other ∷ later)
first_member Item rest [] tail u = absurd u
first_member Item rest (y ∷ []) tail u = (y, false, tail, u)
first_member Item rest (y ∷ z ∷ zs) tail u = (y, true, u.0, u.1)

pub ok_maps : {X : Type 0} (r : Result X Halt) (P Q : X → Type 0) → ((x : X) → P x → Q x)
    → IfOk r P → IfOk r Q
ok_maps (Ok x) P Q maps p = maps x p
ok_maps (Err e) P Q maps p = tt
