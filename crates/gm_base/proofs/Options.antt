-- Lemmas on options and results that proofs of several crates need.
use Rattle.std.proofs.Common.{◌≡◌, true, Option, Some, None, Result, Ok, Err, is_none, refl, ap}
use Rattle.std.specs.Prelude.{OnOk}
use Rattle.std.specs.Option.{option_map, option_and_then}

-- `Some` is injective
pub same_some : {A : Type 0} (x y : A) → Some x ≡ Some y → x ≡ y
same_some x y same = cc

pub same_pair : {A B : Type 0} (x y : A) (v w : B)
    → ◌≡◌ {A = Option (A × B)} (Some (x, v)) (Some (y, w)) → (x ≡ y) × (v ≡ w)
same_pair {A = A} {B = B} x y v w same =
    let pairs : ◌≡◌ {A = A × B} (x, v) (y, w) = same_some (x, v) (y, w) same in
    (ap (λ p. p.0) pairs, ap (λ p. p.1) pairs)

-- what is not there is not something
pub no_some : {A P : Type 0} (x : A) → ◌≡◌ {A = Option A} None (Some x) → P
no_some x same = absurd (cc)

pub none_some : {A : Type 0} (x : A) → None ≡ Some x → ⊥
none_some x same = cc

pub none_is : {A : Type 0} (o : Option A) → is_none o ≡ true → o ≡ None
none_is None is = refl
none_is (Some x) is = cc

pub map_some : {A B : Type 0} (f : A → B) (o : Option A) (b : B) → option_map f o ≡ Some b
    → (a : A) × (o ≡ Some a) × (f a ≡ b)
map_some f None b is = absurd (cc)
map_some f (Some a) b is = (a, refl, cc)

pub then_some : {A B : Type 0} (f : A → Option B) (o : Option A) (b : B)
    → option_and_then f o ≡ Some b → (a : A) × (o ≡ Some a) × (f a ≡ Some b)
then_some f None b is = absurd (cc)
then_some f (Some a) b is = (a, refl, is)

pub on_ok : {T E : Type 0} (r : Result T E) (P Q : Type 0) → (P → Q) → OnOk r P → OnOk r Q
on_ok (Ok x) P Q f p = f p
on_ok (Err e) P Q f p = tt
