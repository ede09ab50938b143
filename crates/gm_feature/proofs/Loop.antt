-- Reading members one after the other, as a loop does.
use Rattle.std.proofs.Common.{◌≡◌, ℕ, zero, suc, ◌-◌, ◌+◌, ◌≤◌, ◌<◌, List, [], ◌∷◌, ◌++◌, length}
use Rattle.std.proofs.Common.{get_or, drop, Option, Some, None, refl, sym, ap, ◌∙◌, append_assoc}
use Rattle.std.proofs.Common.{arith}
use Rattle.std.proofs.lemmas.List.{append-nil}
use Rattle.gm_types.specs.declared.attribute.Attribute.{Attribute}
use Rattle.gm_feature.specs.declared.halt.Halt.{Halt}
use Rattle.gm_feature.specs.declared.halt.Halt.TheVariants.{Refused, NoMemory}
use Rattle.gm_feature.specs.declared.value.Value.{Value}
use Rattle.gm_feature.specs.Reader.{◌>>=◌, Stops, members_from, value_from, values_from}
use Rattle.gm_feature.proofs.Fitting.{kinds}

-- what was read before, and what is still read
abbrev pub with_front : {X : Type 0} → List X → Option (List X × List ℕ) → Option (List X × List ℕ)
with_front front read = read >>= λ x. Some (front ++ x.0, x.1)

regroup : {X : Type 0} (front : List X) (x : X) (read : Option (List X × List ℕ))
    → with_front front (read >>= λ others. Some (x ∷ others.0, others.1))
    ≡ with_front (front ++ x ∷ []) read
regroup {X = X} front x (Some others) =
    ap (λ (xs : List X). Some (xs, others.1)) (simp append_assoc)
regroup front x None = refl

-- ---- as many members as are counted

pub goes_on : {X : Type 0} (read : List ℕ → Option (X × List ℕ)) (front : List X) (count i : ℕ)
    (bytes : List ℕ) (x : X) (after : List ℕ) (total : Option (List X × List ℕ)) → i < count
    → read bytes ≡ Some (x, after)
    → with_front front (members_from read (count - i) bytes) ≡ total
    → with_front (front ++ x ∷ []) (members_from read (count - (i + 1)) after) ≡ total
goes_on read front count i bytes x after total lt h so_far =
    let k : count - i ≡ suc (count - (i + 1)) = omega arith in
    let one : with_front front (members_from read (count - i) bytes)
    ≡ with_front (front ++ x ∷ []) (members_from read (count - (i + 1)) after) =
    rw (k, h) (regroup front x (members_from read (count - (i + 1)) after)) in
    sym one ∙ so_far

pub ends : {X : Type 0} (read : List ℕ → Option (X × List ℕ)) (halt : Halt) (front : List X)
    (count i : ℕ) (bytes : List ℕ) (total : Option (List X × List ℕ)) → i < count
    → Stops halt (read bytes)
    → with_front front (members_from read (count - i) bytes) ≡ total → Stops halt total
ends read NoMemory front count i bytes total lt h so_far = tt
ends {X = X} read Refused front count i bytes total lt h so_far =
    let k : count - i ≡ suc (count - (i + 1)) = omega arith in
    let nothing : Option (List X × List ℕ) = None in
    let one : with_front front (members_from read (count - i) bytes) ≡ nothing = rw (k, h) refl in
    sym so_far ∙ one

-- ---- a value for each attribute

from_place : (attributes : List Attribute) (i : ℕ) (a : Attribute) → i < length attributes
    → drop i (kinds attributes) ≡ (get_or attributes i a).kind ∷ drop (suc i) (kinds attributes)
from_place [] i a within = absurd (omega arith)
from_place (b ∷ attributes) zero a within = refl
from_place (b ∷ attributes) (suc i) a within = from_place attributes i a (omega arith)

pub placed : (attributes : List Attribute) (i : ℕ) (a : Attribute) → i < length attributes
    → a ≡ get_or attributes i a
    → drop i (kinds attributes) ≡ a.kind ∷ drop (suc i) (kinds attributes)
placed attributes i a within is =
    from_place attributes i a within
    ∙ ap (λ (b : Attribute). b.kind ∷ drop (suc i) (kinds attributes)) (sym is)

pub past_end : (attributes : List Attribute) (i : ℕ) → length attributes ≤ i
    → drop i (kinds attributes) ≡ []
past_end [] zero past = refl
past_end [] (suc i) past = refl
past_end (b ∷ attributes) zero past = absurd (omega arith)
past_end (b ∷ attributes) (suc i) past = past_end attributes i (omega arith)

pub value_goes_on : (attributes : List Attribute) (front : List Value) (i : ℕ) (a : Attribute)
    (bytes : List ℕ) (v : Value) (after : List ℕ) (total : Option (List Value × List ℕ))
    → i < length attributes → a ≡ get_or attributes i a → value_from a.kind bytes ≡ Some (v, after)
    → with_front front (values_from (drop i (kinds attributes)) bytes) ≡ total
    → with_front (front ++ v ∷ []) (values_from (drop (i + 1) (kinds attributes)) after) ≡ total
unfolding values_from
value_goes_on attributes front i a bytes v after total lt is h so_far =
    let one : with_front front (values_from (drop i (kinds attributes)) bytes)
    ≡ with_front (front ++ v ∷ []) (values_from (drop (suc i) (kinds attributes)) after) =
    rw (placed attributes i a lt is, h)
    (regroup front v (values_from (drop (suc i) (kinds attributes)) after)) in
    let next : i + 1 ≡ suc i = omega arith in
    rw next (sym one ∙ so_far)

pub value_ends : (attributes : List Attribute) (halt : Halt) (front : List Value) (i : ℕ)
    (a : Attribute) (bytes : List ℕ) (total : Option (List Value × List ℕ))
    → i < length attributes → a ≡ get_or attributes i a → Stops halt (value_from a.kind bytes)
    → with_front front (values_from (drop i (kinds attributes)) bytes) ≡ total → Stops halt total
unfolding values_from
value_ends attributes NoMemory front i a bytes total lt is h so_far = tt
value_ends attributes Refused front i a bytes total lt is h so_far =
    let nothing : Option (List Value × List ℕ) = None in
    let one : with_front front (values_from (drop i (kinds attributes)) bytes) ≡ nothing =
    rw (placed attributes i a lt is, h) refl in
    sym so_far ∙ one

pub values_done : (attributes : List Attribute) (front : List Value) (i : ℕ) (bytes : List ℕ)
    (total : Option (List Value × List ℕ))
    → length attributes ≤ i
    → with_front front (values_from (drop i (kinds attributes)) bytes) ≡ total
    → total ≡ Some (front, bytes)
unfolding values_from
values_done attributes front i bytes total le so_far =
    let one : with_front front (values_from (drop i (kinds attributes)) bytes)
    ≡ Some (front, bytes) =
    rw (past_end attributes i le)
    (ap (λ (xs : List Value). Some (xs, bytes)) (append-nil front)) in
    sym so_far ∙ one
