-- A field that is read is the field that was written, and what was written is read again: numbers,
-- strings and lists.
use Rattle.std.proofs.Common.{◌≡◌, ℕ, zero, suc, ◌+◌, ◌*◌, ◌^◌, ◌<◌, ◌≤◌, ℤ, Bool, true, false}
use Rattle.std.proofs.Common.{cond, ltb, List, [], ◌∷◌, ◌++◌, length, get_or, take, drop, Option}
use Rattle.std.proofs.Common.{Some, None, refl, sym, ap, subst, ◌∙◌, append_assoc, arith, inl, inr}
use Rattle.std.specs.Int.{Width, w16, w32, w64, byte_len, from_be_bytes, to_be_bytes, cast_signed}
use Rattle.std.specs.Int.{cast_unsigned}
use Rattle.std.specs.Int.RustNames.{FitsSigned}
use Rattle.std.specs.List.{flat_map, AllByRecursion}
use Rattle.std.proofs.lemmas.Bool.{cases_lt, ltb-false, le-ltb}
use Rattle.std.proofs.lemmas.List.{take_at, drop_at, take-append-drop, length-append, length-take}
use Rattle.std.proofs.lemmas.List.{get_or-drop, get_or-take, get_or_past}
use Rattle.std.proofs.lemmas.Nat.{be_bytes_2, be_bytes_4, be_bytes_8, from_be_bytes-to_be_bytes_2}
use Rattle.std.proofs.lemmas.Nat.{from_be_bytes-to_be_bytes_4, from_be_bytes-to_be_bytes_8}
use Rattle.std.proofs.lemmas.Int.{to_z-of_z, of_z-to_z}
use Rattle.std.proofs.Math.Facts.{Fits-of_z}
use borrow.Author.Gap.{read_sfits}
use mir.Val.{bits}
use Rattle.gm_feature.specs.Writer.{signed_bytes, string_bytes, list_bytes}
use Rattle.gm_feature.specs.Reader.{◌>>=◌, only_if, made, number_from, signed_from, string_from}
use Rattle.gm_feature.specs.Reader.{count_from, members_from, list_from}

abbrev pub IsBytes : List ℕ → Type 0
IsBytes bytes = (i : ℕ) → get_or bytes i 0 < 256

pub IsBytes-drop : (n : ℕ) (bytes : List ℕ) → IsBytes bytes → IsBytes (drop n bytes)
IsBytes-drop n bytes h i = rw get_or-drop (h (n + i))

IsBytes-take : (n : ℕ) (bytes : List ℕ) → IsBytes bytes → IsBytes (take n bytes)
IsBytes-take n bytes h i =
    elim (cases_lt i n) [
      | inl lt ↦ rw (get_or-take n bytes i 0 lt) (h i)
      | inr le ↦ rw (get_or_past (take n bytes) i 0 (omega (arith, length-take n bytes)))
          (omega arith)
    ]

pub IsBytes-rest : (b : ℕ) (bytes : List ℕ) → IsBytes (b ∷ bytes) → IsBytes bytes
IsBytes-rest b bytes h i = h (suc i)

-- the value of a step that did not refuse
pub bind_some : {A B : Type 0} (r : Option A) (f : A → Option B) (y : B) → (r >>= f) ≡ Some y
    → (x : A) × (r ≡ Some x) × (f x ≡ Some y)
bind_some (Some x) f y e = (x, refl, e)
bind_some None f y e = absurd cc

-- a test that did not refuse
pub guard_some : {A : Type 0} (b : Bool) (x y : A) → cond b None (Some x) ≡ Some y
    → (b ≡ false) × (x ≡ y)
guard_some true x y e = absurd cc
guard_some false x y e = (refl, cc)

pub only_some : {A : Type 0} (b : Bool) (x y : A) → only_if b x ≡ Some y → (b ≡ true) × (x ≡ y)
only_some true x y e = (refl, cc)
only_some false x y e = absurd cc

pub made_some : {A B : Type 0} (make : A → B) (r : Option (A × List ℕ)) (y : B × List ℕ)
    → made make r ≡ Some y → (x : A × List ℕ) × (r ≡ Some x) × ((make x.0, x.1) ≡ y)
made_some make (Some x) y e = (x, refl, cc)
made_some make None y e = absurd cc

abbrev some : {A : Type 0} → A → Option A
some x = Some x

pub some_is : {A : Type 0} (x y : A) → some x ≡ some y → x ≡ y
some_is x y e = cc

-- what a reader took from the front
pub record Takes (bytes text rest : List ℕ) : Type 0 where
  pub parts : bytes ≡ text ++ rest
  pub rest_fits : IsBytes rest

pub Takes-then : (a x b y c : List ℕ) → Takes a x b → Takes b y c → Takes a (x ++ y) c
Takes-then a x b y c p q =
    record {
      parts = p.parts ∙ ap (λ (t : List ℕ). x ++ t) q.parts ∙ sym (append_assoc x y c);
      rest_fits = q.rest_fits;
    }

pub Takes-behind : (byte : ℕ) (bytes text rest : List ℕ) → Takes bytes text rest
    → Takes (byte ∷ bytes) (byte ∷ text) rest
Takes-behind byte bytes text rest t =
    record { parts = ap (λ (w : List ℕ). byte ∷ w) t.parts; rest_fits = t.rest_fits }

-- ---- numbers

pub record IsWide (w : Width) : Type 0 where
  pub len : (n : ℕ) → length (to_be_bytes w n) ≡ byte_len w
  pub back : (bytes : List ℕ) → length bytes ≡ byte_len w → IsBytes bytes
      → to_be_bytes w (from_be_bytes w bytes) ≡ bytes
  pub again : (n : ℕ) → n < 2 ^ bits w → from_be_bytes w (to_be_bytes w n) ≡ n
  pub below : (bytes : List ℕ) → IsBytes bytes → from_be_bytes w bytes < 2 ^ bits w
  pub unsigned : (z : ℤ) → FitsSigned w z → cast_unsigned w z < 2 ^ bits w

pub wide16 : IsWide w16
wide16 = record {
  len = λ n. refl;
  back = λ bytes len fits. be_bytes_2 bytes _ len fits refl;
  again = λ n lt. from_be_bytes-to_be_bytes_2 n lt;
  below = λ bytes fits. omega (arith, fits 0, fits 1);
  unsigned = λ z fits. let small = Fits-of_z fits in omega arith;
}

pub wide32 : IsWide w32
wide32 = record {
  len = λ n. refl;
  back = λ bytes len fits. be_bytes_4 bytes _ len fits refl;
  again = λ n lt. from_be_bytes-to_be_bytes_4 n lt;
  below = λ bytes fits. omega (arith, fits 0, fits 1, fits 2, fits 3);
  unsigned = λ z fits. let small = Fits-of_z fits in omega arith;
}

pub wide64 : IsWide w64
wide64 = record {
  len = λ n. refl;
  back = λ bytes len fits. be_bytes_8 bytes _ len fits refl;
  again = λ n lt. from_be_bytes-to_be_bytes_8 n lt;
  below = λ bytes fits. omega
      (arith, fits 0, fits 1, fits 2, fits 3, fits 4, fits 5, fits 6, fits 7);
  unsigned = λ z fits. let small = Fits-of_z fits in omega arith;
}

pub number_takes : (w : Width) (wide : IsWide w) (bytes : List ℕ) (x : ℕ × List ℕ) → IsBytes bytes
    → number_from w bytes ≡ Some x → Takes bytes (to_be_bytes w x.0) x.1 × (x.0 < 2 ^ bits w)
number_takes w wide bytes x fits e =
    let g = guard_some (ltb (length bytes) (byte_len w))
    (from_be_bytes w (take (byte_len w) bytes), drop (byte_len w) bytes) x e in
    let long : byte_len w ≤ length bytes = ltb-false _ _ g.0 in
    let n-is : from_be_bytes w (take (byte_len w) bytes) ≡ x.0 = ap (λ (p : ℕ × List ℕ). p.0) g.1 in
    let rest-is : drop (byte_len w) bytes ≡ x.1 = ap (λ (p : ℕ × List ℕ). p.1) g.1 in
    let front : to_be_bytes w x.0 ≡ take (byte_len w) bytes =
    rw (← n-is) (wide.back (take (byte_len w) bytes)
    (omega (arith, length-take (byte_len w) bytes))
    (IsBytes-take (byte_len w) bytes fits)) in (
      record {
        parts = rw (front, ← rest-is) (sym (take-append-drop (byte_len w) bytes));
        rest_fits = rw (← rest-is) (IsBytes-drop (byte_len w) bytes fits);
      },
      rw (← n-is) (wide.below (take (byte_len w) bytes)
          (IsBytes-take (byte_len w) bytes fits)),
    )

pub number_again : (w : Width) (wide : IsWide w) (n : ℕ) (rest : List ℕ) → n < 2 ^ bits w
    → number_from w (to_be_bytes w n ++ rest) ≡ Some (n, rest)
number_again w wide n rest lt =
    let len = wide.len n in
    let long : ltb (length (to_be_bytes w n ++ rest)) (byte_len w) ≡ false =
    le-ltb _ _ (omega (arith, length-append (to_be_bytes w n) rest)) in
    rw (
      long,
      take_at (to_be_bytes w n) rest (byte_len w) len,
      drop_at (to_be_bytes w n) rest (byte_len w) len,
      wide.again n lt,
    ) refl

pub signed_takes : (w : Width) (wide : IsWide w) (bytes : List ℕ) (x : ℤ × List ℕ) → IsBytes bytes
    → signed_from w bytes ≡ Some x → Takes bytes (signed_bytes w x.0) x.1 × FitsSigned w x.0
unfolding signed_from
signed_takes w wide bytes x fits e =
    let b = bind_some (number_from w bytes) (λ n. Some (cast_signed w n.0, n.1)) x e in
    let t = number_takes w wide bytes b.0 fits b.1 in
    let same : to_be_bytes w b.0.0 ≡ signed_bytes w (cast_signed w b.0.0) =
    ap (to_be_bytes w) (sym (of_z-to_z w b.0.0 t.1)) in
    let taken : Takes bytes (signed_bytes w (cast_signed w b.0.0)) b.0.1 =
    subst (λ (text : List ℕ). Takes bytes text b.0.1) same t.0 in
    subst (λ (y : ℤ × List ℕ). Takes bytes (signed_bytes w y.0) y.1 × FitsSigned w y.0)
    (some_is (cast_signed w b.0.0, b.0.1) x b.2) (taken, read_sfits w b.0.0)

pub signed_again : (w : Width) (wide : IsWide w) (z : ℤ) (rest : List ℕ) → FitsSigned w z
    → signed_from w (signed_bytes w z ++ rest) ≡ Some (z, rest)
unfolding signed_from
signed_again w wide z rest fits =
    let small : cast_unsigned w z < 2 ^ bits w = wide.unsigned z fits in
    rw (number_again w wide (cast_unsigned w z) rest small)
    (ap (λ (y : ℤ). Some (y, rest)) (to_z-of_z w z fits))

-- ---- strings

pub string_takes : (w : Width) (wide : IsWide w) (bytes : List ℕ) (x : List ℕ × List ℕ)
    → IsBytes bytes → string_from w bytes ≡ Some x → Takes bytes (string_bytes w x.0) x.1
unfolding string_from
string_takes w wide bytes x fits e =
    let b = bind_some (number_from w bytes)
    (λ n. cond (ltb (length n.1) n.0) None (Some (take n.0 n.1, drop n.0 n.1))) x e in
    let n = b.0 in
    let t = number_takes w wide bytes n fits b.1 in
    let g = guard_some (ltb (length n.1) n.0) (take n.0 n.1, drop n.0 n.1) x b.2 in
    let long : n.0 ≤ length n.1 = ltb-false _ _ g.0 in
    let len : length (take n.0 n.1) ≡ n.0 = omega (arith, length-take n.0 n.1) in
    let second : Takes n.1 (take n.0 n.1) (drop n.0 n.1) =
    record {
      parts = sym (take-append-drop n.0 n.1);
      rest_fits = IsBytes-drop n.0 n.1 t.0.rest_fits;
    } in
    let both = Takes-then bytes (to_be_bytes w n.0) n.1 (take n.0 n.1) (drop n.0 n.1) t.0 second in
    let whole : Takes bytes (string_bytes w (take n.0 n.1)) (drop n.0 n.1) =
    subst (λ (k : ℕ). Takes bytes (to_be_bytes w k ++ take n.0 n.1) (drop n.0 n.1))
    (sym len) both in
    subst (λ (p : List ℕ × List ℕ). Takes bytes (string_bytes w p.0) p.1) g.1 whole

pub string_again : (w : Width) (wide : IsWide w) (text rest : List ℕ) → length text < 2 ^ bits w
    → string_from w (string_bytes w text ++ rest) ≡ Some (text, rest)
unfolding string_from
string_again w wide text rest lt =
    let long : ltb (length (text ++ rest)) (length text) ≡ false =
    le-ltb _ _ (omega (arith, length-append text rest)) in
    rw (
      append_assoc (to_be_bytes w (length text)) text rest,
      number_again w wide (length text) (text ++ rest) lt,
      long,
      take_at text rest (length text) refl,
      drop_at text rest (length text) refl,
    ) refl

-- ---- lists

count_takes : (least : ℕ) (bytes : List ℕ) (x : ℕ × List ℕ) → IsBytes bytes
    → count_from least bytes ≡ Some x → Takes bytes (to_be_bytes w32 x.0) x.1
unfolding count_from
count_takes least bytes x fits e =
    let b = bind_some (number_from w32 bytes)
    (λ n. cond (ltb (length n.1) (n.0 * least)) None (Some n)) x e in
    let t = number_takes w32 wide32 bytes b.0 fits b.1 in
    let g = guard_some (ltb (length b.0.1) (b.0.0 * least)) b.0 x b.2 in
    subst (λ (y : ℕ × List ℕ). Takes bytes (to_be_bytes w32 y.0) y.1) g.1 t.0

count_again : (least n : ℕ) (rest : List ℕ) → n < 2 ^ 32 → n * least ≤ length rest
    → count_from least (to_be_bytes w32 n ++ rest) ≡ Some (n, rest)
unfolding count_from
count_again least n rest lt room =
    let enough : ltb (length rest) (n * least) ≡ false = le-ltb _ _ room in
    rw (number_again w32 wide32 n rest lt, enough) refl

-- a reader takes what a value is spelled as
abbrev pub Reads : {X : Type 0} → (List ℕ → Option (X × List ℕ)) → (X → List ℕ) → Type 0
Reads {X = X} read spell =
    (bytes : List ℕ) (x : X × List ℕ) → IsBytes bytes → read bytes ≡ Some x
    → Takes bytes (spell x.0) x.1

-- a reader reads the spelling of a good value
abbrev pub ReadsAgain : {X : Type 0} → (List ℕ → Option (X × List ℕ)) → (X → List ℕ)
    → (X → Type 0) → Type 0
ReadsAgain {X = X} read spell Good =
    (x : X) (rest : List ℕ) → Good x → read (spell x ++ rest) ≡ Some (x, rest)

members_take : {X : Type 0} (read : List ℕ → Option (X × List ℕ)) (spell : X → List ℕ)
    (reads : Reads read spell) (n : ℕ) (bytes : List ℕ) (xs : List X × List ℕ)
    → IsBytes bytes → members_from read n bytes ≡ Some xs
    → Takes bytes (flat_map spell xs.0) xs.1 × (length xs.0 ≡ n)
members_take {X = X} read spell reads zero bytes xs fits e =
    subst (λ (y : List X × List ℕ). Takes bytes (flat_map spell y.0) y.1 × (length y.0 ≡ 0))
    (some_is ([], bytes) xs e) (record { parts = refl; rest_fits = fits }, refl)
members_take {X = X} read spell reads (suc n) bytes xs fits e =
    let a = bind_some (read bytes)
    (λ first. members_from read n first.1 >>= λ others. Some (first.0 ∷ others.0, others.1)) xs
    e in
    let b = bind_some (members_from read n a.0.1)
    (λ others. Some (a.0.0 ∷ others.0, others.1)) xs a.2 in
    let first = reads bytes a.0 fits a.1 in
    let second = members_take read spell reads n a.0.1 b.0 first.rest_fits b.1 in
    let both = Takes-then bytes (spell a.0.0) a.0.1 (flat_map spell b.0.0) b.0.1 first second.0 in
    let all : List X × List ℕ = (a.0.0 ∷ b.0.0, b.0.1) in
    subst (λ (y : List X × List ℕ). Takes bytes (flat_map spell y.0) y.1 × (length y.0 ≡ suc n))
    (some_is all xs b.2) (both, ap suc second.1)

pub list_takes : {X : Type 0} (least : ℕ) (read : List ℕ → Option (X × List ℕ)) (spell : X → List ℕ)
    (reads : Reads read spell) → Reads (list_from least read) (list_bytes spell)
list_takes least read spell reads bytes xs fits e =
    let a = bind_some (count_from least bytes) (λ n. members_from read n.0 n.1) xs e in
    let first = count_takes least bytes a.0 fits a.1 in
    let second = members_take read spell reads a.0.0 a.0.1 xs first.rest_fits a.2 in
    let counted : Takes bytes (to_be_bytes w32 (length xs.0)) a.0.1 =
    subst (λ (n : ℕ). Takes bytes (to_be_bytes w32 n) a.0.1) (sym second.1) first in
    Takes-then bytes (to_be_bytes w32 (length xs.0)) a.0.1 (flat_map spell xs.0) xs.1
    counted second.0

members_again : {X : Type 0} (read : List ℕ → Option (X × List ℕ)) (spell : X → List ℕ)
    (Good : X → Type 0) (again : ReadsAgain read spell Good) (xs : List X) (rest : List ℕ)
    → AllByRecursion Good xs
    → members_from read (length xs) (flat_map spell xs ++ rest) ≡ Some (xs, rest)
members_again read spell Good again [] rest good = refl
members_again read spell Good again (x ∷ xs) rest good =
    rw (
      append_assoc (spell x) (flat_map spell xs) rest,
      again x (flat_map spell xs ++ rest) good.0,
      members_again read spell Good again xs rest good.1,
    ) refl

at_least : {X : Type 0} (least : ℕ) (spell : X → List ℕ) → ((x : X) → least ≤ length (spell x))
    → (xs : List X) → length xs * least ≤ length (flat_map spell xs)
at_least least spell long [] = omega arith
at_least least spell long (x ∷ xs) =
    let here = long x in
    let later = at_least least spell long xs in
    grind (arith, length-append (spell x) (flat_map spell xs))

-- as many members as are counted, each of them good
abbrev pub IsGoodList : {X : Type 0} → (X → Type 0) → List X → Type 0
IsGoodList Good xs = (length xs < 2 ^ 32) × AllByRecursion Good xs

pub list_again : {X : Type 0} (least : ℕ) (read : List ℕ → Option (X × List ℕ)) (spell : X → List ℕ)
    (Good : X → Type 0) → ((x : X) → least ≤ length (spell x)) → ReadsAgain read spell Good
    → ReadsAgain (list_from least read) (list_bytes spell) (IsGoodList Good)
list_again least read spell Good long again xs rest good =
    let room : length xs * least ≤ length (flat_map spell xs ++ rest) =
    omega (arith, at_least least spell long xs, length-append (flat_map spell xs) rest) in
    rw (
      append_assoc (to_be_bytes w32 (length xs)) (flat_map spell xs) rest,
      count_again least (length xs) (flat_map spell xs ++ rest) good.0 room,
      members_again read spell Good again xs rest good.1,
    ) refl
