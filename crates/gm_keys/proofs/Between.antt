-- Which keys lie between two bounds.
use Rattle.std.proofs.Common.{◌≡◌, ◌<◌, ℕ, zero, suc, ◌+◌, ◌^◌, true, false, true≢false}
use Rattle.std.proofs.Common.{not, ◌&&◌, ◌==◌, nat_eq, nat_le, List, [], ◌∷◌, ◌++◌, append_assoc}
use Rattle.std.proofs.Common.{append-nil, length, take, All, Some, None, refl, sym, ap, subst, ◌∙◌}
use Rattle.std.proofs.Common.{⊎_elim, arith, length-append}
use Rattle.std.specs.Prelude.{if◌then◌else◌}
use Rattle.std.specs.List.{AllByRecursion}
use Rattle.std.proofs.lemmas.List.{take_at}
use Rattle.std.proofs.lemmas.Bool.{cases_order}
use Rattle.std.proofs.lemmas.Bool.Decides.{nat_tests}
use Rattle.std.proofs.lemmas.List.Elements.{All-append, All-cons, All-from_recursion}
use Rattle.std.proofs.Common.{mod-lt}
use Rattle.std.specs.Int.{byte_at}
use Rattle.std.specs.Ordering.{nat_cmp, ordering_then, is_le}
use Rattle.std.specs.Cmp.{tied_itself, ranked}
use Rattle.std.specs.Cmp.Lexicographic.{slice_cmp, pointwise, nat_list_cmp_total}
use Rattle.std.specs.declared.cmp.Ordering.{Ordering}
use Rattle.std.specs.declared.cmp.Ordering.TheVariants.{Less, Equal, Greater}
use Rattle.byteorder.specs.Endian.{big_bytes}
use Rattle.byteorder.specs.Numbers.{length-bytes_high_first}
use Rattle.gm_base.proofs.Booleans.{and_true}
use Rattle.gm_base.proofs.Numbers.{none_is_least, le_true, le_false, eq_false, is_less, is_greater}
use Rattle.gm_base.proofs.Numbers.{is_equal}
use Rattle.gm_lexi.specs.Ends.{raised, after_of, is_before, is_from_to}
use Rattle.gm_types.specs.declared.index.IndexKind.{IndexKind}
use Rattle.gm_types.specs.declared.index.IndexKind.TheVariants.{Id, Z2, Z3, Xz2, Xz3, Attr}
use Rattle.gm_types.specs.FeatureType.{IsType}
use Rattle.gm_types.specs.Index.{has_index}
use Rattle.gm_types.specs.Specification.{Specification}
use Rattle.gm_keys.proofs.Apart.{indexed_within}
use Rattle.gm_keys.specs.Key.{index_number, attribute_number, prefix_of, code_front, bin_front}
use Rattle.gm_keys.specs.Key.{bin_code_front}

-- A front as long as a high end tells whether bytes are below the end.
abbrev pub HighFronts : Type 0
HighFronts = (high other : List ℕ) → All (λ byte. byte < 256) (take (length high) other)
    → is_before (after_of high) other ≡ is_le (slice_cmp nat_cmp (take (length high) other) high)

-- A front that two lists share does not count.
abbrev pub SharedFronts : Type 0
SharedFronts = (front a b : List ℕ)
    → slice_cmp nat_cmp (front ++ a) (front ++ b) ≡ slice_cmp nat_cmp a b

-- what is known of the order of bytes
pub record Order : Type 0 where
  pub low : (low other : List ℕ)
      → is_le (slice_cmp nat_cmp low other)
      ≡ is_le (slice_cmp nat_cmp low (take (length low) other))
  pub high : HighFronts
  pub numbers : (width a b : ℕ) (s t : List ℕ) → a < 256 ^ width → b < 256 ^ width
      → slice_cmp nat_cmp (big_bytes width a ++ s) (big_bytes width b ++ t)
      ≡ ordering_then (nat_cmp a b) (slice_cmp nat_cmp s t)
  pub shared : SharedFronts

abbrev pub AreBytes : List ℕ → Type 0
AreBytes bytes = All (λ byte. byte < 256) bytes

-- ---- bytes
byte_is : (k n : ℕ) → byte_at k n < 256
byte_is zero n = mod-lt n (omega arith)
byte_is (suc k) n = mod-lt _ (omega arith)

number_is_bytes : (width n : ℕ) → AllByRecursion (λ byte. byte < 256) (big_bytes width n)
number_is_bytes zero n = tt
number_is_bytes (suc k) n = (byte_is k n, number_is_bytes k n)

pub big_is_bytes : (width n : ℕ) → AreBytes (big_bytes width n)
big_is_bytes width n =
    All-from_recursion (λ byte. byte < 256) (big_bytes width n) (number_is_bytes width n)

attribute_is_bytes : (kind : IndexKind) → AreBytes (index_number kind ∷ attribute_number kind)
attribute_is_bytes Id = All-from_recursion (λ byte. byte < 256) (0 ∷ []) (omega arith, tt)
attribute_is_bytes Z2 = All-from_recursion (λ byte. byte < 256) (1 ∷ []) (omega arith, tt)
attribute_is_bytes Z3 = All-from_recursion (λ byte. byte < 256) (2 ∷ []) (omega arith, tt)
attribute_is_bytes Xz2 = All-from_recursion (λ byte. byte < 256) (3 ∷ []) (omega arith, tt)
attribute_is_bytes Xz3 = All-from_recursion (λ byte. byte < 256) (4 ∷ []) (omega arith, tt)
attribute_is_bytes (Attr n) =
    All-from_recursion (λ byte. byte < 256) (5 ∷ big_bytes 2 n) (omega arith, number_is_bytes 2 n)

pub prefix_is_bytes : (t : Specification) (kind : IndexKind) → AreBytes (prefix_of t kind)
unfolding prefix_of
prefix_is_bytes t kind =
    All-append (λ byte. byte < 256) (big_bytes 2 t.number)
    (index_number kind ∷ attribute_number kind) (big_is_bytes 2 t.number)
    (attribute_is_bytes kind)

-- of a key that has z behind the prefix, and then a tail
two_sided : Order → (prefix x y z tail : List ℕ) → AreBytes prefix → AreBytes z
    → length y ≡ length z
    → is_from_to (prefix ++ x) (after_of (prefix ++ y)) ((prefix ++ z) ++ tail)
    ≡ (is_le (slice_cmp nat_cmp x (z ++ tail)) && is_le (slice_cmp nat_cmp z y))
two_sided order prefix x y z tail bytes bytes' long =
    let key = (prefix ++ z) ++ tail in
    let size : length (prefix ++ y) ≡ length (prefix ++ z) =
    omega (arith, length-append prefix y, length-append prefix z) in
    let front : take (length (prefix ++ y)) key ≡ prefix ++ z =
    take_at (prefix ++ z) tail (length (prefix ++ y)) (sym size) in
    let low : is_le (slice_cmp nat_cmp (prefix ++ x) key)
    ≡ is_le (slice_cmp nat_cmp x (z ++ tail)) =
    ap (λ k. is_le (slice_cmp nat_cmp (prefix ++ x) k)) (append_assoc prefix z tail)
    ∙ ap is_le (order.shared prefix x (z ++ tail)) in
    let high : is_before (after_of (prefix ++ y)) key ≡ is_le (slice_cmp nat_cmp z y) =
    order.high (prefix ++ y) key
    (subst (λ (b : List ℕ). AreBytes b) (sym front)
    (All-append (λ byte. byte < 256) prefix z bytes bytes'))
    ∙ ap (λ k. is_le (slice_cmp nat_cmp k (prefix ++ y))) front
    ∙ ap is_le (order.shared prefix z y) in
    (λ i. low i && high i)

eq_yes : (a b : ℕ) → a ≡ b → (a == b) ≡ true
eq_yes a b h = grind (arith, nat_tests)

le_is : (a b : ℕ) → is_le (nat_cmp a b) ≡ nat_le a b
le_is a b = ⊎_elim
    (λ same. ap is_le (is_equal a b same) ∙ sym (le_true a b (omega arith)))
    (⊎_elim
    (λ less. ap is_le (is_less a b less) ∙ sym (le_true a b (omega arith)))
    (λ more. ap is_le (is_greater a b more) ∙ sym (le_false a b more)))
    (cases_order a b)

then_le : (r q : Ordering) → is_le q ≡ true → is_le (ordering_then r q) ≡ is_le r
then_le Less q is = refl
then_le Equal q is = is
then_le Greater q is = refl

-- the first numbers decide, and where they are equal what follows
first_decides : (s o : ℕ) (p q : Ordering)
    → (is_le (ordering_then (nat_cmp s o) p) && is_le (ordering_then (nat_cmp o s) q))
    ≡ ((s == o) && (is_le p && is_le q))
first_decides s o p q = ⊎_elim
    (λ same. (λ i. is_le (ordering_then (is_equal s o same i) p)
    && is_le (ordering_then (is_equal o s (sym same) i) q))
    ∙ ap (λ t. t && (is_le p && is_le q)) (sym (eq_yes s o same)))
    (⊎_elim
    (λ less. (λ i. is_le (ordering_then (is_less s o less i) p)
    && is_le (ordering_then (is_greater o s less i) q))
    ∙ ap (λ t. t && (is_le p && is_le q)) (sym (eq_false s o (omega arith))))
    (λ more. (λ i. is_le (ordering_then (is_greater s o more i) p)
    && is_le (ordering_then (is_less o s more i) q))
    ∙ ap (λ t. t && (is_le p && is_le q)) (sym (eq_false s o (omega arith)))))
    (cases_order s o)

-- ---- numbers
low_number : Order → (w a c : ℕ) (tail : List ℕ) → a < 256 ^ w → c < 256 ^ w
    → is_le (slice_cmp nat_cmp (big_bytes w a) (big_bytes w c ++ tail)) ≡ nat_le a c
low_number order w a c tail fits fits' =
    ap (λ x. is_le (slice_cmp nat_cmp x (big_bytes w c ++ tail))) (sym (append-nil (big_bytes w a)))
    ∙ ap is_le (order.numbers w a c [] tail fits fits')
    ∙ then_le (nat_cmp a c) (slice_cmp nat_cmp [] tail) (none_is_least tail) ∙ le_is a c

high_number : Order → (w c b : ℕ) → c < 256 ^ w → b < 256 ^ w
    → is_le (slice_cmp nat_cmp (big_bytes w c) (big_bytes w b)) ≡ nat_le c b
high_number order w c b fits fits' =
    ap (λ x. is_le (slice_cmp nat_cmp (big_bytes w c) x)) (sym (append-nil (big_bytes w b)))
    ∙ low_number order w c b [] fits fits'

pub in_range : Order → (w : ℕ) (prefix : List ℕ) (s o a b c : ℕ) (tail : List ℕ) → AreBytes prefix
    → o < 256 → a < 256 ^ w → b < 256 ^ w → c < 256 ^ w
    → is_from_to (prefix ++ (s ∷ big_bytes w a)) (after_of (prefix ++ (s ∷ big_bytes w b)))
    ((prefix ++ (o ∷ big_bytes w c)) ++ tail)
    ≡ ((s == o) && (nat_le a c && nat_le c b))
in_range order w prefix s o a b c tail bytes small fits-a fits-b fits-c =
    two_sided order prefix (s ∷ big_bytes w a) (s ∷ big_bytes w b) (o ∷ big_bytes w c) tail bytes
    (All-cons (λ byte. byte < 256) o (big_bytes w c) small (big_is_bytes w c))
    (ap suc (length-bytes_high_first w b ∙ sym (length-bytes_high_first w c)))
    ∙ first_decides s o (slice_cmp nat_cmp (big_bytes w a) (big_bytes w c ++ tail))
    (slice_cmp nat_cmp (big_bytes w c) (big_bytes w b))
    ∙ (λ i. (s == o)
    && (low_number order w a c tail fits-a fits-c i && high_number order w c b fits-c fits-b i))

pub in_codes : Order → (t : Specification) (kind : IndexKind) (s o a b c : ℕ) (id : List ℕ)
    → o < 256 → a < 2 ^ 64 → b < 2 ^ 64 → c < 2 ^ 64
    → is_from_to (code_front (prefix_of t kind) s a) (after_of (code_front (prefix_of t kind) s b))
    (code_front (prefix_of t kind) o c ++ id) ≡ ((s == o) && (nat_le a c && nat_le c b))
unfolding code_front
in_codes order t kind s o a b c id small fits-a fits-b fits-c =
    in_range order 8 (prefix_of t kind) s o a b c id (prefix_is_bytes t kind) small fits-a
    fits-b fits-c

pub in_bins : Order → (t : Specification) (kind : IndexKind) (s o a b c code : ℕ) (id : List ℕ)
    → o < 256 → a < 2 ^ 16 → b < 2 ^ 16 → c < 2 ^ 16
    → is_from_to (bin_front (prefix_of t kind) s a) (after_of (bin_front (prefix_of t kind) s b))
    (bin_code_front (prefix_of t kind) o c code ++ id) ≡ ((s == o) && (nat_le a c && nat_le c b))
unfolding bin_front bin_code_front
in_bins order t kind s o a b c code id small fits-a fits-b fits-c =
    let prefix = prefix_of t kind in
    let two = big_bytes 2 c in
    let eight = big_bytes 8 code in
    let parts : (prefix ++ (o ∷ (two ++ eight))) ++ id ≡ (prefix ++ (o ∷ two)) ++ (eight ++ id) =
    ap (λ x. x ++ id) (sym (append_assoc prefix (o ∷ two) eight))
    ∙ append_assoc (prefix ++ (o ∷ two)) eight id in
    ap (is_from_to (prefix ++ (s ∷ big_bytes 2 a)) (after_of (prefix ++ (s ∷ big_bytes 2 b)))) parts
    ∙ in_range order 2 prefix s o a b c (eight ++ id) (prefix_is_bytes t kind) small fits-a
    fits-b fits-c

pub in_bin : Order → (t : Specification) (kind : IndexKind) (s o bin at a b c : ℕ) (id : List ℕ)
    → o < 256 → bin < 2 ^ 16 → at < 2 ^ 16 → a < 2 ^ 64 → b < 2 ^ 64 → c < 2 ^ 64
    → is_from_to (bin_code_front (prefix_of t kind) s bin a)
    (after_of (bin_code_front (prefix_of t kind) s bin b))
    (bin_code_front (prefix_of t kind) o at c ++ id)
    ≡ ((s == o) && ((bin == at) && (nat_le a c && nat_le c b)))
unfolding bin_code_front
in_bin order t kind s o bin at a b c id small fits-bin fits-at fits-a fits-b fits-c =
    let prefix = prefix_of t kind in
    let here = big_bytes 2 bin in
    let there = big_bytes 2 at in
    let p = slice_cmp nat_cmp (big_bytes 8 a) (big_bytes 8 c ++ id) in
    let q = slice_cmp nat_cmp (big_bytes 8 c) (big_bytes 8 b) in
    let first : slice_cmp nat_cmp (here ++ big_bytes 8 a) ((there ++ big_bytes 8 c) ++ id)
    ≡ ordering_then (nat_cmp bin at) p =
    ap (slice_cmp nat_cmp (here ++ big_bytes 8 a)) (append_assoc there (big_bytes 8 c) id)
    ∙ order.numbers 2 bin at (big_bytes 8 a) (big_bytes 8 c ++ id) fits-bin fits-at in
    let second : slice_cmp nat_cmp (there ++ big_bytes 8 c) (here ++ big_bytes 8 b)
    ≡ ordering_then (nat_cmp at bin) q =
    order.numbers 2 at bin (big_bytes 8 c) (big_bytes 8 b) fits-at fits-bin in
    two_sided order prefix (s ∷ (here ++ big_bytes 8 a)) (s ∷ (here ++ big_bytes 8 b))
    (o ∷ (there ++ big_bytes 8 c)) id (prefix_is_bytes t kind)
    (All-cons (λ byte. byte < 256) o (there ++ big_bytes 8 c) small
    (All-append (λ byte. byte < 256) there (big_bytes 8 c) (big_is_bytes 2 at)
    (big_is_bytes 8 c))) refl
    ∙ first_decides s o (slice_cmp nat_cmp (here ++ big_bytes 8 a) ((there ++ big_bytes 8 c) ++ id))
    (slice_cmp nat_cmp (there ++ big_bytes 8 c) (here ++ big_bytes 8 b))
    ∙ ap (λ t. (s == o) && t) ((λ i. is_le (first i) && is_le (second i)) ∙ first_decides bin at p q
    ∙ (λ i. (bin == at)
    && (low_number order 8 a c id fits-a fits-c i && high_number order 8 c b fits-c fits-b i)))

-- ---- values and identifiers
pub in_values : SharedFronts → (prefix low high rest : List ℕ)
    → is_from_to (prefix ++ low) (Some (prefix ++ high)) (prefix ++ rest)
    ≡ is_from_to low (Some high) rest
in_values shared prefix low high rest =
    λ i. is_le (shared prefix low rest i) && not (is_le (shared prefix high rest i))

pub to_the_end : HighFronts → SharedFronts
    → (t : Specification) (kind : IndexKind) (low rest : List ℕ)
    → is_from_to (prefix_of t kind ++ low) (after_of (prefix_of t kind)) (prefix_of t kind ++ rest)
    ≡ is_le (slice_cmp nat_cmp low rest)
to_the_end high_fronts shared t kind low rest =
    let prefix = prefix_of t kind in
    let front : take (length prefix) (prefix ++ rest) ≡ prefix =
    take_at prefix rest (length prefix) refl in
    let high : is_before (after_of prefix) (prefix ++ rest) ≡ true =
    high_fronts prefix (prefix ++ rest)
    (subst (λ (b : List ℕ). AreBytes b) (sym front) (prefix_is_bytes t kind))
    ∙ ap (λ k. is_le (slice_cmp nat_cmp k prefix)) front
    ∙ ap is_le (tied_itself nat_list_cmp_total prefix) in
    (λ i. is_le (shared prefix low rest i) && high i)
    ∙ and_true (is_le (slice_cmp nat_cmp low rest))

pub one_key : (key other : List ℕ)
    → is_from_to key (Some (key ++ 0 ∷ [])) other ≡ pointwise nat_eq key other
one_key [] [] = refl
one_key [] (y ∷ other) =
    ap (λ t. not t)
    (then_le (nat_cmp 0 y) (slice_cmp nat_cmp [] other) (none_is_least other) ∙ le_is 0 y
    ∙ le_true 0 y (omega arith))
one_key (x ∷ key) [] = refl
one_key (x ∷ key) (y ∷ other) =
    let p = slice_cmp nat_cmp key other in
    let q = slice_cmp nat_cmp (key ++ 0 ∷ []) other in
    ⊎_elim
    (λ same. ap (λ r. is_le (ordering_then r p) && not (is_le (ordering_then r q)))
    (is_equal x y same) ∙ one_key key other
    ∙ ap (λ t. t && pointwise nat_eq key other) (sym (eq_yes x y same)))
    (⊎_elim
    (λ less. ap (λ r. is_le (ordering_then r p) && not (is_le (ordering_then r q)))
    (is_less x y less)
    ∙ ap (λ t. t && pointwise nat_eq key other) (sym (eq_false x y (omega arith))))
    (λ more. ap (λ r. is_le (ordering_then r p) && not (is_le (ordering_then r q)))
    (is_greater x y more)
    ∙ ap (λ t. t && pointwise nat_eq key other) (sym (eq_false x y (omega arith)))))
    (cases_order x y)

-- ---- what lies within begins alike
pub begins : (front a b key : List ℕ) → is_from_to (front ++ a) (Some (front ++ b)) key ≡ true
    → (rest : List ℕ) × (key ≡ front ++ rest) × (is_from_to a (Some b) rest ≡ true)
begins [] a b key within = (key, refl, within)
begins (x ∷ front) a b [] within = cc
begins (x ∷ front) a b (y ∷ key) within =
    elim (nat_cmp x y) as
    (λ r. nat_cmp x y ≡ r
    → (is_le (ordering_then r (slice_cmp nat_cmp (front ++ a) key))
    && not (is_le (ordering_then r (slice_cmp nat_cmp (front ++ b) key)))) ≡ true
    → (rest : List ℕ) × (y ∷ key ≡ x ∷ (front ++ rest)) × (is_from_to a (Some b) rest ≡ true)) [
      | Less ↦ λ _ e. cc
      | Equal ↦ λ is e. let found = begins front a b key e in
          (found.0, (λ i. sym (ranked x y Equal (sym is)) i ∷ found.1 i), found.2)
      | Greater ↦ λ _ e. cc
    ] refl within

after-behind : (front y end : List ℕ) → after_of y ≡ Some end
    → after_of (front ++ y) ≡ Some (front ++ end)
after-behind [] y end is = is
after-behind (x ∷ front) y end is = ap (raised x) (after-behind front y end is)

some_after : (shard : ℕ) (rest : List ℕ) → shard < 255
    → (end : List ℕ) × (after_of (shard ∷ rest) ≡ Some end)
some_after shard rest small =
    elim (after_of rest) as (λ e. (end : List ℕ) × (raised shard e ≡ Some end)) [
      | None ↦ (
        (shard + 1) ∷ [],
        ap (λ t. if t then None else Some ((shard + 1) ∷ []))
            (eq_false shard 255 (λ same. absurd (omega (arith, same)))),
      )
      | Some end ↦ (shard ∷ end, refl)
    ]

pub behind_a_shard : (prefix : List ℕ) (shard : ℕ) (low high key : List ℕ) → shard < 255
    → is_from_to (prefix ++ (shard ∷ low)) (after_of (prefix ++ (shard ∷ high))) key ≡ true
    → (rest : List ℕ) × (key ≡ prefix ++ rest)
behind_a_shard prefix shard low high key small within =
    let end = some_after shard high small in
    let found = begins prefix (shard ∷ low) end.0 key
    (ap (λ e. is_from_to (prefix ++ (shard ∷ low)) e key)
    (sym (after-behind prefix (shard ∷ high) end.0 end.1)) ∙ within) in
    (found.0, found.1)

last_is : (last : ℕ) (low rest : List ℕ)
    → is_from_to (last ∷ low) (Some ((last + 1) ∷ [])) rest ≡ true
    → (more : List ℕ) × (rest ≡ last ∷ more)
last_is last low [] within = cc
last_is last low (y ∷ rest) within = ⊎_elim
    (λ same. (rest, ap (λ (n : ℕ). n ∷ rest) (sym same)))
    (⊎_elim
    (λ less. absurd (true≢false (sym within ∙ high_fails less)))
    (λ more. absurd
    (true≢false (sym within
    ∙ ap (λ r. is_le (ordering_then r (slice_cmp nat_cmp low rest))
    && is_before (Some ((last + 1) ∷ [])) (y ∷ rest)) (is_greater last y more)))))
    (cases_order last y)
  where
    high_fails : last < y → is_from_to (last ∷ low) (Some ((last + 1) ∷ [])) (y ∷ rest) ≡ false
    high_fails less =
        ap (λ r. is_le (ordering_then r (slice_cmp nat_cmp low rest))
        && is_before (Some ((last + 1) ∷ [])) (y ∷ rest)) (is_less last y less)
        ∙ ap not (then_le (nat_cmp (last + 1) y) (slice_cmp nat_cmp [] rest) (none_is_least rest)
        ∙ le_is (last + 1) y ∙ le_true (last + 1) y (omega arith))

-- a prefix ends with a byte that can be raised
pub record Ended (prefix : List ℕ) : Type 0 where
  pub front : List ℕ
  pub last : ℕ
  pub parts : prefix ≡ front ++ last ∷ []
  pub small : last < 255

pub behind_a_prefix : (prefix low key : List ℕ) → Ended prefix
    → is_from_to (prefix ++ low) (after_of prefix) key ≡ true
    → (rest : List ℕ) × (key ≡ prefix ++ rest)
behind_a_prefix prefix low key ended within =
    let front = ended.front in
    let last = ended.last in
    let single : after_of (last ∷ []) ≡ Some ((last + 1) ∷ []) =
    ap (λ t. if t then None else Some ((last + 1) ∷ []))
    (eq_false last 255 (λ same. absurd (omega (arith, same, ended.small)))) in
    let end : after_of prefix ≡ Some (front ++ (last + 1) ∷ []) =
    ap after_of ended.parts ∙ after-behind front (last ∷ []) ((last + 1) ∷ []) single in
    let start : prefix ++ low ≡ front ++ (last ∷ low) =
    ap (λ x. x ++ low) ended.parts ∙ append_assoc front (last ∷ []) low in
    let found = begins front (last ∷ low) ((last + 1) ∷ []) key
    ((λ i. is_from_to (sym start i) (sym end i) key) ∙ within) in
    let more = last_is last low found.0 found.2 in (
      more.0,
      found.1 ∙ ap (λ x. front ++ x) more.1 ∙ sym (append_assoc front (last ∷ []) more.0)
          ∙ ap (λ x. x ++ more.0) (sym ended.parts),
    )

pub prefix_ended : (t : Specification) (kind : IndexKind) → IsType t → has_index t kind ≡ true
    → Ended (prefix_of t kind)
unfolding prefix_of
prefix_ended t Id typed has =
    record { front = big_bytes 2 t.number; last = 0; parts = refl; small = omega arith }
prefix_ended t Z2 typed has =
    record { front = big_bytes 2 t.number; last = 1; parts = refl; small = omega arith }
prefix_ended t Z3 typed has =
    record { front = big_bytes 2 t.number; last = 2; parts = refl; small = omega arith }
prefix_ended t Xz2 typed has =
    record { front = big_bytes 2 t.number; last = 3; parts = refl; small = omega arith }
prefix_ended t Xz3 typed has =
    record { front = big_bytes 2 t.number; last = 4; parts = refl; small = omega arith }
prefix_ended t (Attr n) typed has =
    let within = indexed_within t n has in
    record {
      front = big_bytes 2 t.number ++ (5 ∷ byte_at 1 n ∷ []);
      last = byte_at 0 n;
      parts = refl;
      small = omega (arith, within, typed.few);
    }
