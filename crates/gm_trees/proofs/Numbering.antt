-- The first code of a node of the XZ tree is the place of its path in the listing.
use Rattle.std.proofs.Common.{◌≡◌, ⊎_elim, ℕ, zero, suc, ◌+◌, ◌-◌, ◌*◌, ◌/◌, ◌%◌, ◌^◌, ◌<◌, ◌≤◌}
use Rattle.std.proofs.Common.{List, [], ◌∷◌, ◌++◌, map, length, get_or, refl, sym, ap, ◌∙◌, subst}
use Rattle.std.proofs.Common.{arith, length-append}
use Rattle.std.specs.Prelude.{false, nat_eq}
use Rattle.std.specs.Cmp.Lexicographic.{pointwise, bytes_decides}
use Rattle.std.proofs.Math.Nat.{mod-lt}
use Rattle.std.proofs.lemmas.Nat.{div_below, div-add-mod'}
use Rattle.std.proofs.lemmas.Bool.{cases_lt, cond-true, cond-false, false_from_ne_true}
use Rattle.std.proofs.lemmas.List.{length-map, get_or-append-add, get_or-map}
use Rattle.std.proofs.lemmas.Grind.{common_steps}
use Rattle.gm_base.specs.Text.{BeginsWith}
use Rattle.gm_trees.specs.declared.node.Node.{Node}
use Rattle.gm_trees.specs.Xz.{xz_shape, xz_child}
use Rattle.gm_trees.specs.Z.{z_root}
use Rattle.gm_trees.specs.XzLaws.{some_size}
use Rattle.gm_trees.specs.ZLaws.{part_within}
use Rattle.gm_curve.specs.Listing.{prefixed, listing, place_in, sequence_count}
use Rattle.gm_trees.specs.Tree.{walk, HasCode, AreChildNumbers}
use Rattle.gm_trees.proofs.Cells.{Halves, level_of_path}

-- the place by the closed form
abbrev pub place : ℕ → ℕ → List ℕ → ℕ
place D g [] = 0
place D zero (q ∷ qs) = 0
place D (suc g) (q ∷ qs) = 1 + q * sequence_count D g + place D g qs

length_prefixed : (m : ℕ) (rest : List (List ℕ)) → length (prefixed m rest) ≡ m * length rest
length_prefixed zero rest = omega arith
length_prefixed (suc m) rest =
    let e : suc m * length rest ≡ m * length rest + length rest = grind (arith, common_steps) in
    omega (
      arith,
      e,
      length-append (prefixed m rest) (map (λ path. m ∷ path) rest),
      length_prefixed m rest,
      length-map rest (λ path. m ∷ path),
    )

pub length_listing : (D g : ℕ) → length (listing D g) ≡ sequence_count D g
length_listing D zero = omega arith
length_listing D (suc g) =
    let e = ap (λ n. 2 ^ D * n) (length_listing D g) in
    omega (arith, length_prefixed (2 ^ D) (listing D g), e)

get_front : (xs ys : List (List ℕ)) (i : ℕ) (d : List ℕ) → i < length xs
    → get_or (xs ++ ys) i d ≡ get_or xs i d
get_front [] ys i d h = absurd (omega arith)
get_front (x ∷ xs) ys zero d h = refl
get_front (x ∷ xs) ys (suc i) d h = get_front xs ys i d (omega arith)

get_prefixed : (m q i : ℕ) (rest : List (List ℕ)) (d : List ℕ) → q < m → i < length rest
    → get_or (prefixed m rest) (q * length rest + i) d ≡ q ∷ get_or rest i d
get_prefixed zero q i rest d less inside = absurd (omega arith)
get_prefixed (suc m) q i rest d less inside =
    ⊎_elim
    (λ earlier.
    let within = part_within q m (length rest) earlier in
    get_front (prefixed m rest) (map (λ path. m ∷ path) rest) (q * length rest + i) d
    (omega (arith, within, length_prefixed m rest)) ∙ get_prefixed m q i rest d earlier inside)
    (λ late.
    let e : q ≡ m = omega arith in
    let at : q * length rest + i ≡ length (prefixed m rest) + i =
    ap (λ n. n * length rest + i) e ∙ ap (λ n. n + i) (sym (length_prefixed m rest)) in
    ap (λ k. get_or (prefixed m rest ++ map (λ path. m ∷ path) rest) k d) at
    ∙ get_or-append-add (prefixed m rest) (map (λ path. m ∷ path) rest) i d
    ∙ get_or-map (λ path. m ∷ path) rest i d d inside ∙ ap (λ n. n ∷ get_or rest i d) (sym e))
    (cases_lt q m)

pub place_within : (D g : ℕ) (path : List ℕ) → length path ≤ g → AreChildNumbers D path
    → place D g path < sequence_count D g
place_within D g [] short members = some_size D g
place_within D zero (q ∷ qs) short members = absurd (omega arith)
place_within D (suc g) (q ∷ qs) short members =
    omega (
      arith,
      place_within D g qs (omega arith) members.1,
      part_within q (2 ^ D) (sequence_count D g) members.0,
    )

-- the place holds the sequence
pub at_place : (D g : ℕ) (path : List ℕ) → length path ≤ g → AreChildNumbers D path
    → get_or (listing D g) (place D g path) [] ≡ path
at_place D zero [] short members = refl
at_place D (suc g) [] short members = refl
at_place D zero (q ∷ qs) short members = absurd (omega arith)
at_place D (suc g) (q ∷ qs) short members =
    let inside : place D g qs < length (listing D g) =
    omega (arith, place_within D g qs (omega arith) members.1, length_listing D g) in
    let e : 1 + q * sequence_count D g + place D g qs
    ≡ suc (q * length (listing D g) + place D g qs) =
    omega (arith, ap (λ n. q * n) (length_listing D g)) in
    ap (λ k. get_or (listing D (suc g)) k []) e
    ∙ get_prefixed (2 ^ D) q (place D g qs) (listing D g) [] members.0 inside
    ∙ ap (λ p. q ∷ p) (at_place D g qs (omega arith) members.1)

-- the first code of the node at the end of a path
pub first_by_place : (D G g : ℕ) (n : Node) (path : List ℕ) → n.level + g ≡ G → length path ≤ g
    → (walk (xz_shape D G) n path).first ≡ n.first + place D g path
first_by_place D G g n [] at short = omega arith
first_by_place D G zero n (q ∷ qs) at short = absurd (omega arith)
first_by_place D G (suc g) n (q ∷ qs) at short =
    let below : G - (n.level + 1) ≡ g = omega arith in
    let e = ap (λ k. q * sequence_count D k) below in
    omega (arith, e, first_by_place D G g (xz_child D G n q) qs (omega arith) (omega arith))

pub xz_halves : (D G : ℕ) (n : Node) (q : ℕ) → Halves n q (xz_child D G n q)
xz_halves D G n q = record { level = refl; x = refl; y = refl; t = refl }

pub first_from_root : (D G : ℕ) (path : List ℕ) → length path ≤ G
    → (walk (xz_shape D G) z_root path).first ≡ place D G path
first_from_root D G path short = omega (arith, first_by_place D G G z_root path (omega arith) short)

-- ---- each place has a sequence
pub record IsSequenceAt (D g c : ℕ) (path : List ℕ) : Type 0 where
  pub short : length path ≤ g
  pub members : AreChildNumbers D path
  pub at : place D g path ≡ c

pub sequence_at : (D g c : ℕ) → c < sequence_count D g → (path : List ℕ) × IsSequenceAt D g c path
sequence_at D zero c h = ([], record { short = omega arith; members = tt; at = omega arith })
sequence_at D (suc g) zero h = ([], record { short = omega arith; members = tt; at = refl })
sequence_at D (suc g) (suc c) h =
    let w = sequence_count D g in
    let some : 1 ≤ w = some_size D g in
    let rest = sequence_at D g (c % w) (mod-lt c {m = w} (omega (arith, some))) in
    let parts = div-add-mod' c w in (
      c / w ∷ rest.0,
      record {
        short = omega (arith, rest.1.short);
        members = (div_below c w (2 ^ D) (omega (arith, some)) (omega (arith, h)), rest.1.members);
        at = omega (arith, rest.1.at, parts);
      },
    )

-- a list in which a sequence does not stand earlier
place_at : (xs : List (List ℕ)) (i : ℕ) (p : List ℕ) → i < length xs → get_or xs i [] ≡ p
    → ((j : ℕ) → j < i → get_or xs j [] ≡ p → ⊥) → place_in xs p ≡ i
place_at [] i p inside at none = absurd (omega arith)
place_at (x ∷ xs) zero p inside at none =
    cond-true (pointwise nat_eq x p) 0 (suc (place_in xs p)) ((bytes_decides x p).1 at)
place_at (x ∷ xs) (suc i) p inside at none =
    let other : pointwise nat_eq x p ≡ false =
    false_from_ne_true (pointwise nat_eq x p)
    (λ t. none 0 (omega arith) ((bytes_decides x p).0 t)) in
    cond-false (pointwise nat_eq x p) 0 (suc (place_in xs p)) other
    ∙ ap suc (place_at xs i p (omega arith) at (λ j less. none (suc j) (omega arith)))

pub place_is_in : (D g : ℕ) (path : List ℕ) → length path ≤ g → AreChildNumbers D path
    → place_in (listing D g) path ≡ place D g path
place_is_in D g path short members =
    place_at (listing D g) (place D g path) path
    (omega (arith, place_within D g path short members, length_listing D g))
    (at_place D g path short members)
    (λ j less at.
    let seq = sequence_at D g j (omega (arith, less, place_within D g path short members)) in
    let e : path ≡ seq.0 =
    sym at ∙ ap (λ k. get_or (listing D g) k []) (sym seq.1.at)
    ∙ at_place D g seq.0 seq.1.short seq.1.members in
    let same : place D g path ≡ place D g seq.0 = ap (place D g) e in
    omega (arith, same, seq.1.at, less))

-- ---- sequences that begin with a path
place_append : (D g : ℕ) (path rest : List ℕ) → length path ≤ g
    → place D g (path ++ rest) ≡ place D g path + place D (g - length path) rest
place_append D g [] rest short = let e : g ≡ g - 0 = omega arith in
    ap (λ k. place D k rest) e ∙ omega arith
place_append D zero (q ∷ qs) rest short = absurd (omega arith)
place_append D (suc g) (q ∷ qs) rest short =
    let e : g - length qs ≡ suc g - suc (length qs) = omega arith in
    let f : place D (g - length qs) rest ≡ place D (suc g - suc (length qs)) rest =
    ap (λ k. place D k rest) e in
    omega (arith, place_append D g qs rest (omega arith), f)

members_append : (D : ℕ) (path rest : List ℕ) → AreChildNumbers D path → AreChildNumbers D rest
    → AreChildNumbers D (path ++ rest)
members_append D [] rest members more = more
members_append D (q ∷ qs) rest members more = (members.0, members_append D qs rest members.1 more)

members_rest : (D : ℕ) (path rest : List ℕ) → AreChildNumbers D (path ++ rest)
    → AreChildNumbers D rest
members_rest D [] rest members = members
members_rest D (q ∷ qs) rest members = members_rest D qs rest members.1

module _ (D G : ℕ) (path : List ℕ) (c : ℕ) (short : length path ≤ G)
    (members : AreChildNumbers D path) where
  last_size : sequence_count D (G - (walk (xz_shape D G) z_root path).level)
      ≡ sequence_count D (G - length path)
  last_size = let e : (walk (xz_shape D G) z_root path).level ≡ length path =
      omega (arith, level_of_path (xz_shape D G) (xz_halves D G) z_root path) in
      ap (λ l. sequence_count D (G - l)) e

  pub codes_begin : HasCode (xz_shape D G) (walk (xz_shape D G) z_root path) c
      → (c < length (listing D G)) × BeginsWith (get_or (listing D G) c []) path
  codes_begin has =
      let first = first_from_root D G path short in
      let rest = sequence_at D (G - length path) (c - place D G path)
      (omega (arith, has.0, has.1, first, last_size, some_size D (G - length path))) in
      let seq = path ++ rest.0 in
      let fits : length seq ≤ G = omega (arith, length-append path rest.0, rest.1.short, short) in
      let more : AreChildNumbers D seq = members_append D path rest.0 members rest.1.members in
      let at : place D G seq ≡ c =
      omega (arith, place_append D G path rest.0 short, rest.1.at, has.0, first) in (
        (omega (arith, at, place_within D G seq fits more, length_listing D G)),
        (rest.0, ap (λ k. get_or (listing D G) k []) (sym at) ∙ at_place D G seq fits more),
      )

  pub beginning_codes : c < length (listing D G) → BeginsWith (get_or (listing D G) c []) path
      → HasCode (xz_shape D G) (walk (xz_shape D G) z_root path) c
  beginning_codes inside begins =
      let seq = sequence_at D G c (omega (arith, inside, length_listing D G)) in
      let rest = begins.0 in
      let e : seq.0 ≡ path ++ rest =
      sym (at_place D G seq.0 seq.1.short seq.1.members)
      ∙ ap (λ k. get_or (listing D G) k []) seq.1.at ∙ begins.1 in
      let long : length seq.0 ≡ length (path ++ rest) = ap length e in
      let more : AreChildNumbers D rest =
      members_rest D path rest (subst (AreChildNumbers D) e seq.1.members) in
      let at : place D G (path ++ rest) ≡ c = ap (place D G) (sym e) ∙ seq.1.at in
      let within = place_within D (G - length path) rest
      (omega (arith, long, length-append path rest, seq.1.short)) more in
      let first = first_from_root D G path short in (
        (omega (arith, at, place_append D G path rest short, first)),
        omega (arith, at, place_append D G path rest short, first, within, last_size),
      )
