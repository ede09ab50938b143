-- Rows that are sorted and have their doubles dropped are those that are put one after the other.
use Rattle.std.proofs.Common.{◌≡◌, ℕ, Bool, true, false, cond, ◌&&◌, ◌||◌, T, ⊎_elim}
use Rattle.std.proofs.Common.{List, [], ◌∷◌, map, Some, None, refl, sym, ap, subst, ◌∙◌, Bor}
use Rattle.std.specs.Prelude.{All, IsPermutation, IsSorted}
use Rattle.std.specs.List.{AllByRecursion, list_any, dedup, dedup_from}
use Rattle.std.specs.List.Sorted.{IsStrictlySortedBy}
use Rattle.std.specs.Ordering.{nat_cmp, is_lt, ordering_then, eq_by_cmp}
use Rattle.std.specs.Cmp.{IsTotalOrder, tied_itself, both_tied, then_total, on_total}
use Rattle.std.specs.Cmp.Lexicographic.{slice_cmp, nat_list_cmp_total, bytes_decides}
use Rattle.std.specs.Str.{bytes_eq}
use Rattle.std.specs.declared.cmp.Ordering.{Ordering}
use Rattle.std.specs.declared.cmp.Ordering.TheVariants.{Less, Equal, Greater}
use Rattle.std.specs.BTreeMap.{insert_entry}
use Rattle.std.specs.FinMap.{find, is_sorted, slice_cmp-IsAntisymmetric, nat_cmp-IsAntisymmetric}
use Rattle.std.specs.FinMap.Entries.{below_all, find-put, is_sorted-put, same_entries}
use Rattle.std.proofs.lemmas.List.Elements.{recursion_from_All}
use Rattle.std.proofs.lemmas.List.Kept.{IsStrictlySortedBy-dedup}
use Rattle.std.proofs.lemmas.List.Sorted.{All-permutation, IsPermutation-map}
use Rattle.std.proofs.lemmas.List.Sorted.{list_any-IsPermutation}
use Rattle.std.proofs.lemmas.Map.Keys.{sorted_head, sorted_tail}
use Rattle.std.proofs.lemmas.Map.Text.{is_eq-slice_cmp}
use Rattle.std.proofs.lemmas.Bool.{and_parts}
use Rattle.gm_base.proofs.Booleans.{true_or_false, both_from-T}
use Rattle.gm_scan.specs.FoundRows.{FoundRow}
use Rattle.gm_program.specs.InOrder.{put_all, in_order, seen}
use Rattle.gm_program.proofs.Collected.{is_key, same_key, insert_put}

abbrev Lent : Type 0
Lent = Bor (List ℕ) × Bor (List ℕ)

abbrev C : List ℕ → List ℕ → Ordering
C = slice_cmp nat_cmp

-- rows by identifier and then by bytes, and whether both are the same
abbrev pub by_both : Lent → Lent → Ordering
by_both x y = ordering_then (C x.0.now y.0.now) (C x.1.now y.1.now)

abbrev pub are_same : Lent → Lent → Bool
are_same x y = bytes_eq x.0.now y.0.now && bytes_eq x.1.now y.1.now

both_total : IsTotalOrder by_both
both_total = then_total (on_total (λ (x : Lent). x.0.now) nat_list_cmp_total)
    (on_total (λ (x : Lent). x.1.now) nat_list_cmp_total)

ties : (x y : Lent) → are_same x y ≡ eq_by_cmp by_both x y
ties x y = both_tied _ _ (C x.0.now y.0.now) (C x.1.now y.1.now)
    (sym (is_eq-slice_cmp x.0.now y.0.now)) (sym (is_eq-slice_cmp x.1.now y.1.now))

-- the bytes are those of the identifier
abbrev Follows : (List ℕ → List ℕ) → FoundRow → Type 0
Follows of row = row.1 ≡ of row.0

-- ---- strictly by identifier
equal_no_less : {A : Type 0} → Equal ≡ Less → A
equal_no_less e = cc

greater_no_less : {A : Type 0} → Greater ≡ Less → A
greater_no_less e = cc

less_first : (of : List ℕ → List ℕ) (x y : Lent) → Follows of (seen x) → Follows of
    (seen y) → by_both x y ≡ Less → T (is_lt (C x.0.now y.0.now))
less_first of x y here there less =
    elim (C x.0.now y.0.now) as
    (λ r. C x.0.now y.0.now ≡ r → ordering_then r (C x.1.now y.1.now) ≡ Less → T (is_lt r)) [
      | Less ↦ λ is h. tt
      | Equal ↦ λ is h.
          let same : x.0.now ≡ y.0.now =
          slice_cmp-IsAntisymmetric nat_cmp-IsAntisymmetric x.0.now y.0.now is in
          let bytes : x.1.now ≡ y.1.now = here ∙ ap of same ∙ sym there in
          equal_no_less (sym (tied_itself nat_list_cmp_total y.1.now)
          ∙ ap (λ b. C b y.1.now) (sym bytes) ∙ h)
      | Greater ↦ λ is h. greater_no_less h
    ] refl less

below : (of : List ℕ → List ℕ) (x : Lent) (rows : List Lent) → Follows of
    (seen x) → AllByRecursion (Follows of) (map seen rows)
    → AllByRecursion (λ y. by_both x y ≡ Less) rows
    → T (below_all C x.0.now (map seen rows))
below of x [] here follow less = tt
below of x (y ∷ rows) here follow less =
    both_from-T _ _ (less_first of x y here follow.0 less.0) (below of x rows here follow.1 less.1)

rise : (of : List ℕ → List ℕ) (rows : List Lent) → AllByRecursion (Follows of) (map seen rows)
    → IsStrictlySortedBy by_both rows → T (is_sorted C (map seen rows))
rise of [] follow sorted = tt
rise of (x ∷ rows) follow sorted =
    both_from-T _ _ (below of x rows follow.0 follow.1 (sorted_head by_both x rows sorted))
    (rise of rows follow.1 (sorted_tail by_both x rows sorted))

-- ---- what is found at an identifier
abbrev has : List ℕ → List FoundRow → Bool
has id rows = list_any (λ row. is_key id row.0) rows

found_is : (of : List ℕ → List ℕ) (id : List ℕ) (rows : List FoundRow)
    → AllByRecursion (Follows of) rows → find C id rows ≡ cond (has id rows) (Some (of id)) None
found_is of id [] follow = refl
found_is of id (row ∷ rows) follow = ⊎_elim
    (λ same. ap (λ b. cond b (Some row.1) (find C id rows)) same
    ∙ ap (λ (x : List ℕ). Some x) (follow.0 ∙ ap of (sym (same_key id row.0 same)))
    ∙ ap (λ b. cond (b || has id rows) (Some (of id)) None) (sym same))
    (λ apart. ap (λ b. cond b (Some row.1) (find C id rows)) apart ∙ found_is of id rows follow.1
    ∙ ap (λ b. cond (b || has id rows) (Some (of id)) None) (sym apart))
    (true_or_false (is_key id row.0))

-- ---- the rows put one after the other
put_sorted : (held rows : List FoundRow) → T (is_sorted C held)
    → T (is_sorted C (put_all held rows))
put_sorted held [] sorted = sorted
put_sorted held (row ∷ rows) sorted =
    put_sorted (insert_entry C held row.0 row.1) rows
    (subst (λ es. T (is_sorted C es)) (sym (insert_put held row.0 row.1))
    (is_sorted-put C nat_list_cmp_total row.0 row.1 held sorted))

either_same : {A : Type 0} (b : Bool) (x y : A) → x ≡ y → cond b x y ≡ x
either_same true x y same = refl
either_same false x y same = sym same

put_found : (of : List ℕ → List ℕ) (id : List ℕ) (held rows : List FoundRow)
    → AllByRecursion (Follows of) rows
    → find C id (put_all held rows) ≡ cond (has id rows) (Some (of id)) (find C id held)
put_found of id held [] follow = refl
put_found of id held (row ∷ rows) follow =
    put_found of id (insert_entry C held row.0 row.1) rows follow.1
    ∙ ap (cond (has id rows) (Some (of id)))
    (ap (find C id) (insert_put held row.0 row.1)
    ∙ find-put C nat_list_cmp_total id row.0 row.1 held)
    ∙ ⊎_elim
    (λ same.
    let bytes : cond (is_key id row.0) (Some row.1) (find C id held) ≡ Some (of id) =
    ap (λ b. cond b (Some row.1) (find C id held)) same
    ∙ ap (λ (x : List ℕ). Some x) (follow.0 ∙ ap of (sym (same_key id row.0 same))) in
    either_same (has id rows) (Some (of id))
    (cond (is_key id row.0) (Some row.1) (find C id held)) (sym bytes)
    ∙ ap (λ b. cond (b || has id rows) (Some (of id)) (find C id held)) (sym same))
    (λ apart. ap (λ b. cond (has id rows) (Some (of id)) (cond b (Some row.1) (find C id held)))
    apart
    ∙ ap (λ b. cond (b || has id rows) (Some (of id)) (find C id held)) (sym apart))
    (true_or_false (is_key id row.0))

-- ---- doubles
twice : (b c : Bool) → (b || (b || c)) ≡ (b || c)
twice true c = refl
twice false c = refl

same_ids : (x y : Lent) → are_same x y ≡ true → x.0.now ≡ y.0.now
same_ids x y same = (bytes_decides x.0.now y.0.now).0
    (and_parts (bytes_eq x.0.now y.0.now) (bytes_eq x.1.now y.1.now) same).0

has_dropped : (id : List ℕ) (x : Lent) (rows : List Lent)
    → has id (map seen (dedup_from are_same x rows)) ≡ has id (map seen (x ∷ rows))
has_dropped id x [] = refl
has_dropped id x (y ∷ rows) = ⊎_elim
    (λ same.
    let one : (is_key id x.0.now || has id (map seen rows))
    ≡ (is_key id x.0.now || (is_key id y.0.now || has id (map seen rows))) =
    sym (twice (is_key id x.0.now) (has id (map seen rows)))
    ∙ ap (λ (k : List ℕ). is_key id x.0.now || (is_key id k || has id (map seen rows)))
    (sym (same_ids y x same)) in
    ap (λ b. has id
    (map seen (cond b (dedup_from are_same x rows) (x ∷ dedup_from are_same y rows)))) same
    ∙ has_dropped id x rows ∙ one)
    (λ apart. ap (λ b. has id
    (map seen (cond b (dedup_from are_same x rows) (x ∷ dedup_from are_same y rows)))) apart
    ∙ ap (λ b. is_key id x.0.now || b) (has_dropped id y rows))
    (true_or_false (are_same y x))

follow_dropped : (of : List ℕ → List ℕ) (x : Lent) (rows : List Lent)
    → AllByRecursion (Follows of) (map seen (x ∷ rows))
    → AllByRecursion (Follows of) (map seen (dedup_from are_same x rows))
follow_dropped of x [] follow = follow
follow_dropped of x (y ∷ rows) follow =
    elim (are_same y x) as
    (λ b. AllByRecursion (Follows of)
    (map seen (cond b (dedup_from are_same x rows) (x ∷ dedup_from are_same y rows)))) [
      | true ↦ follow_dropped of x rows (follow.0, follow.1.1)
      | false ↦ (follow.0, follow_dropped of y rows follow.1)
    ]

has_once : (id : List ℕ) (rows : List Lent)
    → has id (map seen (dedup are_same rows)) ≡ has id (map seen rows)
has_once id [] = refl
has_once id (x ∷ rows) = has_dropped id x rows

follow_once : (of : List ℕ → List ℕ) (rows : List Lent)
    → AllByRecursion (Follows of) (map seen rows)
    → AllByRecursion (Follows of) (map seen (dedup are_same rows))
follow_once of [] follow = tt
follow_once of (x ∷ rows) follow = follow_dropped of x rows follow

-- ---- both are one list
once_sorted : (of : List ℕ → List ℕ) (rows sorted : List Lent) → All (Follows of) (map seen rows)
    → IsPermutation rows sorted → IsSorted by_both sorted
    → map seen (dedup are_same sorted) ≡ in_order (map seen rows)
once_sorted of rows sorted follow moved rises =
    let found = map seen rows in
    let once = dedup are_same sorted in
    let moved_seen : IsPermutation found (map seen sorted) =
    IsPermutation-map seen rows sorted moved in
    let here : AllByRecursion (Follows of) found = recursion_from_All (Follows of) found follow in
    let there : AllByRecursion (Follows of) (map seen once) =
    follow_once of
    sorted (recursion_from_All (Follows of) (map seen sorted)
    (All-permutation (Follows of) found (map seen sorted) moved_seen follow)) in
    same_entries C nat_list_cmp_total (slice_cmp-IsAntisymmetric nat_cmp-IsAntisymmetric)
    (map seen once) (in_order found)
    (rise of once there (IsStrictlySortedBy-dedup both_total ties sorted rises))
    (put_sorted [] found tt)
    (λ id. found_is of id (map seen once) there
    ∙ ap (λ b. cond b (Some (of id)) None)
    (has_once id sorted
    ∙ sym (list_any-IsPermutation (λ row. is_key id row.0) found
    (map seen sorted) moved_seen))
    ∙ sym (put_found of id [] found here))

pub rows_are : (of : List ℕ → List ℕ) (found : List FoundRow) (rows sorted once : List Lent)
    → All (Follows of) found → map seen rows ≡ found → IsPermutation rows sorted
    → IsSorted by_both sorted
    → once ≡ dedup are_same sorted → map seen once ≡ in_order found
rows_are of found rows sorted once follow are moved rises is =
    ap (map seen) is ∙ once_sorted of
    rows sorted (subst (All (Follows of)) (sym are) follow) moved rises ∙ ap in_order are
