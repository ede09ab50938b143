-- Puts, one more and one fewer, by what stands at a key.
use Rattle.std.proofs.Common.{◌≡◌, ◌||◌, ℕ, ◌<◌, true, false, cond, List, [], ◌∷◌, ◌++◌, length}
use Rattle.std.proofs.Common.{Option, Some, None, refl, sym, ap, ◌∙◌, arith, get_or}
use Rattle.std.specs.Ordering.{nat_cmp}
use Rattle.std.specs.Cmp.Lexicographic.{slice_cmp}
use Rattle.std.specs.BTreeMap.{is_at}
use Rattle.gm_table.proofs.Keys.{same_key}
use Rattle.gm_table.specs.Sorted.{Rows, at_key}
use Rattle.gm_table.specs.declared.row.Row.{Row}
use Rattle.std.specs.Prelude.{if◌then◌else◌}
use Rattle.gm_table.specs.Batch.{put_at, has_key}
use Rattle.gm_table.specs.Changes.{given_back, restored_at, undone_at}

-- one put more
pub put_at-push : (key : List ℕ) (puts : List Row) (put : Row) (before : Option (List ℕ))
    → put_at key (puts ++ put ∷ []) before ≡ put_at key (put ∷ []) (put_at key puts before)
put_at-push key [] put before = refl
put_at-push key (first ∷ puts) put before = put_at-push key puts put _

-- one put more to take back
pub undone_at-push : (key : List ℕ) (puts : List Row) (olds : List (Option (List ℕ))) (put : Row)
    (old now : Option (List ℕ))
    → length olds < length puts → put ≡ get_or puts (length olds) put
    → undone_at key puts (olds ++ old ∷ []) now
    ≡ undone_at key puts olds (restored_at key put.key old now)
undone_at-push key [] olds put old now few at = absurd (omega arith)
undone_at-push key (first ∷ puts) [] put old now few at =
    ap (λ (row : Row). restored_at key row.key old now) (sym at)
undone_at-push key (first ∷ puts) (o ∷ olds) put old now few at =
    ap (restored_at key first.key o) (undone_at-push key puts olds put old now (omega arith) at)

-- a put that is taken back
given_back-itself : (before : Option (List ℕ)) (bytes : List ℕ)
    → given_back before (Some bytes) ≡ before
given_back-itself None bytes = refl
given_back-itself (Some other) bytes = refl

pub restored_at-put : (key : List ℕ) (put : Row) (before old : Option (List ℕ))
    → (is_at (slice_cmp nat_cmp key) put.key ≡ true → old ≡ before)
    → restored_at key put.key old (put_at key (put ∷ []) before) ≡ before
restored_at-put key put before old same =
    elim (is_at (slice_cmp nat_cmp key) put.key) as
    (λ b. is_at (slice_cmp nat_cmp key) put.key ≡ b
    → cond b (given_back old (cond b (Some put.bytes) before))
    (cond b (Some put.bytes) before) ≡ before) [
      | true ↦ λ e. ap (λ o. given_back o (Some put.bytes)) (same e)
          ∙ given_back-itself before put.bytes
      | false ↦ λ _. refl
    ] refl

-- one key more that is removed
pub removed-push : (key : List ℕ) (keys : List (List ℕ)) (last : List ℕ) (before : Option (List ℕ))
    → (if has_key key (keys ++ last ∷ []) then None else before)
    ≡ (if is_at (slice_cmp nat_cmp key) last then None
    else (if has_key key keys then None else before))
removed-push key [] last before =
    elim (is_at (slice_cmp nat_cmp key) last) as
    (λ b. (if b || false then None else before) ≡ (if b then None else before))
    [ true ↦ refl | false ↦ refl ]
removed-push key (first ∷ keys) last before =
    elim (is_at (slice_cmp nat_cmp key) first) as
    (λ b. (if b || has_key key (keys ++ last ∷ []) then None else before)
    ≡ (if is_at (slice_cmp nat_cmp key) last then None
    else (if b || has_key key keys then None else before))) [
      | true ↦ elim (is_at (slice_cmp nat_cmp key) last) as
          (λ b. ◌≡◌ {A = Option (List ℕ)} None (if b then None else None))
          [ true ↦ refl | false ↦ refl ]
      | false ↦ removed-push key keys last before
    ]

-- a key that a table has is given back what it had
pub restored_at-there : (other key bytes there : List ℕ) (rows : Rows)
    → at_key key rows ≡ Some there
    → (if is_at (slice_cmp nat_cmp other) key then Some bytes else at_key other rows)
    ≡ restored_at other key (Some bytes) (at_key other rows)
restored_at-there other key bytes there rows found =
    elim (is_at (slice_cmp nat_cmp other) key) as (λ b. is_at (slice_cmp nat_cmp other) key ≡ b
    → (if b then Some bytes else at_key other rows)
    ≡ (if b then given_back (Some bytes) (at_key other rows) else at_key other rows)) [
      | true ↦ λ same. sym
          (ap (given_back (Some bytes)) (ap (λ k. at_key k rows) (same_key other key same) ∙ found))
      | false ↦ λ _. refl
    ] refl

-- and one that it has not stays away
pub restored_at-absent : (other key bytes : List ℕ) (rows : Rows) → at_key key rows ≡ None
    → at_key other rows ≡ restored_at other key (Some bytes) (at_key other rows)
restored_at-absent other key bytes rows none =
    elim (is_at (slice_cmp nat_cmp other) key) as (λ b. is_at (slice_cmp nat_cmp other) key ≡ b
    → at_key other rows
    ≡ (if b then given_back (Some bytes) (at_key other rows) else at_key other rows)) [
      | true ↦ λ same. let absent = ap (λ k. at_key k rows) (same_key other key same) ∙ none in
          absent ∙ sym (ap (given_back (Some bytes)) absent)
      | false ↦ λ _. refl
    ] refl
