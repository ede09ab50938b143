-- Rows that are handed out up to a key.
use Rattle.std.proofs.Common.{◌≡◌, List, [], ◌∷◌, ◌++◌, ℕ, ◌+◌, false, cond, length, refl, sym, ap}
use Rattle.std.proofs.Common.{◌∙◌, arith, append_assoc, length-append}
use Rattle.std.specs.Prelude.{Result, Ok, Err, ⊤, Option, None, Some}
use Rattle.std.specs.Ordering.{nat_cmp, is_le}
use Rattle.std.specs.Cmp.Lexicographic.{slice_cmp}
use Rattle.std.specs.Map.Iter.{TakesFirst, deref_pair}
use Rattle.gm_base.specs.declared.NoMemory.{NoMemory}
use Rattle.gm_base.specs.Counter.{capped_sum}
use denote.Ref.{Bor}
use Rattle.gm_table.specs.Sorted.{Rows}
use Rattle.gm_table.specs.Cursor.{pending, rows_below, rows_after}
use Rattle.gm_table.specs.Visit.{Handed, Stops}
use Rattle.gm_table.proofs.Spans.{Handed-both}

-- of the rows below the key, those before `left` were handed out
pub record Walk {V : Type 0} (takes : V → List ℕ → List ℕ → Result ⊤ NoMemory → V → Type 0)
    (before mid : V) (high : List ℕ) (all left : Rows) (number now : ℕ) : Type 0 where
  pub done : Rows
  pub below : rows_below high all ≡ done ++ rows_below high left
  pub after : rows_after high all ≡ rows_after high left
  pub handed : Handed takes before done mid
  pub tally : now ≡ capped_sum number (length done)

pub pending-steps : (next : Option (Bor (List ℕ) × Bor (List ℕ))) (left rest : Rows)
    → TakesFirst deref_pair left next rest → pending next rest ≡ left
pending-steps None left rest steps = sym steps.0
pending-steps (Some row) left rest steps = sym steps

-- the first row that is left is below the key
pub below-more : (high : List ℕ) (row : List ℕ × List ℕ) (left : Rows)
    → is_le (slice_cmp nat_cmp high row.0) ≡ false
    → rows_below high (row ∷ left) ≡ row ∷ rows_below high left
below-more high row left below = ap (λ b. cond b [] (row ∷ rows_below high left)) below

pub after-more : (high : List ℕ) (row : List ℕ × List ℕ) (left : Rows)
    → is_le (slice_cmp nat_cmp high row.0) ≡ false
    → rows_after high (row ∷ left) ≡ rows_after high left
after-more high row left below = ap (λ b. cond b (row ∷ left) (rows_after high left)) below

pub Walk-more : {V : Type 0} (takes : V → List ℕ → List ℕ → Result ⊤ NoMemory → V → Type 0)
    (before mid later : V) (high : List ℕ) (all : Rows) (row : List ℕ × List ℕ) (left : Rows)
    (number now more : ℕ)
    → is_le (slice_cmp nat_cmp high row.0) ≡ false → takes mid row.0 row.1 (Ok tt) later
    → more ≡ capped_sum now 1
    → Walk takes before mid high all (row ∷ left) number now
    → Walk takes before later high all left number more
Walk-more takes before mid later high all row left number now more below took raised walk = record {
  done = walk.done ++ row ∷ [];
  below = walk.below ∙ ap (λ rows. walk.done ++ rows) (below-more high row left below)
      ∙ sym (append_assoc walk.done (row ∷ []) (rows_below high left));
  after = walk.after ∙ after-more high row left below;
  handed = Handed-both takes before mid later walk.done (row ∷ []) walk.handed (later, took, refl);
  tally = omega (arith, raised, walk.tally, length-append walk.done (row ∷ []));
}

-- the first row that is left was refused
pub Walk-stops : {V : Type 0} (takes : V → List ℕ → List ℕ → Result ⊤ NoMemory → V → Type 0)
    (before mid later : V) (high : List ℕ) (all : Rows) (row : List ℕ × List ℕ) (left : Rows)
    (number now : ℕ) (fault : NoMemory)
    → is_le (slice_cmp nat_cmp high row.0) ≡ false → takes mid row.0 row.1 (Err fault) later
    → (walk : Walk takes before mid high all (row ∷ left) number now)
    → Stops takes before (rows_below high all) fault later (length walk.done + 1)
Walk-stops takes before mid later high all row left number now fault below refused walk = record {
  front = walk.done;
  refused = row;
  rest = rows_below high left;
  parts = walk.below ∙ ap (λ rows. walk.done ++ rows) (below-more high row left below);
  mid = mid;
  taken = walk.handed;
  answer = refused;
  count = refl;
}
