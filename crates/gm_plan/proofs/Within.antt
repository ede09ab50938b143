-- Keys in the spans of ranges, shard by shard.
use Rattle.std.proofs.Common.{◌≡◌, ℕ, zero, suc, ◌+◌, ◌^◌, ◌<◌, ◌≤◌, Bool, true, false, ◌&&◌, List}
use Rattle.std.proofs.Common.{[], ◌∷◌, ◌++◌, map, refl, sym, ◌∙◌, true≢false, inl, inr, Option}
use Rattle.std.proofs.Common.{Some, None, arith, subst, append_assoc, append-nil}
use Rattle.std.specs.Prelude.{nat_le, ◌==◌, is_some, if◌then◌else◌}
use Rattle.std.specs.List.{list_any, flat_map, range_with_len, AllByRecursion}
use Rattle.std.proofs.lemmas.Bool.{and_from, or_left, or_right, eqb-true}
use Rattle.std.proofs.lemmas.List.Folds.{list_any-append}
use Rattle.byteorder.specs.Endian.{big_bytes}
use Rattle.gm_base.proofs.Numbers.{eq_true, le_true}
use Rattle.gm_runs.specs.Runs.{HasNumber}
use Rattle.gm_lexi.specs.Ends.{after_of, raised, is_from_to}
use Rattle.gm_table.specs.Sorted.{is_within}
use Rattle.gm_types.specs.declared.index.IndexKind.{IndexKind}
use Rattle.gm_types.specs.declared.index.IndexKind.TheVariants.{Id, Z2, Z3, Xz2, Xz3, Attr}
use Rattle.gm_types.specs.Specification.{Specification}
use Rattle.gm_keys.specs.Key.{prefix_of, index_number, attribute_number, code_front, bin_front}
use Rattle.gm_keys.specs.Key.{bin_code_front}
use Rattle.gm_plan.specs.Inside.{is_inside}
use Rattle.gm_plan.specs.KeyRanges.{code_range}
use Rattle.gm_plan.specs.Spans.{end_of, end_or_none, spans_in}

-- ---- one of the shards
pub any_flat : {X Y : Type 0} (p : Y → Bool) (g : X → List Y) (x : X) (xs ys : List X)
    → list_any p (g x) ≡ true → list_any p (flat_map g (xs ++ (x ∷ ys))) ≡ true
any_flat p g x [] ys h =
    list_any-append p (g x) (flat_map g ys)
    ∙ or_left (list_any p (g x)) (list_any p (flat_map g ys)) h
any_flat p g x (z ∷ xs) ys h =
    list_any-append p (g z) (flat_map g (xs ++ (x ∷ ys)))
    ∙ or_right (list_any p (g z)) (list_any p (flat_map g (xs ++ (x ∷ ys))))
    (any_flat p g x xs ys h)

pub any_range : {Y : Type 0} (p : Y → Bool) (g : ℕ → List Y) (from n k : ℕ) → k < n
    → list_any p (g (from + k)) ≡ true → list_any p (flat_map g (range_with_len from n)) ≡ true
any_range p g from zero k less h = absurd (omega arith)
any_range p g from (suc n) zero less h =
    let e : from + 0 ≡ from = omega arith in
    list_any-append p (g from) (flat_map g (range_with_len (from + 1) n))
    ∙ or_left (list_any p (g from)) _ (subst (λ m. list_any p (g m) ≡ true) e h)
any_range p g from (suc n) (suc k) less h =
    let e : from + suc k ≡ (from + 1) + k = omega arith in
    list_any-append p (g from) (flat_map g (range_with_len (from + 1) n))
    ∙ or_right (list_any p (g from)) _
    (any_range p g (from + 1) n k (omega arith) (subst (λ m. list_any p (g m) ≡ true) e h))

-- ---- what begins with a prefix has an end
raised_some : (byte : ℕ) (o : Option (List ℕ)) → is_some o ≡ true → is_some (raised byte o) ≡ true
raised_some byte None h = absurd (true≢false (sym h))
raised_some byte (Some end) h = refl

below_full : (byte : ℕ) (b : Bool) → (byte == 255) ≡ b → byte < 255 → b ≡ false
below_full byte true e less = absurd (unlike byte (eqb-true byte 255 e) less)
  where
    unlike : (n : ℕ) → n ≡ 255 → n < 255 → ⊥
    unlike n p q = omega arith
below_full byte false e less = refl

raised_below : (b : Bool) (x : Option (List ℕ)) (y : List ℕ) → b ≡ false
    → is_some (if b then x else Some y) ≡ true
raised_below true x y e = absurd (true≢false e)
raised_below false x y e = refl

raised_low : (byte : ℕ) (o : Option (List ℕ)) → byte < 255 → is_some (raised byte o) ≡ true
raised_low byte None less =
    raised_below (byte == 255) None ((byte + 1) ∷ []) (below_full byte (byte == 255) refl less)
raised_low byte (Some end) less = refl

pub end_some : (front : List ℕ) (byte : ℕ) (rest : List ℕ) → byte < 255
    → is_some (after_of (front ++ (byte ∷ rest))) ≡ true
end_some [] byte rest less = raised_low byte (after_of rest) less
end_some (b ∷ front) byte rest less =
    raised_some b (after_of (front ++ (byte ∷ rest))) (end_some front byte rest less)

index_low : (kind : IndexKind) → index_number kind < 255
index_low Id = omega arith
index_low Z2 = omega arith
index_low Z3 = omega arith
index_low Xz2 = omega arith
index_low Xz3 = omega arith
index_low (Attr number) = omega arith

pub prefix_end : (s : Specification) (kind : IndexKind) (rest : List ℕ)
    → is_some (after_of (prefix_of s kind ++ rest)) ≡ true
unfolding prefix_of
prefix_end s kind rest =
    subst (λ xs. is_some (after_of xs) ≡ true)
    (sym (append_assoc (big_bytes 2 s.number) (index_number kind ∷ attribute_number kind) rest))
    (end_some (big_bytes 2 s.number) (index_number kind) (attribute_number kind ++ rest)
    (index_low kind))

pub prefix_end_alone : (s : Specification) (kind : IndexKind)
    → is_some (after_of (prefix_of s kind)) ≡ true
prefix_end_alone s kind =
    subst (λ xs. is_some (after_of xs) ≡ true) (append-nil (prefix_of s kind))
    (prefix_end s kind [])

-- ---- spans with such ends
by_end : (low : List ℕ) (o : Option (List ℕ)) (key : List ℕ) → is_some o ≡ true
    → is_from_to low o key ≡ is_within low (end_or_none o) key
by_end low None key h = absurd (true≢false (sym h))
by_end low (Some end) key h = refl

pub within_is : (low high key : List ℕ) → is_some (after_of high) ≡ true
    → is_within low (end_of high) key ≡ is_from_to low (after_of high) key
within_is low high key h = sym (by_end low (after_of high) key h)

pub code_end : (s : Specification) (kind : IndexKind) (shard code : ℕ)
    → is_some (after_of (code_front (prefix_of s kind) shard code)) ≡ true
unfolding code_front
code_end s kind shard code = prefix_end s kind (shard ∷ big_bytes 8 code)

pub bin_end : (s : Specification) (kind : IndexKind) (shard bin : ℕ)
    → is_some (after_of (bin_front (prefix_of s kind) shard bin)) ≡ true
unfolding bin_front
bin_end s kind shard bin = prefix_end s kind (shard ∷ big_bytes 2 bin)

pub bin_code_end : (s : Specification) (kind : IndexKind) (shard bin code : ℕ)
    → is_some (after_of (bin_code_front (prefix_of s kind) shard bin code)) ≡ true
unfolding bin_code_front
bin_code_end s kind shard bin code =
    prefix_end s kind (shard ∷ (big_bytes 2 bin ++ big_bytes 8 code))

-- ---- what the laws of keys say
pub record CodeLaws : Type 0 where
  pub codes : (t : Specification) (kind : IndexKind) (shard other low high code : ℕ) (id : List ℕ)
      → other < 256 → low < 2 ^ 64 → high < 2 ^ 64 → code < 2 ^ 64
      → is_from_to (code_front (prefix_of t kind) shard low)
      (after_of (code_front (prefix_of t kind) shard high))
      (code_front (prefix_of t kind) other code ++ id)
      ≡ ((shard == other) && (nat_le low code && nat_le code high))
  pub in_bin : (t : Specification) (kind : IndexKind) (shard other bin at low high code : ℕ)
      (id : List ℕ)
      → other < 256 → bin < 2 ^ 16 → at < 2 ^ 16 → low < 2 ^ 64 → high < 2 ^ 64 → code < 2 ^ 64
      → is_from_to (bin_code_front (prefix_of t kind) shard bin low)
      (after_of (bin_code_front (prefix_of t kind) shard bin high))
      (bin_code_front (prefix_of t kind) other at code ++ id)
      ≡ ((shard == other) && ((bin == at) && (nat_le low code && nat_le code high)))
  pub bins : (t : Specification) (kind : IndexKind) (shard other first last bin code : ℕ)
      (id : List ℕ)
      → other < 256 → first < 2 ^ 16 → last < 2 ^ 16 → bin < 2 ^ 16
      → is_from_to (bin_front (prefix_of t kind) shard first)
      (after_of (bin_front (prefix_of t kind) shard last))
      (bin_code_front (prefix_of t kind) other bin code ++ id)
      ≡ ((shard == other) && (nat_le first bin && nat_le bin last))

-- the ends of runs are codes of 64 bits
abbrev pub AreNarrow : List (ℕ × ℕ) → Type 0
AreNarrow runs = AllByRecursion (λ run. (run.0 < 2 ^ 64) × (run.1 < 2 ^ 64)) runs

-- a key is in the spans of its shard's runs where its code is in the runs
pub codes_inside : CodeLaws
    → (s : Specification) (kind : IndexKind) (shard level code : ℕ) (id : List ℕ)
    (runs : List (ℕ × ℕ)) → shard < 256 → AreNarrow runs → HasNumber runs code
    → is_inside (code_front (prefix_of s kind) shard code ++ id)
    (spans_in (prefix_of s kind) (map (code_range level) runs) shard) ≡ true
codes_inside laws s kind shard level code id [] few narrow has = absurd has
codes_inside laws s kind shard level code id (run ∷ runs) few narrow (inl has) =
    or_left _ (is_inside (code_front (prefix_of s kind) shard code ++ id)
    (spans_in (prefix_of s kind) (map (code_range level) runs) shard))
    (within_is (code_front (prefix_of s kind) shard run.0)
    (code_front (prefix_of s kind) shard run.1) (code_front (prefix_of s kind) shard code ++ id)
    (code_end s kind shard run.1)
    ∙ laws.codes s kind shard shard run.0 run.1 code id few narrow.0.0 narrow.0.1
    (below has.1 narrow.0.1)
    ∙ and_from (shard == shard) (nat_le run.0 code && nat_le code run.1) (eq_true shard)
    (and_from (nat_le run.0 code) (nat_le code run.1) (le_true run.0 code has.0)
    (le_true code run.1 has.1)))
  where
    below : {a b m : ℕ} → a ≤ b → b < m → a < m
    below h k = omega arith
codes_inside laws s kind shard level code id (run ∷ runs) few narrow (inr has) =
    or_right (is_within (code_front (prefix_of s kind) shard run.0)
    (end_of (code_front (prefix_of s kind) shard run.1))
    (code_front (prefix_of s kind) shard code ++ id)) _
    (codes_inside laws s kind shard level code id runs few narrow.1 has)
