-- Parts of a text.
use Rattle.std.proofs.Common.{◌≡◌, ◌≢◌, ℕ, suc, ◌+◌, ◌<◌, Bool, true, false, cond, List, []}
use Rattle.std.proofs.Common.{◌∷◌, ◌++◌, length, take, drop, get_or, Some, None, refl, sym, ◌∙◌, ap}
use Rattle.std.proofs.Common.{inl, inr, arith, add-one}
use Rattle.std.specs.Prelude.{◌⊎◌, if◌then◌else◌}
use Rattle.std.specs.List.{onto_first}
use Rattle.std.proofs.lemmas.Bool.{eq-eqb, ne_eqb}
use Rattle.std.proofs.Math.Seq.{take-suc}
use Rattle.gm_base.proofs.Options.{same_some}
use Rattle.gm_base.specs.Ascii.{is_blank}
use Rattle.gm_types.specs.Parts.{turned, ends_part, parts_from, parts_of, part_len, cut_once}
use Rattle.gm_types.specs.Parts.{before_end, trimmed_end}

pub cut_none : (mark : ℕ) (text : List ℕ) (n : ℕ) → n ≡ part_len mark false text → n ≡ length text
    → cut_once mark text ≡ None
unfolding cut_once
cut_none mark text n e h = rw (eq-eqb (part_len mark false text) (length text) (sym e ∙ h)) refl

pub cut_some : (mark : ℕ) (text : List ℕ) (n : ℕ) → n ≡ part_len mark false text → n ≢ length text
    → cut_once mark text ≡ Some (take n text, drop (n + 1) text)
unfolding cut_once
cut_some mark text n e h =
    rw (ne_eqb (part_len mark false text) (length text) (λ same. h (e ∙ same))) (rw e refl)

-- a blank at the end falls away, and another byte stays
end_blank : (b : ℕ) → is_blank b ≡ true → (xs : List ℕ)
    → trimmed_end (xs ++ b ∷ []) ≡ trimmed_end xs
end_blank b e [] = ap (λ t. cond t [] (b ∷ [])) e
end_blank b e (x ∷ xs) = ap (before_end x) (end_blank b e xs)

end_other : (b : ℕ) → is_blank b ≡ false → (xs : List ℕ) → trimmed_end (xs ++ b ∷ []) ≡ xs ++ b ∷ []
end_other b e [] = ap (λ t. cond t [] (b ∷ [])) e
end_other b e (x ∷ []) = ap (before_end x) (end_other b e [])
end_other b e (x ∷ y ∷ xs) = ap (before_end x) (end_other b e (y ∷ xs))

pub shorter_same : (text : List ℕ) (n : ℕ) → n < length text → is_blank (get_or text n 0) ≡ true
    → trimmed_end (take (suc n) text) ≡ trimmed_end (take n text)
shorter_same text n h e = rw (take-suc text n 0 h) (end_blank (get_or text n 0) e (take n text))

pub end_found : (text : List ℕ) (n : ℕ) → n < length text → is_blank (get_or text n 0) ≡ false
    → trimmed_end (take (suc n) text) ≡ take (suc n) text
end_found text n h e = rw (take-suc text n 0 h) (end_other (get_or text n 0) e (take n text))

-- one byte less, where that is a blank
pub one_less : (text : List ℕ) (n k : ℕ) → n ≡ suc k → k < length text
    → is_blank (get_or text k 0) ≡ true
    → trimmed_end (take k text) ≡ trimmed_end (take n text)
one_less text n k e h blank = rw e (sym (shorter_same text k h blank))

pub ended : (text : List ℕ) (n k : ℕ) → n ≡ suc k → k < length text
    → is_blank (get_or text k 0) ≡ false
    → take n text ≡ trimmed_end (take n text)
ended text n k e h other = rw e (sym (end_found text k h other))

pub none_left : (text : List ℕ) (n : ℕ) → n ≡ 0 → take n text ≡ trimmed_end (take n text)
none_left text n e = rw e refl

-- the first part has this length, and the others are those behind it
abbrev pub PartsAt : ℕ → List ℕ → List (List ℕ) → ℕ → Type 0
PartsAt mark text parts len =
    ((len ≡ length text) × (parts ≡ text ∷ []))
    ⊎ ((len < length text) × (parts ≡ take len text ∷ parts_of mark (drop (suc len) text)))

further : (mark byte : ℕ) (bytes : List ℕ) (parts : List (List ℕ)) (len next : ℕ) → next ≡ suc len
    → PartsAt mark bytes parts len
    → PartsAt mark (byte ∷ bytes) (onto_first byte parts) next
further mark byte bytes parts len next e (inl h) = inl (e ∙ ap suc h.0, ap (onto_first byte) h.1)
further mark byte bytes parts len next e (inr h) =
    inr (
      omega (arith, h.0),
      ap (onto_first byte) h.1
          ∙ ap (λ n. take n (byte ∷ bytes) ∷ parts_of mark (drop (suc n) (byte ∷ bytes))) (sym e),
    )

at_mark : (mark byte : ℕ) (bytes : List ℕ)
    → PartsAt mark (byte ∷ bytes) ([] ∷ parts_of mark bytes) 0
at_mark mark byte bytes = inr (omega arith, refl)

pub parts_first : (mark : ℕ) (open_quote : Bool) (text : List ℕ)
    → PartsAt mark text (parts_from mark open_quote text) (part_len mark open_quote text)
unfolding parts_from
parts_first mark open_quote [] = inl (refl, refl)
parts_first mark open_quote (byte ∷ bytes) =
    let next = part_len mark (turned open_quote byte) bytes in
    elim (ends_part mark open_quote byte) as (λ b. PartsAt mark (byte ∷ bytes)
    (if b then [] ∷ parts_from mark false bytes
    else onto_first byte (parts_from mark (turned open_quote byte) bytes))
    (if b then 0 else 1 + next)) [
      | true ↦ at_mark mark byte bytes
      | false ↦ further mark byte bytes (parts_from mark (turned open_quote byte) bytes) next
          (1 + next) (omega arith)
          (parts_first mark (turned open_quote byte) bytes)
    ]

pub some_none : {A : Type 0} (x : A) → Some x ≡ None → ⊥
some_none x e = cc

no_cut : (mark : ℕ) (text : List ℕ) → part_len mark false text < length text
    → cut_once mark text ≡ None → ⊥
no_cut mark text lt cut =
    some_none (take (part_len mark false text) text, drop (part_len mark false text + 1) text)
    (sym (cut_some mark text (part_len mark false text) refl (λ e. omega (arith, lt, e))) ∙ cut)

pub parts_none : (mark : ℕ) (text : List ℕ) → cut_once mark text ≡ None
    → parts_of mark text ≡ text ∷ []
parts_none mark text cut = go (parts_first mark false text)
  where
    go : PartsAt mark text (parts_of mark text) (part_len mark false text)
        → parts_of mark text ≡ text ∷ []
    go (inl h) = h.1
    go (inr h) = absurd (no_cut mark text h.0 cut)

-- the cut where there is one
pub record IsCut (mark : ℕ) (text part behind : List ℕ) : Type 0 where
  pub within : part_len mark false text < length text
  pub part_is : part ≡ take (part_len mark false text) text
  pub behind_is : behind ≡ drop (part_len mark false text + 1) text
  pub parts : parts_of mark text ≡ part ∷ parts_of mark behind

pub cut_at : (mark : ℕ) (text part behind : List ℕ) → cut_once mark text ≡ Some (part, behind)
    → IsCut mark text part behind
cut_at mark text part behind cut = go (parts_first mark false text)
  where
    go : PartsAt mark text (parts_of mark text) (part_len mark false text)
        → IsCut mark text part behind
    go (inl h) = absurd
        (some_none (part, behind)
        (sym cut ∙ cut_none mark text (part_len mark false text) refl h.0))
    go (inr h) =
        let lt : part_len mark false text < length text = h.0 in
        let same : (part, behind)
        ≡ (take (part_len mark false text) text, drop (part_len mark false text + 1) text) =
        same_some (part, behind)
        (take (part_len mark false text) text, drop (part_len mark false text + 1) text)
        (sym cut ∙ cut_some mark text (part_len mark false text) refl
        (λ e. omega (arith, lt, e))) in
        let front : part ≡ take (part_len mark false text) text = ap (λ p. p.0) same in
        let rest : behind ≡ drop (part_len mark false text + 1) text = ap (λ p. p.1) same in
        record {
          within = lt;
          part_is = front;
          behind_is = rest;
          parts = h.1 ∙ ap
              (λ p. p ∷ parts_of mark (drop (suc (part_len mark false text)) text)) (sym front)
              ∙ ap (λ n. part ∷ parts_of mark (drop n text))
              (sym (add-one (part_len mark false text)))
              ∙ ap (λ b. part ∷ parts_of mark b) (sym rest);
        }

pub parts_some : (mark : ℕ) (text part behind : List ℕ) → cut_once mark text ≡ Some (part, behind)
    → parts_of mark text ≡ part ∷ parts_of mark behind
parts_some mark text part behind cut = (cut_at mark text part behind cut).parts
