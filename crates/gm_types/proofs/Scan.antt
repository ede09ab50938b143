-- Texts laid end to end, and the cuts that find them again.
use Rattle.std.proofs.Common.{◌≡◌, ℕ, suc, ◌+◌, Bool, true, false, ◌&&◌, ◌==◌, cond, List, [], ◌∷◌}
use Rattle.std.proofs.Common.{◌++◌, length, drop, Option, Some, None, refl, sym, ◌∙◌, ap}
use Rattle.std.proofs.Common.{arith, add-one}
use Rattle.std.specs.Prelude.{not, if◌then◌else◌, option_and_then}
use Rattle.std.specs.List.{list_all, prefix_len, onto_first, join_with_byte}
use Rattle.std.proofs.lemmas.Bool.{and_parts, eq-eqb, not-true}
use Rattle.std.proofs.lemmas.List.{length-append}
use Rattle.gm_base.proofs.Options.{same_some}
use Rattle.gm_base.proofs.Lists.{take_front}
use Rattle.gm_base.specs.Ascii.{is_blank}
use Rattle.gm_types.specs.Parts.{turned, ends_part, parts_from, parts_of, part_len, cut_once}
use Rattle.gm_types.specs.Parts.{before_end, trimmed_end, trimmed}
use Rattle.gm_types.proofs.Cuts.{cut_none, cut_some, some_none}

-- whether a quote is open behind a text in which no part ends, and nothing where one does
abbrev pub scan : ℕ → Bool → List ℕ → Option Bool
scan mark open_quote [] = Some open_quote
scan mark open_quote (b ∷ bytes) =
    if ends_part mark open_quote b then None else scan mark (turned open_quote b) bytes

-- a text in which no part ends, with each quote closed
pub record IsWhole (mark : ℕ) (text : List ℕ) : Type 0 where
  pub scanned : scan mark false text ≡ Some false

scan_append : (mark : ℕ) (open_quote : Bool) (xs ys : List ℕ)
    → scan mark open_quote (xs ++ ys)
    ≡ option_and_then (λ o. scan mark o ys) (scan mark open_quote xs)
scan_append mark open_quote [] ys = refl
scan_append mark open_quote (b ∷ xs) ys =
    elim (ends_part mark open_quote b) as
    (λ e. (if e then None else scan mark (turned open_quote b) (xs ++ ys))
    ≡ option_and_then (λ o. scan mark o ys)
    (if e then None else scan mark (turned open_quote b) xs)) [
      | true ↦ refl
      | false ↦ scan_append mark (turned open_quote b) xs ys
    ]

pub whole_append : (mark : ℕ) (xs ys : List ℕ) → IsWhole mark xs → IsWhole mark ys
    → IsWhole mark (xs ++ ys)
whole_append mark xs ys x y = record {
  scanned = scan_append mark false xs ys
      ∙ ap (option_and_then (λ o. scan mark o ys)) x.scanned ∙ y.scanned;
}

-- bytes that are neither the mark nor a quote
abbrev pub is_plain : ℕ → ℕ → Bool
is_plain mark b = not (b == mark) && not (b == 39)

plain_step : (mark b : ℕ) (bytes : List ℕ) → is_plain mark b ≡ true
    → scan mark false (b ∷ bytes) ≡ scan mark false bytes
plain_step mark b bytes h =
    let parts = and_parts (not (b == mark)) (not (b == 39)) h in
    ap (λ e. if e then None else scan mark (turned false b) bytes) (not-true (b == mark) parts.0)
    ∙ ap (λ e. scan mark (if e then true else false) bytes) (not-true (b == 39) parts.1)

plain_scan : (mark : ℕ) (bytes : List ℕ) → list_all (is_plain mark) bytes ≡ true
    → scan mark false bytes ≡ Some false
plain_scan mark [] h = refl
plain_scan mark (b ∷ bytes) h =
    let parts = and_parts (is_plain mark b) (list_all (is_plain mark) bytes) h in
    plain_step mark b bytes parts.0 ∙ plain_scan mark bytes parts.1

pub whole_plain : (mark : ℕ) (bytes : List ℕ) → list_all (is_plain mark) bytes ≡ true
    → IsWhole mark bytes
whole_plain mark bytes h = record { scanned = plain_scan mark bytes h }

-- between quotes anything but a quote may stand
inside_step : (mark b : ℕ) (bytes : List ℕ) → not (b == 39) ≡ true
    → scan mark true (b ∷ bytes) ≡ scan mark true bytes
inside_step mark b bytes h =
    ap (λ e. scan mark (if e then false else true) bytes) (not-true (b == 39) h)

inside : (mark : ℕ) (bytes : List ℕ) → list_all (λ b. not (b == 39)) bytes ≡ true
    → scan mark true (bytes ++ 39 ∷ []) ≡ Some false
inside mark [] h = refl
inside mark (b ∷ bytes) h =
    let parts = and_parts (not (b == 39)) (list_all (λ c. not (c == 39)) bytes) h in
    inside_step mark b (bytes ++ 39 ∷ []) parts.0 ∙ inside mark bytes parts.1

pub whole_quoted : (mark : ℕ) (bytes : List ℕ) → (39 == mark) ≡ false
    → list_all (λ b. not (b == 39)) bytes ≡ true → IsWhole mark (39 ∷ (bytes ++ 39 ∷ []))
whole_quoted mark bytes e h = record {
  scanned = ap (λ t. if t then None else scan mark true (bytes ++ 39 ∷ [])) e ∙ inside mark bytes h;
}

-- the parts of texts with a mark between them
parts_at : (mark : ℕ) (open_quote : Bool) (text rest : List ℕ)
    → scan mark open_quote text ≡ Some false
    → parts_from mark open_quote (text ++ mark ∷ rest) ≡ text ∷ parts_of mark rest
unfolding parts_from
parts_at mark open_quote [] rest e =
    let closed : open_quote ≡ false = same_some open_quote false e in
    ap (λ o. if not o && (mark == mark) then [] ∷ parts_from mark false rest
    else onto_first mark (parts_from mark (turned o mark) rest)) closed
    ∙ ap (λ b. if b then [] ∷ parts_from mark false rest
    else onto_first mark (parts_from mark (turned false mark) rest)) (eq-eqb mark mark refl)
parts_at mark open_quote (b ∷ text) rest e =
    go (ends_part mark open_quote b) e (parts_at mark (turned open_quote b) text rest)
  where
    go : (t : Bool) → (if t then None else scan mark (turned open_quote b) text) ≡ Some false
        → (scan mark (turned open_quote b) text ≡ Some false
        → parts_from mark (turned open_quote b) (text ++ mark ∷ rest) ≡ text ∷ parts_of mark rest)
        → (if t then [] ∷ parts_from mark false (text ++ mark ∷ rest)
        else onto_first b (parts_from mark (turned open_quote b) (text ++ mark ∷ rest)))
        ≡ (b ∷ text) ∷ parts_of mark rest
    go true h rec = absurd (some_none false (sym h))
    go false h rec = ap (onto_first b) (rec h)

parts_end : (mark : ℕ) (open_quote o : Bool) (text : List ℕ) → scan mark open_quote text ≡ Some o
    → parts_from mark open_quote text ≡ text ∷ []
unfolding parts_from
parts_end mark open_quote o [] e = refl
parts_end mark open_quote o (b ∷ text) e =
    go (ends_part mark open_quote b) e (parts_end mark (turned open_quote b) o text)
  where
    go : (t : Bool) → (if t then None else scan mark (turned open_quote b) text) ≡ Some o
        → (scan mark (turned open_quote b) text ≡ Some o
        → parts_from mark (turned open_quote b) text ≡ text ∷ [])
        → (if t then [] ∷ parts_from mark false text
        else onto_first b (parts_from mark (turned open_quote b) text)) ≡ (b ∷ text) ∷ []
    go true h rec = absurd (some_none o (sym h))
    go false h rec = ap (onto_first b) (rec h)

-- each text is whole
abbrev pub AreWhole : ℕ → List (List ℕ) → Type 0
AreWhole mark [] = Unit {0}
AreWhole mark (text ∷ texts) = IsWhole mark text × AreWhole mark texts

pub parts_join : (mark : ℕ) (text : List ℕ) (texts : List (List ℕ)) → AreWhole mark (text ∷ texts)
    → parts_of mark (join_with_byte mark (text ∷ texts)) ≡ text ∷ texts
parts_join mark text [] h = parts_end mark false false text h.0.scanned
parts_join mark text (next ∷ texts) h =
    parts_at mark false text (join_with_byte mark (next ∷ texts)) h.0.scanned
    ∙ ap (λ t. text ∷ t) (parts_join mark next texts h.1)

-- the first cut
len_at : (mark : ℕ) (open_quote : Bool) (text rest : List ℕ)
    → scan mark open_quote text ≡ Some false
    → part_len mark open_quote (text ++ mark ∷ rest) ≡ length text
len_at mark open_quote [] rest e =
    let closed : open_quote ≡ false = same_some open_quote false e in
    ap (λ o. if not o && (mark == mark) then 0 else 1 + part_len mark (turned o mark) rest) closed
    ∙ ap (λ b. if b then 0 else 1 + part_len mark (turned false mark) rest) (eq-eqb mark mark refl)
len_at mark open_quote (b ∷ text) rest e =
    go (ends_part mark open_quote b) e (len_at mark (turned open_quote b) text rest)
  where
    go : (t : Bool) → (if t then None else scan mark (turned open_quote b) text) ≡ Some false
        → (scan mark (turned open_quote b) text ≡ Some false
        → part_len mark (turned open_quote b) (text ++ mark ∷ rest) ≡ length text)
        → (if t then 0 else 1 + part_len mark (turned open_quote b) (text ++ mark ∷ rest))
        ≡ suc (length text)
    go true h rec = absurd (some_none false (sym h))
    go false h rec = let same = rec h in omega (arith, same)

len_end : (mark : ℕ) (open_quote o : Bool) (text : List ℕ) → scan mark open_quote text ≡ Some o
    → part_len mark open_quote text ≡ length text
len_end mark open_quote o [] e = refl
len_end mark open_quote o (b ∷ text) e =
    go (ends_part mark open_quote b) e (len_end mark (turned open_quote b) o text)
  where
    go : (t : Bool) → (if t then None else scan mark (turned open_quote b) text) ≡ Some o
        → (scan mark (turned open_quote b) text ≡ Some o
        → part_len mark (turned open_quote b) text ≡ length text)
        → (if t then 0 else 1 + part_len mark (turned open_quote b) text) ≡ suc (length text)
    go true h rec = absurd (some_none o (sym h))
    go false h rec = let same = rec h in omega (arith, same)

drop_front : (mark : ℕ) (text rest : List ℕ) → drop (suc (length text)) (text ++ mark ∷ rest) ≡ rest
drop_front mark [] rest = refl
drop_front mark (b ∷ text) rest = drop_front mark text rest

pub cut_whole : (mark : ℕ) (text rest : List ℕ) → IsWhole mark text
    → cut_once mark (text ++ mark ∷ rest) ≡ Some (text, rest)
cut_whole mark text rest h =
    let len = len_at mark false text rest h.scanned in
    cut_some mark (text ++ mark ∷ rest) (length text) (sym len)
    (λ e. omega (arith, e, length-append text (mark ∷ rest)))
    ∙ ap (λ front. Some (front, drop (length text + 1) (text ++ mark ∷ rest)))
    (take_front text (mark ∷ rest))
    ∙ ap (λ n. Some (text, drop n (text ++ mark ∷ rest))) (add-one (length text))
    ∙ ap (λ back. Some (text, back)) (drop_front mark text rest)

pub uncut_whole : (mark : ℕ) (text : List ℕ) → IsWhole mark text → cut_once mark text ≡ None
uncut_whole mark text h =
    cut_none mark text (length text) (sym (len_end mark false false text h.scanned)) refl

-- blanks at the ends
skip_before : (blanks text : List ℕ) → list_all is_blank blanks ≡ true
    → drop (prefix_len is_blank (blanks ++ text)) (blanks ++ text)
    ≡ drop (prefix_len is_blank text) text
skip_before [] text h = refl
skip_before (b ∷ blanks) text h =
    let parts = and_parts (is_blank b) (list_all is_blank blanks) h in
    ap (λ t. drop (cond t (1 + prefix_len is_blank (blanks ++ text)) 0) (b ∷ (blanks ++ text)))
    parts.0
    ∙ ap (λ n. drop n (b ∷ (blanks ++ text))) (one_more (prefix_len is_blank (blanks ++ text)))
    ∙ skip_before blanks text parts.1
  where
    one_more : (n : ℕ) → 1 + n ≡ suc n
    one_more n = omega arith

keep_start : (b : ℕ) (text : List ℕ) → is_blank b ≡ false
    → drop (prefix_len is_blank (b ∷ text)) (b ∷ text) ≡ b ∷ text
keep_start b text e = ap (λ t. drop (cond t (1 + prefix_len is_blank text) 0) (b ∷ text)) e

end_none : (blanks : List ℕ) → list_all is_blank blanks ≡ true → trimmed_end blanks ≡ []
end_none [] h = refl
end_none (b ∷ blanks) h =
    let parts = and_parts (is_blank b) (list_all is_blank blanks) h in
    ap (before_end b) (end_none blanks parts.1) ∙ ap (λ t. if t then [] else b ∷ []) parts.0

-- a text whose last byte is no blank, with blanks behind it
end_kept : (text : List ℕ) (last : ℕ) (blanks : List ℕ) → is_blank last ≡ false
    → list_all is_blank blanks ≡ true
    → trimmed_end ((text ++ last ∷ []) ++ blanks) ≡ text ++ last ∷ []
end_kept [] last blanks e h =
    ap (before_end last) (end_none blanks h) ∙ ap (λ t. if t then [] else last ∷ []) e
end_kept (b ∷ []) last blanks e h = ap (before_end b) (end_kept [] last blanks e h)
end_kept (b ∷ c ∷ text) last blanks e h = ap (before_end b) (end_kept (c ∷ text) last blanks e h)

-- a text that begins and ends with bytes that are no blanks
pub record IsTight (text : List ℕ) : Type 0 where
  pub first : ℕ
  pub rest : List ℕ
  pub front : List ℕ
  pub last : ℕ
  pub begins : text ≡ first ∷ rest
  pub ends : text ≡ front ++ last ∷ []
  pub first_kept : is_blank first ≡ false
  pub last_kept : is_blank last ≡ false

pub trimmed_tight : (before text after : List ℕ) → list_all is_blank before ≡ true
    → list_all is_blank after ≡ true → IsTight text
    → trimmed (before ++ (text ++ after)) ≡ text
trimmed_tight before text after b a tight =
    ap trimmed_end (skip_before before (text ++ after) b)
    ∙ ap (λ t. trimmed_end (drop (prefix_len is_blank (t ++ after)) (t ++ after))) tight.begins
    ∙ ap trimmed_end (keep_start tight.first (tight.rest ++ after) tight.first_kept)
    ∙ ap (λ t. trimmed_end (t ++ after)) (sym tight.begins ∙ tight.ends)
    ∙ end_kept tight.front tight.last after tight.last_kept a ∙ sym tight.ends
