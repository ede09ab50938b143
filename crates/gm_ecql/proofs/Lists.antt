-- Lists of tokens: what the loop of the scanner keeps, and that a text spells at most one.
use Rattle.std.proofs.Common.{◌≡◌, ◌≢◌, ℕ, zero, suc, ◌+◌, ◌<◌, ◌≤◌, Bool, true, false, ◌||◌, ◌==◌}
use Rattle.std.proofs.Common.{nat_lt, List, [], ◌∷◌, ◌++◌, map, length, take, drop, Some, None}
use Rattle.std.proofs.Common.{refl, sym, ap, ◌∙◌, subst, arith, append_assoc, append-nil, eqb-true}
use Rattle.std.proofs.Common.{length-append, length-drop, inl, inr}
use Rattle.std.specs.List.{prefix_len}
use Rattle.std.proofs.lemmas.Bool.Decides.{nat_tests}
use Rattle.gm_base.proofs.Lists.{take_drop, run_passes}
use Rattle.gm_base.proofs.Options.{same_pair}
use Rattle.gm_ecql.specs.Token.{Seen, a_keyword, a_name, a_text, an_instant, a_number, a_symbol}
use Rattle.gm_base.specs.Ascii.{is_blank}
use Rattle.gm_ecql.specs.Token.{is_word_start, is_number_start, is_some_list, Stops, Starts}
use Rattle.gm_ecql.specs.Token.{symbol_text, IsPiece, IsFirst, IsUnspaced, Spells, SpellsTokens}
use Rattle.gm_calendar.specs.Spelling.{has_date_form}
use Rattle.gm_ecql.specs.declared.token.Symbol.{Symbol}
use Rattle.gm_ecql.specs.declared.token.Symbol.TheVariants as symbol
use Rattle.gm_ecql.specs.Scanner.{Found, token_at, skip_blanks}
use Rattle.gm_ecql.proofs.Scans.{take_run, drop_run}
use Rattle.gm_ecql.proofs.Sound.{token_sound}
use Rattle.gm_ecql.proofs.Complete.{token_complete}

-- no token begins with a blank
token_blank : (b : ℕ) (bs : List ℕ) → is_blank b ≡ true → token_at (b ∷ bs) ≡ None
unfolding token_at
token_blank b bs e =
    elim (b == 32) as (λ x. (b == 32) ≡ x → (x || b == 9) ≡ true → token_at (b ∷ bs) ≡ None) [
      | true ↦ λ h e. subst (λ z. token_at (z ∷ bs) ≡ None) (sym (eqb-true b 32 h)) refl
      | false ↦ λ h e. subst (λ z. token_at (z ∷ bs) ≡ None) (sym (eqb-true b 9 e)) refl
    ] refl e

pub token_nil : token_at [] ≡ None
unfolding token_at
token_nil = refl

pub no_found : {P : Type 0} (o : Found) (t : Seen) (r : List ℕ) → o ≡ None → o ≡ Some (t, r) → P
no_found o t r e f = absurd (none (sym e ∙ f))
  where
    none : ◌≡◌ {A = Found} None (Some (t, r)) → ⊥
    none h = absurd (cc)

-- where a token stands first, no blank does
token_bare : (bytes : List ℕ) (t : Seen) (r : List ℕ) → token_at bytes ≡ Some (t, r)
    → Stops is_blank bytes
token_bare [] t r e = tt
token_bare (b ∷ bs) t r e = elim (is_blank b) as (λ x. is_blank b ≡ x → is_blank b ≡ false) [
  | true ↦ λ h. no_found (token_at (b ∷ bs)) t r (token_blank b bs h) e
  | false ↦ λ h. h
] refl

-- what stands first, and what the scanner finds behind the blanks
pub first_found : (bytes : List ℕ) (spaced : Bool) (t : Seen) (rest : List ℕ)
    → IsFirst bytes spaced t rest
    → (token_at (skip_blanks bytes) ≡ Some (t, rest))
    × (spaced ≡ is_some_list (take (prefix_len is_blank bytes) bytes))
first_found bytes spaced t rest f =
    let c = token_complete t f.piece rest f.spelled in
    let bare = token_bare (f.piece ++ rest) t rest c in (
      ap (λ z. token_at (skip_blanks z)) f.written
          ∙ ap token_at (drop_run is_blank f.blanks (f.piece ++ rest) f.blank bare) ∙ c,
      f.told ∙ ap is_some_list (sym (take_run is_blank f.blanks (f.piece ++ rest) f.blank bare))
          ∙ ap (λ z. is_some_list (take (prefix_len is_blank z) z)) (sym f.written),
    )

pub found_first : (bytes : List ℕ) (spaced : Bool) (t : Seen) (rest : List ℕ)
    → token_at (skip_blanks bytes) ≡ Some (t, rest)
    → spaced ≡ is_some_list (take (prefix_len is_blank bytes) bytes) → IsFirst bytes spaced t rest
found_first bytes spaced t rest e told =
    let a = token_sound (skip_blanks bytes) t rest e in
    record {
      blanks = take (prefix_len is_blank bytes) bytes;
      piece = a.piece;
      written = take_drop (prefix_len is_blank bytes) bytes
          ∙ ap (λ z. take (prefix_len is_blank bytes) bytes ++ z) a.written;
      blank = run_passes is_blank bytes;
      told = told;
      spelled = a.spelled;
    }

-- a text spells at most one list
pub one_list : (bytes : List ℕ) (ts us : List (Bool × Seen)) → Spells bytes ts
    → Spells bytes us → ts ≡ us
one_list bytes [] [] s r = refl
one_list bytes [] (u ∷ us) s r =
    no_found (token_at (skip_blanks bytes)) u.1 r.0
    (ap (λ z. token_at (skip_blanks z)) s ∙ token_nil) (first_found bytes u.0 u.1 r.0 r.1).0
one_list bytes (t ∷ ts) [] s r =
    no_found (token_at (skip_blanks bytes)) t.1 s.0
    (ap (λ z. token_at (skip_blanks z)) r ∙ token_nil) (first_found bytes t.0 t.1 s.0 s.1).0
one_list bytes (t ∷ ts) (u ∷ us) s r =
    let f = first_found bytes t.0 t.1 s.0 s.1 in
    let g = first_found bytes u.0 u.1 r.0 r.1 in
    let same = same_pair t.1 u.1 s.0 r.0 (sym f.0 ∙ g.0) in
    let behind : ts ≡ us = one_list s.0 ts us s.2 (subst (λ z. Spells z us) (sym same.1) r.2) in
    pair t u ts us (f.1 ∙ sym g.1) same.0 behind
  where
    pair : (t u : Bool × Seen) (ts us : List (Bool × Seen)) → t.0 ≡ u.0 → t.1 ≡ u.1 → ts ≡ us
        → t ∷ ts ≡ u ∷ us
    pair t u ts us e f g = ap (λ z. (z, t.1) ∷ ts) e ∙ ap (λ z. (u.0, z) ∷ ts) f ∙ ap (λ z. u ∷ z) g

-- the tokens in front, and those that the rest spells
pub record Rest (front : List (Bool × Seen)) (rest : List ℕ)
    (ts : List (Bool × Seen)) : Type 0 where
  pub more : List (Bool × Seen)
  pub same : ts ≡ front ++ more
  pub spelled : Spells rest more

pub record Keeps (text rest : List ℕ) (front : List (Bool × Seen)) : Type 0 where
  pub found : (ts : List (Bool × Seen)) → Spells rest ts → Spells text (front ++ ts)
  pub only : (ts : List (Bool × Seen)) → Spells text ts → Rest front rest ts

positive : (n : ℕ) → nat_lt 0 (suc n) ≡ true
positive n = grind (arith, nat_tests)

told_blank : (n : ℕ) (s : List ℕ) → n ≤ length s → nat_lt 0 n ≡ is_some_list (take n s)
told_blank zero s h = refl
told_blank (suc n) [] h = absurd (omega arith)
told_blank (suc n) (b ∷ s) h = positive n

rest_step : (rest after : List ℕ) (spaced : Bool) (t : Seen) (front ts : List (Bool × Seen))
    → (rest ≢ []) → token_at (skip_blanks rest) ≡ Some (t, after)
    → spaced ≡ is_some_list (take (prefix_len is_blank rest) rest) → Rest front rest ts
    → Rest (front ++ (spaced, t) ∷ []) after ts
rest_step rest after spaced t front ts some e told r = with_more r.more r.same r.spelled
  where
    with_more : (more : List (Bool × Seen)) → ts ≡ front ++ more → Spells rest more
        → Rest (front ++ (spaced, t) ∷ []) after ts
    with_more [] same s = absurd (some s)
    with_more (u ∷ us) same s =
        let f = first_found rest u.0 u.1 s.0 s.1 in
        let is = same_pair u.1 t s.0 after (sym f.0 ∙ e) in
        let head : u ≡ (spaced, t) =
        ap (λ z. (z, u.1)) (f.1 ∙ sym told) ∙ ap (λ z. (spaced, z)) is.0 in
        record {
          more = us;
          same = same ∙ ap (λ z. front ++ z ∷ us) head
              ∙ sym (append_assoc front ((spaced, t) ∷ []) us);
          spelled =
              subst (λ z. Spells z us) is.1 s.2;
        }

pub keeps_step : (text rest after : List ℕ) (spaced : Bool) (t : Seen) (n : ℕ)
    (front new : List (Bool × Seen)) → (rest ≢ []) → n ≡ prefix_len is_blank rest → n ≤ length rest
    → spaced ≡ nat_lt 0 n → token_at (drop n rest) ≡ Some (t, after)
    → new ≡ front ++ (spaced, t) ∷ [] → Keeps text rest front → Keeps text after new
keeps_step text rest after spaced t n front new some count within blank e more k =
    let found : token_at (skip_blanks rest) ≡ Some (t, after) =
    ap (λ z. token_at (drop z rest)) (sym count) ∙ e in
    let told : spaced ≡ is_some_list (take (prefix_len is_blank rest) rest) =
    blank ∙ told_blank n rest within ∙ ap (λ z. is_some_list (take z rest)) count in
    subst (λ z. Keeps text after z) (sym more) (record {
      found = λ ts s. subst (λ z. Spells text z) (sym (append_assoc front ((spaced, t) ∷ []) ts))
          (k.found ((spaced, t) ∷ ts) (after, found_first rest spaced t after found told, s));
      only = λ ts s. rest_step rest after spaced t front ts some found told (k.only ts s);
    })

pub keeps_none : (text rest : List ℕ) (n : ℕ) (front ts : List (Bool × Seen)) → (rest ≢ [])
    → n ≡ prefix_len is_blank rest → token_at (drop n rest) ≡ None → Keeps text rest front
    → Spells text ts → ⊥
keeps_none text rest n front ts some count e k s = let r = k.only ts s in with_more r.more r.spelled
  where
    with_more : (more : List (Bool × Seen)) → Spells rest more → ⊥
    with_more [] s = some s
    with_more (u ∷ us) s =
        no_found (token_at (skip_blanks rest)) u.1 s.0
        (ap (λ z. token_at (drop z rest)) (sym count) ∙ e) (first_found rest u.0 u.1 s.0 s.1).0

pub keeps_end : (text rest : List ℕ) (front : List (Bool × Seen)) → rest ≡ []
    → Keeps text rest front → Spells text front
keeps_end text rest front e k = subst (λ z. Spells text z) (append-nil front) (k.found [] e)

no_date_nil : (bytes : List ℕ) → has_date_form (take 10 bytes) ≡ true → 0 < length bytes
no_date_nil [] e = absurd (cc)
no_date_nil (b ∷ bytes) e = omega arith

some_start : (test : ℕ → Bool) (bytes : List ℕ) → Starts test bytes → 0 < length bytes
some_start test [] s = absurd s
some_start test (b ∷ bytes) s = omega arith

symbol_some : (s : Symbol) → 0 < length (symbol_text s)
symbol_some symbol.Opening = omega arith
symbol_some symbol.Closing = omega arith
symbol_some symbol.Comma = omega arith
symbol_some symbol.Equal = omega arith
symbol_some symbol.NotEqual = omega arith
symbol_some symbol.Less = omega arith
symbol_some symbol.AtMost = omega arith
symbol_some symbol.More = omega arith
symbol_some symbol.AtLeast = omega arith
symbol_some symbol.Slash = omega arith

piece_some : (t : Seen) (piece rest : List ℕ) → IsPiece piece t rest → 0 < length piece
piece_some (a_keyword k) piece rest p = some_start is_word_start piece p.word.starts
piece_some (a_name bytes) piece rest (inl p) = some_start is_word_start piece p.word.starts
piece_some (a_name bytes) piece rest (inr p) =
    subst (λ z. 0 < length z) (sym p.written) (omega arith)
piece_some (a_text bytes) piece rest p = subst (λ z. 0 < length z) (sym p.written) (omega arith)
piece_some (an_instant ms) piece rest p = no_date_nil piece p.date
piece_some (a_number bytes) piece rest p =
    subst (λ z. 0 < length z) (sym p.written) (some_start is_number_start bytes p.starts)
piece_some (a_symbol s) piece rest p = subst (λ z. 0 < length z) (sym p.written) (symbol_some s)

pub token_shorter : (rest after : List ℕ) (t : Seen) (n : ℕ)
    → token_at (drop n rest) ≡ Some (t, after) → length after < length rest
token_shorter rest after t n e =
    let a = token_sound (drop n rest) t after e in
    let some = piece_some t a.piece after a.spelled in
    let len : length (drop n rest) ≡ length a.piece + length after =
    ap length a.written ∙ length-append a.piece after in
    omega (arith, some, len, length-drop n rest)

map_push : {A B : Type 0} (f : A → B) (xs : List A) (x : A)
    → map f (xs ++ x ∷ []) ≡ map f xs ++ f x ∷ []
map_push f [] x = refl
map_push f (y ∷ xs) x = ap (λ z. f y ∷ z) (map_push f xs x)

pub mapped_push : {A B : Type 0} (f : A → B) (xs new : List A) (x : A) → new ≡ xs ++ x ∷ []
    → map f new ≡ map f xs ++ f x ∷ []
mapped_push f xs new x e = ap (map f) e ∙ map_push f xs x

pub empty_list : (s : List ℕ) (b : Bool) → b ≡ (length s == 0) → b ≡ true → s ≡ []
empty_list [] b e h = refl
empty_list (x ∷ s) b e h = absurd (omega (arith, eqb-true (length (x ∷ s)) 0 (sym e ∙ h)))

pub some_list : (s : List ℕ) (b : Bool) → b ≡ (length s == 0) → b ≡ false → s ≢ []
some_list s b e h k = let bad : true ≡ false =
    ap (λ z. length z == 0) (sym k) ∙ sym e ∙ h in absurd (cc)

-- where no blank stands first, none stands before the first token
blanks_none : (bytes : List ℕ) → prefix_len is_blank bytes ≡ 0
    → is_some_list (take (prefix_len is_blank bytes) bytes) ≡ false
blanks_none bytes e = ap (λ n. is_some_list (take n bytes)) e

pub unspaced_without_blank : (bytes : List ℕ) (ts : List (Bool × Seen))
    → prefix_len is_blank bytes ≡ 0 → Spells bytes ts → IsUnspaced ts
unspaced_without_blank bytes [] e s = tt
unspaced_without_blank bytes (t ∷ ts) e s =
    (first_found bytes t.0 t.1 s.0 s.1).1 ∙ blanks_none bytes e

blanks_some : (bytes : List ℕ) → 0 < prefix_len is_blank bytes
    → is_some_list (take (prefix_len is_blank bytes) bytes) ≡ true
blanks_some [] h = absurd (omega arith)
blanks_some (b ∷ bs) h = some_front (prefix_len is_blank (b ∷ bs)) h
  where
    some_front : (n : ℕ) → 0 < n → is_some_list (take n (b ∷ bs)) ≡ true
    some_front zero h = absurd (omega arith)
    some_front (suc n) h = refl

-- a text with a blank first spells no list without one
pub blank_spells_none : (bytes : List ℕ) (ts : List (Bool × Seen)) → 0 < prefix_len is_blank bytes
    → SpellsTokens bytes ts → ⊥
blank_spells_none bytes [] h s = absurd (none bytes s.spelled h)
  where
    none : (bytes : List ℕ) → bytes ≡ [] → 0 < prefix_len is_blank bytes → ⊥
    none [] e h = absurd (omega arith)
    none (b ∷ bs) e h = absurd (cc)
blank_spells_none bytes (t ∷ ts) h s =
    let told = (first_found bytes t.0 t.1 s.spelled.0 s.spelled.1).1 in
    let both : true ≡ false = sym (blanks_some bytes h) ∙ sym told ∙ s.unspaced in
    absurd (cc)
