-- What the scanner finds is a piece that spells the token.
use Rattle.std.proofs.Common.{◌≡◌, ℕ, suc, ◌+◌, ◌-◌, Bool, true, false, ◌&&◌, ◌||◌, ◌==◌, cond}
use Rattle.std.proofs.Common.{List, [], ◌∷◌, ◌++◌, length, take, drop, Option, Some, None, refl}
use Rattle.std.proofs.Common.{sym, ap, ◌∙◌, subst, arith, eqb-true, append_assoc, ◌⊎◌, inl, inr}
use Rattle.std.specs.Prelude.{ℤ, IsSome}
use Rattle.std.specs.List.{list_all, prefix_len}
use Rattle.std.proofs.lemmas.Bool.Decides.{nat_tests}
use Rattle.gm_base.proofs.Lists.{run_passes, take_drop, take_front}
use Rattle.gm_base.proofs.Options.{same_some, same_pair}
use Rattle.gm_geom.specs.Number.{number_of}
use Rattle.gm_calendar.specs.Spelling.{instant_of, has_date_form, is_instant_byte}
use Rattle.gm_ecql.specs.declared.token.Symbol.{Symbol}
use Rattle.gm_ecql.specs.declared.token.Symbol.TheVariants as symbol
use Rattle.gm_ecql.specs.Token.{Seen, a_keyword, a_name, a_text, an_instant, a_number, a_symbol}
use Rattle.gm_ecql.specs.Token.{is_word_start, is_word_byte, is_no_double, is_single}
use Rattle.gm_ecql.specs.Token.{is_number_start, is_number_tail, is_sign, doubled, undoubled}
use Rattle.gm_ecql.specs.Token.{undoubled_from, Stops, Starts, IsPiece, IsWord, IsNumberPiece}
use Rattle.gm_ecql.specs.Token.{SymbolEnds, symbol_text}
use Rattle.std.specs.Prelude.{IsUtf8}
use Rattle.std.specs.Str.{is_utf8}
use Rattle.std.proofs.lemmas.Str.{IsUtf8-from_is_utf8}
use Rattle.gm_ecql.specs.declared.keyword.Keyword.{Keyword}
use Rattle.gm_ecql.specs.Keyword.{keyword_of}
use Rattle.gm_ecql.specs.Scanner.{Found, if_utf8, a_name_then, a_text_then, a_number_then, as_word}
use Rattle.gm_ecql.specs.Scanner.{word_at, name_at, closed_name, text_end, text_cut, text_at}
use Rattle.gm_ecql.specs.Scanner.{if_instant, is_e, goes_on, number_end, if_number, number_at}
use Rattle.gm_ecql.specs.Scanner.{less_at, more_at, as_symbol, symbol_at, token_at}
use Rattle.gm_ecql.proofs.Dates.{ten_ahead}
use Rattle.gm_ecql.proofs.Scans.{run_stops}

pub chosen : {A : Type 0} (b : Bool) (x y z : A) → cond b x y ≡ z
    → ((b ≡ true) × (x ≡ z)) ⊎ ((b ≡ false) × (y ≡ z))
chosen true x y z h = inl (refl, h)
chosen false x y z h = inr (refl, h)

pub record At (bytes : List ℕ) (t : Seen) (rest : List ℕ) : Type 0 where
  pub piece : List ℕ
  pub written : bytes ≡ piece ++ rest
  pub spelled : IsPiece piece t rest

-- a piece for what was given
given : (bytes piece r rest : List ℕ) (u t : Seen) → ◌≡◌ {A = Found} (Some (u, r)) (Some (t, rest))
    → bytes ≡ piece ++ r → IsPiece piece u r → At bytes t rest
given bytes piece r rest u t e w s =
    let p = same_pair u t r rest e in
    subst (λ x. At bytes x rest) p.0
    (subst (λ x. At bytes u x) p.1 (record { piece = piece; written = w; spelled = s }))

no_none : {P : Type 0} (t : Seen) (rest : List ℕ) → ◌≡◌ {A = Found} None (Some (t, rest)) → P
no_none t rest e = absurd (cc)

word_first : (b : ℕ) → is_word_start b ≡ true → is_word_byte b ≡ true
word_first b e = grind (arith, nat_tests)

word_taken : (b : ℕ) (bs : List ℕ) → is_word_start b ≡ true
    → Starts is_word_start (take (prefix_len is_word_byte (b ∷ bs)) (b ∷ bs))
word_taken b bs e =
    subst (λ n. Starts is_word_start (take n (b ∷ bs)))
    (sym (ap (λ t. cond t (1 + prefix_len is_word_byte bs) 0) (word_first b e)
    ∙ more (prefix_len is_word_byte bs))) e
  where
    more : (n : ℕ) → 1 + n ≡ suc n
    more n = omega arith

-- what is given only of UTF-8
utf8_given : (bytes : List ℕ) (found : Found) (t : Seen) (rest : List ℕ)
    → if_utf8 bytes found ≡ Some (t, rest) → IsUtf8 bytes × (found ≡ Some (t, rest))
utf8_given bytes found t rest h = elim (chosen (is_utf8 bytes) _ _ _ h) [
  | inl p ↦ (IsUtf8-from_is_utf8 bytes p.0, p.1)
  | inr p ↦ no_none t rest p.1
]

as_word_sound : (o : Option Keyword) (bytes word back : List ℕ) (t : Seen) (rest : List ℕ)
    → keyword_of word ≡ o → IsWord word back → bytes ≡ word ++ back
    → as_word o word back ≡ Some (t, rest) → At bytes t rest
as_word_sound None bytes word back t rest e is w h =
    let u = utf8_given word (a_name_then word back) t rest h in
    given bytes word back rest (a_name word) t u.1 w
    (inl (record { word = is; written = refl; none = e }))
as_word_sound (Some k) bytes word back t rest e is w h =
    given bytes word back rest (a_keyword k) t h w (record { word = is; named = e })

word_sound : (b : ℕ) (bs : List ℕ) (t : Seen) (rest : List ℕ) → is_word_start b ≡ true
    → word_at (b ∷ bs) ≡ Some (t, rest) → At (b ∷ bs) t rest
word_sound b bs t rest e h =
    let n = prefix_len is_word_byte (b ∷ bs) in
    as_word_sound (keyword_of (take n (b ∷ bs))) (b ∷ bs) (take n (b ∷ bs))
    (drop n (b ∷ bs)) t rest refl
    (record {
      starts = word_taken b bs e;
      all = run_passes is_word_byte (b ∷ bs);
      ends = run_stops is_word_byte (b ∷ bs);
    })
    (take_drop n (b ∷ bs)) h

stopped_at : (c : ℕ) → is_no_double c ≡ false → c ≡ 34
stopped_at c e = grind (arith, nat_tests)

name_closed : (bytes front back : List ℕ) (t : Seen) (rest : List ℕ) → bytes ≡ front ++ back
    → list_all is_no_double front ≡ true → Stops is_no_double back
    → closed_name front back ≡ Some (t, rest) → At (34 ∷ bytes) t rest
name_closed bytes [] back t rest w all stops h = no_none t rest h
name_closed bytes (b ∷ bs) [] t rest w all stops h = no_none t rest h
name_closed bytes (b ∷ bs) (c ∷ back) t rest w all stops h =
    let u = utf8_given (b ∷ bs) (a_name_then (b ∷ bs) back) t rest h in
    given (34 ∷ bytes) (34 ∷ ((b ∷ bs) ++ 34 ∷ [])) back rest (a_name (b ∷ bs)) t u.1
    (ap (λ z. 34 ∷ z)
    (w ∙ ap (λ z. (b ∷ bs) ++ z ∷ back) (stopped_at c stops)
    ∙ sym (append_assoc (b ∷ bs) (34 ∷ []) back)))
    (inr (record { written = refl; some = omega arith; all = all; utf8 = u.0 }))

name_sound : (b : ℕ) (bs : List ℕ) (t : Seen) (rest : List ℕ) → b ≡ 34 → name_at bs ≡ Some (t, rest)
    → At (b ∷ bs) t rest
name_sound b bs t rest e h =
    let n = prefix_len is_no_double bs in
    subst (λ z. At (z ∷ bs) t rest) (sym e)
    (name_closed bs (take n bs) (drop n bs) t rest (take_drop n bs) (run_passes is_no_double bs)
    (run_stops is_no_double bs) h)

symbol_given : (bytes : List ℕ) (s : Symbol) (r rest : List ℕ) (t : Seen)
    → ◌≡◌ {A = Found} (Some (a_symbol s, r)) (Some (t, rest)) → bytes ≡ symbol_text s ++ r
    → SymbolEnds s r → At bytes t rest
symbol_given bytes s r rest t h w e =
    given bytes (symbol_text s) r rest (a_symbol s) t h w (record { written = refl; ends = e })

neither : (b : ℕ) → (b == 62) ≡ false → (b == 61) ≡ false → (b == 62 || b == 61) ≡ false
neither b e f = rw (e, f) refl

less_sound : (bs : List ℕ) (t : Seen) (rest : List ℕ) → as_symbol (less_at bs) ≡ Some (t, rest)
    → At (60 ∷ bs) t rest
less_sound [] t rest h = symbol_given (60 ∷ []) symbol.Less [] rest t h refl tt
less_sound (b ∷ bs) t rest h =
    elim (b == 62) as
    (λ x. (b == 62) ≡ x
    → as_symbol (cond x (symbol.NotEqual, bs)
    (cond (b == 61) (symbol.AtMost, bs) (symbol.Less, b ∷ bs))) ≡ Some (t, rest)
    → At (60 ∷ b ∷ bs) t rest) [
      | true ↦ λ e h. symbol_given (60 ∷ b ∷ bs) symbol.NotEqual bs rest t h
          (ap (λ z. 60 ∷ z ∷ bs) (eqb-true b 62 e)) tt
      | false ↦ λ e h. elim (b == 61) as
          (λ x. (b == 61) ≡ x
          → as_symbol (cond x (symbol.AtMost, bs) (symbol.Less, b ∷ bs)) ≡ Some (t, rest)
          → At (60 ∷ b ∷ bs) t rest) [
            | true ↦ λ f h. symbol_given (60 ∷ b ∷ bs) symbol.AtMost bs rest t h
                (ap (λ z. 60 ∷ z ∷ bs) (eqb-true b 61 f)) tt
            | false ↦ λ f h. symbol_given (60 ∷ b ∷ bs) symbol.Less (b ∷ bs) rest t h refl
                (neither b e f)
          ] refl h
    ] refl h

more_sound : (bs : List ℕ) (t : Seen) (rest : List ℕ) → as_symbol (more_at bs) ≡ Some (t, rest)
    → At (62 ∷ bs) t rest
more_sound [] t rest h = symbol_given (62 ∷ []) symbol.More [] rest t h refl tt
more_sound (b ∷ bs) t rest h =
    elim (b == 61) as
    (λ x. (b == 61) ≡ x
    → as_symbol (cond x (symbol.AtLeast, bs) (symbol.More, b ∷ bs)) ≡ Some (t, rest)
    → At (62 ∷ b ∷ bs) t rest) [
      | true ↦ λ e h. symbol_given (62 ∷ b ∷ bs) symbol.AtLeast bs rest t h
          (ap (λ z. 62 ∷ z ∷ bs) (eqb-true b 61 e)) tt
      | false ↦ λ e h. symbol_given (62 ∷ b ∷ bs) symbol.More (b ∷ bs) rest t h refl e
    ] refl h

at_byte : (b k : ℕ) (bs : List ℕ) (t : Seen) (rest : List ℕ) → (b == k) ≡ true → At (k ∷ bs) t rest
    → At (b ∷ bs) t rest
at_byte b k bs t rest e a = subst (λ z. At (z ∷ bs) t rest) (sym (eqb-true b k e)) a

symbol_sound : (b : ℕ) (bs : List ℕ) (t : Seen) (rest : List ℕ) → symbol_at b bs ≡ Some (t, rest)
    → At (b ∷ bs) t rest
symbol_sound b bs t rest h = elim (chosen (b == 40) _ _ _ h) [
  | inl p ↦ at_byte b 40 bs t rest p.0 (symbol_given (40 ∷ bs) symbol.Opening bs rest t p.1 refl tt)
  | inr p ↦ elim (chosen (b == 41) _ _ _ p.1) [
    | inl p ↦ at_byte b 41 bs t rest p.0
        (symbol_given (41 ∷ bs) symbol.Closing bs rest t p.1 refl tt)
    | inr p ↦ elim (chosen (b == 44) _ _ _ p.1) [
      | inl p ↦ at_byte b 44 bs t rest p.0
          (symbol_given (44 ∷ bs) symbol.Comma bs rest t p.1 refl tt)
      | inr p ↦ elim (chosen (b == 61) _ _ _ p.1) [
        | inl p ↦ at_byte b 61 bs t rest p.0
            (symbol_given (61 ∷ bs) symbol.Equal bs rest t p.1 refl tt)
        | inr p ↦ elim (chosen (b == 47) _ _ _ p.1) [
          | inl p ↦ at_byte b 47 bs t rest p.0
              (symbol_given (47 ∷ bs) symbol.Slash bs rest t p.1 refl tt)
          | inr p ↦ elim (chosen (b == 60) _ _ _ p.1) [
            | inl p ↦ at_byte b 60 bs t rest p.0 (less_sound bs t rest p.1)
            | inr p ↦ elim (chosen (b == 62) _ _ _ p.1) [
              | inl p ↦ at_byte b 62 bs t rest p.0 (more_sound bs t rest p.1)
              | inr p ↦ no_none t rest p.1
            ]
          ]
        ]
      ]
    ]
  ]
]

-- the text up to its closing quote
record Closed (at n : ℕ) (bytes : List ℕ) : Type 0 where
  bytes_in : List ℕ
  after : List ℕ
  written : bytes ≡ doubled bytes_in ++ 39 ∷ after
  ends : Stops is_single after
  place : at + length (doubled bytes_in) ≡ n

-- the same where a quote stands before
record ClosedBehind (at n : ℕ) (bytes : List ℕ) : Type 0 where
  bytes_in : List ℕ
  after : List ℕ
  written : 39 ∷ bytes ≡ doubled bytes_in ++ 39 ∷ after
  ends : Stops is_single after
  place : at + length (doubled bytes_in) ≡ n

no_place : {P : Type 0} (n : ℕ) → ◌≡◌ {A = Option ℕ} None (Some n) → P
no_place n e = absurd (cc)

doubled_other : (b : ℕ) (bs : List ℕ) → (b == 39) ≡ false → doubled (b ∷ bs) ≡ b ∷ doubled bs
doubled_other b bs e = ap (λ t. cond t (39 ∷ 39 ∷ doubled bs) (b ∷ doubled bs)) e

mutual
  unfolding text_end

  closed : (bytes : List ℕ) (at n : ℕ) → text_end at false bytes ≡ Some n → Closed at n bytes
  closed [] at n h = no_place n h
  closed (b ∷ bs) at n h = elim (chosen (b == 39) _ _ _ h) [
    | inl p ↦
        let c = closed_behind bs at n p.1 in
        record {
          bytes_in = c.bytes_in;
          after = c.after;
          written = ap (λ z. z ∷ bs) (eqb-true b 39 p.0) ∙ c.written;
          ends =
              c.ends;
          place = c.place;
        }
    | inr p ↦
        let c = closed bs (at + 1) n p.1 in
        record {
          bytes_in = b ∷ c.bytes_in;
          after = c.after;
          written = ap (λ z. b ∷ z) c.written
              ∙ ap (λ z. z ++ 39 ∷ c.after) (sym (doubled_other b c.bytes_in p.0));
          ends = c.ends;
          place = ap (λ z. at + length z) (doubled_other b c.bytes_in p.0) ∙ omega (arith, c.place);
        }
  ]

  closed_behind : (bytes : List ℕ) (at n : ℕ) → text_end (at + 1) true bytes ≡ Some n
      → ClosedBehind at n bytes
  closed_behind [] at n h =
      record {
        bytes_in = [];
        after = [];
        written = refl;
        ends = tt;
        place = omega (arith, same_some (at + 1 - 1) n h);
      }
  closed_behind (b ∷ bs) at n h = elim (chosen (b == 39) _ _ _ h) [
    | inl p ↦
        let c = closed bs (at + 1 + 1) n p.1 in
        record {
          bytes_in = 39 ∷ c.bytes_in;
          after = c.after;
          written = ap (λ z. 39 ∷ z ∷ bs) (eqb-true b 39 p.0) ∙ ap (λ z. 39 ∷ 39 ∷ z) c.written;
          ends = c.ends;
          place = omega (arith, c.place);
        }
    | inr p ↦ record {
      bytes_in = [];
      after = b ∷ bs;
      written = refl;
      ends = p.0;
      place = omega (arith, same_some (at + 1 - 1) n p.1);
    }
  ]

pub undoubled_doubled : (bytes : List ℕ) → undoubled (doubled bytes) ≡ bytes
undoubled_doubled [] = refl
undoubled_doubled (b ∷ bs) =
    elim (b == 39) as
    (λ x. (b == 39) ≡ x → undoubled (cond x (39 ∷ 39 ∷ doubled bs) (b ∷ doubled bs)) ≡ b ∷ bs) [
      | true ↦ λ e. ap (λ z. 39 ∷ z) (undoubled_doubled bs)
          ∙ ap (λ z. z ∷ bs) (sym (eqb-true b 39 e))
      | false ↦ λ e. ap
          (λ x. cond x (39 ∷ undoubled_from true (doubled bs))
          (b ∷ undoubled_from false (doubled bs)))
          e ∙ ap (λ z. b ∷ z) (undoubled_doubled bs)
    ] refl

pub drop_one : (front rest : List ℕ) (b : ℕ) → drop (length front + 1) (front ++ b ∷ rest) ≡ rest
drop_one [] rest b = refl
drop_one (c ∷ front) rest b =
    ap (λ n. drop n (c ∷ (front ++ b ∷ rest))) (more (length front)) ∙ drop_one front rest b
  where
    more : (n : ℕ) → suc n + 1 ≡ suc (n + 1)
    more n = omega arith

text_cut_sound : (o : Option ℕ) (bs : List ℕ) (t : Seen) (rest : List ℕ) → text_end 0 false bs ≡ o
    → text_cut o bs ≡ Some (t, rest) → At (39 ∷ bs) t rest
text_cut_sound None bs t rest e h = no_none t rest h
text_cut_sound (Some n) bs t rest e h =
    let c = closed bs 0 n e in
    let inside = doubled c.bytes_in in
    let place : length inside ≡ n = omega (arith, c.place) in
    let front : take n bs ≡ inside =
    ap (λ k. take k bs) (sym place) ∙ ap (λ z. take (length inside) z) c.written
    ∙ take_front inside (39 ∷ c.after) in
    let back : drop (n + 1) bs ≡ c.after =
    ap (λ k. drop (k + 1) bs) (sym place) ∙ ap (λ z. drop (length inside + 1) z) c.written
    ∙ drop_one inside c.after 39 in
    let says : undoubled (take n bs) ≡ c.bytes_in =
    ap undoubled front ∙ undoubled_doubled c.bytes_in in
    let u = utf8_given (take n bs) (a_text_then (take n bs) (drop (n + 1) bs)) t rest h in
    let found : ◌≡◌ {A = Found} (Some (a_text c.bytes_in, c.after)) (Some (t, rest)) =
    ap (λ z. Some (a_text z, c.after)) (sym says)
    ∙ ap (λ z. Some (a_text (undoubled (take n bs)), z)) (sym back) ∙ u.1 in
    given (39 ∷ bs) (39 ∷ (inside ++ 39 ∷ [])) c.after rest (a_text c.bytes_in) t found
    (ap (λ z. 39 ∷ z) (c.written ∙ sym (append_assoc inside (39 ∷ []) c.after)))
    (record { written = refl; utf8 = subst (λ z. IsUtf8 z) front u.0; ends = c.ends })

text_sound : (b : ℕ) (bs : List ℕ) (t : Seen) (rest : List ℕ) → b ≡ 39 → text_at bs ≡ Some (t, rest)
    → At (b ∷ bs) t rest
text_sound b bs t rest e h =
    subst (λ z. At (z ∷ bs) t rest) (sym e) (text_cut_sound (text_end 0 false bs) bs t rest refl h)

instant_sound_at : (bytes : List ℕ) (o : Option ℤ) (t : Seen) (rest : List ℕ)
    → has_date_form (take 10 bytes) ≡ true
    → instant_of (take (prefix_len is_instant_byte bytes) bytes) ≡ o
    → if_instant o (drop (prefix_len is_instant_byte bytes) bytes) ≡ Some (t, rest)
    → At bytes t rest
instant_sound_at bytes None t rest d e h = no_none t rest h
instant_sound_at bytes (Some ms) t rest d e h =
    let n = prefix_len is_instant_byte bytes in
    given bytes (take n bytes) (drop n bytes) rest (an_instant ms) t h (take_drop n bytes)
    (record {
      date = ten_ahead bytes d;
      all = run_passes is_instant_byte bytes;
      ends = run_stops is_instant_byte bytes;
      spelled = e;
    })

-- the numbers' part
tail_not : (sign : Bool) (b : ℕ) → goes_on sign b ≡ false → is_number_tail b ≡ false
tail_not sign b e = left (is_number_tail b) (sign && is_sign b) e
  where
    left : (x y : Bool) → (x || y) ≡ false → x ≡ false
    left true y e = e
    left false y e = refl

pub end_from : (bytes : List ℕ) (at : ℕ) (sign : Bool)
    → number_end at sign bytes ≡ at + number_end 0 sign bytes
unfolding number_end
end_from [] at sign = omega arith
end_from (b ∷ bs) at sign =
    elim (goes_on sign b) as
    (λ x. cond x (number_end (at + 1) (is_e b) bs) at
    ≡ at + cond x (number_end (0 + 1) (is_e b) bs) 0) [
      | true ↦ omega (arith, end_from bs (at + 1) (is_e b), end_from bs (0 + 1) (is_e b))
      | false ↦ omega arith
    ]

number_stops : (bytes : List ℕ) (sign : Bool)
    → Stops is_number_tail (drop (number_end 0 sign bytes) bytes)
unfolding number_end
number_stops [] sign = tt
number_stops (b ∷ bs) sign =
    elim (goes_on sign b) as
    (λ x. goes_on sign b ≡ x
    → Stops is_number_tail (drop (cond x (number_end (0 + 1) (is_e b) bs) 0) (b ∷ bs))) [
      | true ↦ λ e. subst (λ n. Stops is_number_tail (drop n (b ∷ bs)))
          (more ∙ sym (end_from bs (0 + 1) (is_e b))) (number_stops bs (is_e b))
      | false ↦ λ e. tail_not sign b e
    ] refl
  where
    more : suc (number_end 0 (is_e b) bs) ≡ 0 + 1 + number_end 0 (is_e b) bs
    more = omega arith

number_start_goes_on : (b : ℕ) → is_number_start b ≡ true → goes_on true b ≡ true
number_start_goes_on b e = grind (arith, nat_tests)

number_taken : (b : ℕ) (bs : List ℕ) → is_number_start b ≡ true
    → Starts is_number_start (take (number_end 0 true (b ∷ bs)) (b ∷ bs))
unfolding number_end
number_taken b bs e =
    subst (λ n. Starts is_number_start (take n (b ∷ bs)))
    (sym (ap (λ t. cond t (number_end (0 + 1) (is_e b) bs) 0) (number_start_goes_on b e)
    ∙ end_from bs (0 + 1) (is_e b) ∙ more)) e
  where
    more : 0 + 1 + number_end 0 (is_e b) bs ≡ suc (number_end 0 (is_e b) bs)
    more = omega arith

if_number_sound : {N : Type 0} (o : Option N) (bytes front back : List ℕ) (t : Seen) (rest : List ℕ)
    → (IsSome o → IsNumberPiece front front back) → bytes ≡ front ++ back
    → if_number o front back ≡ Some (t, rest) → At bytes t rest
if_number_sound None bytes front back t rest f w h = no_none t rest h
if_number_sound (Some n) bytes front back t rest f w h =
    given bytes front back rest (a_number front) t
    (utf8_given front (a_number_then front back) t rest h).1 w (f refl)

number_sound : (b : ℕ) (bs : List ℕ) (t : Seen) (rest : List ℕ) → is_number_start b ≡ true
    → has_date_form (take 10 (b ∷ bs)) ≡ false → number_at (b ∷ bs) ≡ Some (t, rest)
    → At (b ∷ bs) t rest
number_sound b bs t rest e d h =
    let n = number_end 0 true (b ∷ bs) in
    if_number_sound (number_of (take n (b ∷ bs))) (b ∷ bs) (take n (b ∷ bs))
    (drop n (b ∷ bs)) t rest
    (λ s. record {
      written = refl;
      starts = number_taken b bs e;
      no_date = ap (λ z. has_date_form (take 10 z)) (sym (take_drop n (b ∷ bs))) ∙ d;
      number = s;
      ends = number_stops (b ∷ bs) true;
    })
    (take_drop n (b ∷ bs)) h

pub token_sound : (bytes : List ℕ) (t : Seen) (rest : List ℕ) → token_at bytes ≡ Some (t, rest)
    → At bytes t rest
unfolding token_at
token_sound [] t rest h = no_none t rest h
token_sound (b ∷ bs) t rest h = elim (chosen (is_word_start b) _ _ _ h) [
  | inl p ↦ word_sound b bs t rest p.0 p.1
  | inr p ↦ elim (chosen (b == 34) _ _ _ p.1) [
    | inl p ↦ name_sound b bs t rest (eqb-true b 34 p.0) p.1
    | inr p ↦ elim (chosen (b == 39) _ _ _ p.1) [
      | inl p ↦ text_sound b bs t rest (eqb-true b 39 p.0) p.1
      | inr p ↦ elim (chosen (is_number_start b) _ _ _ p.1) [
        | inl p ↦ elim (chosen (has_date_form (take 10 (b ∷ bs))) _ _ _ p.1) [
          | inl q ↦ instant_sound_at (b ∷ bs)
              (instant_of (take (prefix_len is_instant_byte (b ∷ bs)) (b ∷ bs))) t rest q.0 refl q.1
          | inr q ↦ number_sound b bs t rest p.0 q.0 q.1
        ]
        | inr p ↦ symbol_sound b bs t rest p.1
      ]
    ]
  ]
]
