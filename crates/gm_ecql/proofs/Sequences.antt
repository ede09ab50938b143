-- Printed pieces one behind the other: names, keywords, numbers, symbols and lists.
use Rattle.std.proofs.Common.{◌≡◌, ℕ, Bool, true, false, ◌&&◌, List, [], ◌∷◌, ◌++◌}
use Rattle.std.proofs.Common.{refl, sym, ◌∙◌, ap, subst, arith, append_assoc, append-nil, codes}
use Rattle.std.specs.List.{list_all}
use Rattle.std.proofs.lemmas.Bool.Decides.{nat_tests}
use Rattle.std.proofs.lemmas.Bool.{and_parts}
use Rattle.gm_base.proofs.Booleans.{and_false}
use Rattle.gm_ecql.specs.declared.token.Symbol.{Symbol}
use Rattle.gm_ecql.specs.declared.token.Symbol.TheVariants as symbol
use Rattle.gm_ecql.specs.Grammar.{by_commas, comma, opening, closing}
use Rattle.gm_ecql.specs.Limits.{is_number}
use Rattle.gm_ecql.specs.Printer.{commas}
use Rattle.gm_ecql.specs.Token.{Seen, a_symbol, IsPiece, SymbolEnds, Stops, is_less_tail}
use Rattle.gm_ecql.specs.Token.{is_more_tail, symbol_text}
use Rattle.gm_ecql.proofs.Lexemes.{Lexeme, lead, text_of, tokens_of, tight, AreSpelled, is_end}
use Rattle.gm_ecql.proofs.Lexemes.{Ends, Follows, FirstIs, Lexed, text_joined, tokens_joined, one}

-- a byte that ends pieces stands first
abbrev pub Begins : List ℕ → Type 0
Begins [] = ⊥
Begins (b ∷ bs) = is_end b ≡ true

ends_more : (x y : List ℕ) → Begins x → Ends (x ++ y)
ends_more [] y e = absurd e
ends_more (b ∷ bs) y e = e

follows : (d : Bool) (bytes : List ℕ) (tokens : List Seen) (after : List Lexeme)
    → (x : Lexed d bytes tokens) → Begins (lead d ++ bytes)
    → Follows after → Follows (x.lexemes ++ after)
follows d bytes tokens after x e f = record {
  spelled = x.spelled after f;
  ends = subst Ends (sym (text_joined x.lexemes after ∙ ap (λ z. z ++ text_of after) x.written))
      (ends_more (lead d ++ bytes) (text_of after) e);
  calm = x.calm after f.calm;
}

-- bytes and tokens behind what is no number, with no blank before them
pub record Opened (bytes : List ℕ) (tokens : List Seen) : Type 0 where
  pub lexemes : List Lexeme
  pub tokens_are : tokens_of lexemes ≡ tokens
  pub written : text_of lexemes ≡ bytes
  pub spelled : (after : List Lexeme) → Follows after → AreSpelled (lexemes ++ after)

pub opened : (b : Bool) (y : List ℕ) (r : List Seen) → Lexed b y r → Opened (lead b ++ y) r
opened b y r l =
    record {
      lexemes = l.lexemes;
      tokens_are = l.tokens_are;
      written = l.written;
      spelled = l.spelled;
    }

first_joined : (b : Bool) (ls ms : List Lexeme) → FirstIs b ls → FirstIs b (ls ++ ms)
first_joined b [] ms f = absurd f
first_joined b (l ∷ ls) ms f = f

pub join : (b d : Bool) (x y : List ℕ) (s r : List Seen) → Lexed b x s → Lexed d y r
    → Begins (lead d ++ y) → Lexed b (x ++ (lead d ++ y)) (s ++ r)
join b d x y s r p q e = record {
  lexemes = p.lexemes ++ q.lexemes;
  tokens_are = tokens_joined p.lexemes q.lexemes ∙ ap (λ z. z ++ tokens_of q.lexemes) p.tokens_are
      ∙ ap (λ z. s ++ z) q.tokens_are;
  written = text_joined p.lexemes q.lexemes ∙ ap (λ z. z ++ text_of q.lexemes) p.written
      ∙ ap (λ z. (lead b ++ x) ++ z) q.written ∙ append_assoc (lead b) x (lead d ++ y);
  first = first_joined b p.lexemes q.lexemes p.first;
  spelled = λ after f. subst AreSpelled (sym (append_assoc p.lexemes q.lexemes after))
      (p.spelled (q.lexemes ++ after) (follows d y r after q e f));
  calm = λ after c. ap tight (append_assoc p.lexemes q.lexemes after)
      ∙ p.calm (q.lexemes ++ after) (q.calm after c);
}

pub opened_join : (d : Bool) (x y : List ℕ) (s r : List Seen) → Opened x s → Lexed d y r
    → Begins (lead d ++ y) → Opened (x ++ (lead d ++ y)) (s ++ r)
opened_join d x y s r p q e = record {
  lexemes = p.lexemes ++ q.lexemes;
  tokens_are = tokens_joined p.lexemes q.lexemes ∙ ap (λ z. z ++ tokens_of q.lexemes) p.tokens_are
      ∙ ap (λ z. s ++ z) q.tokens_are;
  written = text_joined p.lexemes q.lexemes ∙ ap (λ z. z ++ text_of q.lexemes) p.written
      ∙ ap (λ z. x ++ z) q.written;
  spelled = λ after f. subst AreSpelled (sym (append_assoc p.lexemes q.lexemes after))
      (p.spelled (q.lexemes ++ after) (follows d y r after q e f));
}

-- the bytes are a piece of the token, whatever ends it
abbrev pub Printed : List ℕ → Seen → Type 0
Printed piece t = (rest : List ℕ) → Ends rest → IsPiece piece t rest

quiet : (x y : Bool) → y ≡ false → (x && y) ≡ false
quiet true y e = e
quiet false y e = refl

pub blank_one : (piece : List ℕ) (t : Seen) → Printed piece t → Lexed true piece (t ∷ [])
blank_one piece t p = record {
  lexemes = record { blank = true; piece = piece; token = t } ∷ [];
  tokens_are = refl;
  written = ap (λ z. 32 ∷ z) (append-nil piece);
  first = refl;
  spelled = λ after
      f. (p (text_of after) f.ends, quiet (is_number t) (tight after) f.calm, f.spelled);
  calm = λ after c. and_false (is_number t);
}

pub opened_one : (piece : List ℕ) (t : Seen) → Printed piece t → Opened piece (t ∷ [])
opened_one piece t p = record {
  lexemes = record { blank = false; piece = piece; token = t } ∷ [];
  tokens_are = refl;
  written = append-nil piece;
  spelled = λ after
      f. (p (text_of after) f.ends, quiet (is_number t) (tight after) f.calm, f.spelled);
}

-- a piece that is no number, and what follows it
pub piece_then : (b d : Bool) (piece y : List ℕ) (t : Seen) (r : List Seen) → is_number t ≡ false
    → Printed piece t → Lexed d y r → Begins (lead d ++ y)
    → Lexed b (piece ++ (lead d ++ y)) (t ∷ r)
piece_then b d piece y t r n p q e = join b d piece y (t ∷ []) r (one b piece t n p) q e

pub blank_then : (d : Bool) (piece y : List ℕ) (t : Seen) (r : List Seen) → Printed piece t
    → Lexed d y r → Begins (lead d ++ y)
    → Lexed true (piece ++ (lead d ++ y)) (t ∷ r)
blank_then d piece y t r p q e = join true d piece y (t ∷ []) r (blank_one piece t p) q e

pub opened_then : (d : Bool) (piece y : List ℕ) (t : Seen) (r : List Seen) → Printed piece t
    → Lexed d y r → Begins (lead d ++ y)
    → Opened (piece ++ (lead d ++ y)) (t ∷ r)
opened_then d piece y t r p q e = opened_join d piece y (t ∷ []) r (opened_one piece t p) q e

-- a symbol that nothing makes longer, and what follows it
pub symbol_then : (b : Bool) (x : Symbol) (y : List ℕ) (r : List Seen)
    → ((rest : List ℕ) → SymbolEnds x rest) → Opened y r
    → Lexed b (symbol_text x ++ y) (a_symbol x ∷ r)
symbol_then b x y r e o = record {
  lexemes = record { blank = b; piece = symbol_text x; token = a_symbol x } ∷ o.lexemes;
  tokens_are = ap (λ z. a_symbol x ∷ z) o.tokens_are;
  written = ap (λ z. lead b ++ (symbol_text x ++ z)) o.written;
  first = refl;
  spelled = λ after
      f. (
        record { written = refl; ends = e (text_of (o.lexemes ++ after)) },
        refl,
        o.spelled after f,
      );
  calm = λ after c. refl;
}

pub comma_then : (y : List ℕ) (r : List Seen) → Lexed true y r
    → Lexed false (44 ∷ 32 ∷ y) (comma ∷ r)
comma_then y r l = symbol_then false symbol.Comma (32 ∷ y) r (λ rest. tt) (opened true y r l)

pub opening_then : (b : Bool) (y : List ℕ) (r : List Seen) → Opened y r
    → Lexed b (40 ∷ y) (opening ∷ r)
opening_then b y r o = symbol_then b symbol.Opening y r (λ rest. tt) o

pub closing_last : Lexed false (41 ∷ []) (closing ∷ [])
closing_last = one false (41 ∷ []) closing refl (λ rest e. record { written = refl; ends = tt })

end_less : (b : ℕ) → is_end b ≡ true → is_less_tail b ≡ false
end_less b e = grind (arith, nat_tests)

end_more : (b : ℕ) → is_end b ≡ true → is_more_tail b ≡ false
end_more b e = grind (arith, nat_tests)

ends_less : (rest : List ℕ) → Ends rest → Stops is_less_tail rest
ends_less [] e = tt
ends_less (b ∷ bs) e = end_less b e

ends_most : (rest : List ℕ) → Ends rest → Stops is_more_tail rest
ends_most [] e = tt
ends_most (b ∷ bs) e = end_more b e

symbol_ends : (x : Symbol) (rest : List ℕ) → Ends rest → SymbolEnds x rest
symbol_ends symbol.Opening rest e = tt
symbol_ends symbol.Closing rest e = tt
symbol_ends symbol.Comma rest e = tt
symbol_ends symbol.Equal rest e = tt
symbol_ends symbol.NotEqual rest e = tt
symbol_ends symbol.Less rest e = ends_less rest e
symbol_ends symbol.AtMost rest e = tt
symbol_ends symbol.More rest e = ends_most rest e
symbol_ends symbol.AtLeast rest e = tt
symbol_ends symbol.Slash rest e = tt

pub symbol_printed : (x : Symbol) → Printed (symbol_text x) (a_symbol x)
symbol_printed x rest e = record { written = refl; ends = symbol_ends x rest e }

-- Members of lists, with a comma and a blank between them, up to the closing bracket.
module _ {A : Type 0} (item : A → List ℕ) (token : A → Seen) where
  pub AllPrinted : List A → Type 0
  AllPrinted [] = Unit {0}
  AllPrinted (x ∷ xs) = Printed (item x) (token x) × AllPrinted xs

  tail_tokens : List A → List Seen
  tail_tokens [] = closing ∷ []
  tail_tokens (x ∷ xs) = comma ∷ token x ∷ tail_tokens xs

  tail_are : (x : A) (xs : List A)
      → by_commas token (x ∷ xs) ++ closing ∷ [] ≡ token x ∷ tail_tokens xs
  unfolding tail_tokens
  tail_are x [] = refl
  tail_are x (y ∷ ys) = ap (λ z. token x ∷ comma ∷ z) (tail_are y ys)

  tail_begins : (xs : List A) → Begins (commas item false xs ++ codes ")")
  tail_begins [] = refl
  tail_begins (x ∷ xs) = refl

  tail_lexed : (xs : List A) → AllPrinted xs
      → Lexed false (commas item false xs ++ codes ")") (tail_tokens xs)
  unfolding AllPrinted tail_tokens
  tail_lexed [] p = closing_last
  tail_lexed (x ∷ xs) p =
      subst (λ z. Lexed false (44 ∷ 32 ∷ z) (comma ∷ token x ∷ tail_tokens xs))
      (sym (append_assoc (item x) (commas item false xs) (codes ")")))
      (comma_then (item x ++ (commas item false xs ++ codes ")")) (token x ∷ tail_tokens xs)
      (blank_then false (item x) (commas item false xs ++ codes ")") (token x) (tail_tokens xs) p.0
      (tail_lexed xs p.1) (tail_begins xs)))

  pub list_opened : (x : A) (xs : List A) → Printed (item x) (token x) → AllPrinted xs
      → Opened (commas item true (x ∷ xs) ++ codes ")") (by_commas token (x ∷ xs) ++ closing ∷ [])
  list_opened x xs p q =
      subst (λ z. Opened z (by_commas token (x ∷ xs) ++ closing ∷ []))
      (sym (append_assoc (item x) (commas item false xs) (codes ")")))
      (subst (λ z. Opened (item x ++ (commas item false xs ++ codes ")")) z) (sym (tail_are x xs))
      (opened_then false (item x) (commas item false xs ++ codes ")") (token x) (tail_tokens xs) p
      (tail_lexed xs q) (tail_begins xs)))

  pub all_printed : (test : A → Bool) → ((x : A) → test x ≡ true → Printed (item x) (token x))
      → (xs : List A) → list_all test xs ≡ true → AllPrinted xs
  unfolding AllPrinted
  all_printed test each [] e = tt
  all_printed test each (x ∷ xs) e = let p = and_parts (test x) (list_all test xs) e in
      (each x p.0, all_printed test each xs p.1)
