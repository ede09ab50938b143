-- Texts laid out as lexemes: a blank or none, and the piece of a token.
use Rattle.std.proofs.Common.{◌≡◌, ℕ, Bool, true, false, not, ◌&&◌, ◌||◌, ◌==◌, List, [], ◌∷◌, ◌++◌}
use Rattle.std.proofs.Common.{refl, sym, ◌∙◌, ap, arith, append_assoc, append-nil}
use Rattle.std.proofs.lemmas.Bool.Decides.{nat_tests}
use Rattle.gm_calendar.specs.Spelling.{is_instant_byte}
use Rattle.gm_ecql.specs.declared.token.Symbol.{Symbol}
use Rattle.gm_ecql.specs.declared.token.Symbol.TheVariants as symbol
use Rattle.gm_ecql.specs.Limits.{is_number, are_apart_behind, are_numbers_apart}
use Rattle.gm_ecql.specs.Token.{Seen, is_word_byte, is_single, is_number_tail, Stops, IsPiece}
use Rattle.gm_ecql.specs.Token.{IsFirst, Spells, unspaced}

pub record Lexeme : Type 0 where
  pub blank : Bool
  pub piece : List ℕ
  pub token : Seen

abbrev pub lead : Bool → List ℕ
lead true = 32 ∷ []
lead false = []

abbrev pub text_of : List Lexeme → List ℕ
text_of [] = []
text_of (l ∷ ls) = lead l.blank ++ (l.piece ++ text_of ls)

abbrev pub tokens_of : List Lexeme → List Seen
tokens_of [] = []
tokens_of (l ∷ ls) = l.token ∷ tokens_of ls

abbrev pub spaced_of : List Lexeme → List (Bool × Seen)
spaced_of [] = []
spaced_of (l ∷ ls) = (l.blank, l.token) ∷ spaced_of ls

-- a number stands first, and no blank before it
abbrev pub tight : List Lexeme → Bool
tight [] = false
tight (l ∷ ls) = is_number l.token && not l.blank

abbrev pub AreSpelled : List Lexeme → Type 0
AreSpelled [] = Unit {0}
AreSpelled (l ∷ ls) =
    IsPiece l.piece l.token (text_of ls) × ((is_number l.token && tight ls) ≡ false) × AreSpelled ls

-- bytes that end each piece: a blank, brackets, a comma and a slash
abbrev pub is_end : ℕ → Bool
is_end b = b == 32 || (b == 40 || (b == 41 || (b == 44 || b == 47)))

abbrev pub Ends : List ℕ → Type 0
Ends [] = Unit {0}
Ends (b ∷ bs) = is_end b ≡ true

pub record Follows (after : List Lexeme) : Type 0 where
  pub spelled : AreSpelled after
  pub ends : Ends (text_of after)
  pub calm : tight after ≡ false

pub text_joined : (ls ms : List Lexeme) → text_of (ls ++ ms) ≡ text_of ls ++ text_of ms
text_joined [] ms = refl
text_joined (l ∷ ls) ms =
    ap (λ z. lead l.blank ++ (l.piece ++ z)) (text_joined ls ms)
    ∙ ap (λ z. lead l.blank ++ z) (sym (append_assoc l.piece (text_of ls) (text_of ms)))
    ∙ sym (append_assoc (lead l.blank) (l.piece ++ text_of ls) (text_of ms))

pub tokens_joined : (ls ms : List Lexeme) → tokens_of (ls ++ ms) ≡ tokens_of ls ++ tokens_of ms
tokens_joined [] ms = refl
tokens_joined (l ∷ ls) ms = ap (λ z. l.token ∷ z) (tokens_joined ls ms)

pub unspaced_tokens : (ls : List Lexeme) → unspaced (spaced_of ls) ≡ tokens_of ls
unspaced_tokens [] = refl
unspaced_tokens (l ∷ ls) = ap (λ z. l.token ∷ z) (unspaced_tokens ls)

-- lexemes spell their tokens
pub lexed : (ls : List Lexeme) → AreSpelled ls → Spells (text_of ls) (spaced_of ls)
lexed [] p = refl
lexed (l ∷ ls) p = (text_of ls, first l.blank p.0, lexed ls p.2)
  where
    first : (b : Bool) → IsPiece l.piece l.token (text_of ls)
        → IsFirst (lead b ++ (l.piece ++ text_of ls)) b l.token (text_of ls)
    first true q =
        record {
          blanks = 32 ∷ [];
          piece = l.piece;
          written = refl;
          blank = refl;
          told = refl;
          spelled = q;
        }
    first false q =
        record {
          blanks = [];
          piece = l.piece;
          written = refl;
          blank = refl;
          told = refl;
          spelled = q;
        }

apart_behind : (behind : Bool) (ls : List Lexeme) → AreSpelled ls → (behind && tight ls) ≡ false
    → are_apart_behind behind (spaced_of ls) ≡ true
apart_behind behind [] p h = refl
apart_behind behind (l ∷ ls) p h =
    by_first behind (is_number l.token) l.blank h ∙ apart_behind (is_number l.token) ls p.2 p.1
  where
    by_first : (x y z : Bool) → (x && (y && not z)) ≡ false
        → (not (y && (x && not z)) && are_apart_behind y (spaced_of ls))
        ≡ are_apart_behind y (spaced_of ls)
    by_first true true true h = refl
    by_first true true false h = absurd (cc)
    by_first true false z h = refl
    by_first false true z h = refl
    by_first false false z h = refl

pub numbers_apart : (ls : List Lexeme) → AreSpelled ls → are_numbers_apart (spaced_of ls) ≡ true
numbers_apart ls p = apart_behind false ls p refl

-- there is a first, and it stands behind a blank or not
abbrev pub FirstIs : Bool → List Lexeme → Type 0
FirstIs b [] = ⊥
FirstIs b (l ∷ ls) = l.blank ≡ b

-- bytes and tokens, behind a blank or none
pub record Lexed (b : Bool) (bytes : List ℕ) (tokens : List Seen) : Type 0 where
  pub lexemes : List Lexeme
  pub tokens_are : tokens_of lexemes ≡ tokens
  pub written : text_of lexemes ≡ lead b ++ bytes
  pub first : FirstIs b lexemes
  pub spelled : (after : List Lexeme) → Follows after → AreSpelled (lexemes ++ after)
  pub calm : (after : List Lexeme) → tight after ≡ false → tight (lexemes ++ after) ≡ false

-- a piece that each end ends
pub one : (b : Bool) (piece : List ℕ) (t : Seen) → is_number t ≡ false
    → ((rest : List ℕ) → Ends rest → IsPiece piece t rest) → Lexed b piece (t ∷ [])
one b piece t n p = record {
  lexemes = record { blank = b; piece = piece; token = t } ∷ [];
  tokens_are = refl;
  written = ap (λ z. lead b ++ z) (append-nil piece);
  first = refl;
  spelled = λ after f. (p (text_of after) f.ends, ap (λ x. x && tight after) n, f.spelled);
  calm = λ after c. ap (λ x. x && not b) n;
}

end_word : (b : ℕ) → is_end b ≡ true → is_word_byte b ≡ false
end_word b e = grind (arith, nat_tests)

end_single : (b : ℕ) → is_end b ≡ true → is_single b ≡ false
end_single b e = grind (arith, nat_tests)

end_number : (b : ℕ) → is_end b ≡ true → is_number_tail b ≡ false
end_number b e = grind (arith, nat_tests)

end_instant : (b : ℕ) → is_end b ≡ true → is_instant_byte b ≡ false
end_instant b e = grind (arith, nat_tests)

pub ends_word : (rest : List ℕ) → Ends rest → Stops is_word_byte rest
ends_word [] e = tt
ends_word (b ∷ bs) e = end_word b e

pub ends_single : (rest : List ℕ) → Ends rest → Stops is_single rest
ends_single [] e = tt
ends_single (b ∷ bs) e = end_single b e

pub ends_number : (rest : List ℕ) → Ends rest → Stops is_number_tail rest
ends_number [] e = tt
ends_number (b ∷ bs) e = end_number b e

pub ends_instant : (rest : List ℕ) → Ends rest → Stops is_instant_byte rest
ends_instant [] e = tt
ends_instant (b ∷ bs) e = end_instant b e
